-- The lent walk on the run of a sound record's sent commands is the timeout check on the record: the same answer, numbers and moves.
-- The argument: with flags as 1 or 0 the lent walk is the step's own (timeouts_lent Flags); then by induction on the slots: a slot stands once in the list, so
-- storing one's timeout leaves what later ones are read from.
use Prim.Native.Nat.{ℕ}
use mathlib.Core.Path.{◌≡◌, refl, ap, sym, ◌∙◌}
use mathlib.Core.Bool.{Bool, true, false, not}
use mathlib.Core.List.{List, [], ◌∷◌, ◌++◌, map}
use native.Mathlib.Omega.{arith}
use lib.Dec.{eqb}
use lib.ListN.{get_or, set}
use lib.Seq.{get_or-set_other}
use borrow.Author.Tests.{eqb-false, not-true}
use Rattle.std.specs.Prelude.{Ok}
use Rattle.numbers.specs.Pick.{pick}
use Rattle.numbers.proofs.BoolLaws.{both_left, both_right}
use Rattle.cells.specs.Runs.{has}
use Rattle.cells.specs.Free.{once}
use Rattle.record.specs.Lists.{out_items}
use Rattle.record.proofs.Keeps.{times_append, once_less}
use Rattle.record.specs.Fresh.{no_outgoing}
use Rattle.record.specs.declared.groups.Limits.{Limits}
use Rattle.record.specs.declared.groups.Outgoing.{Outgoing}
use Rattle.peer.specs.Damage.{sound}
use Rattle.peer.specs.Gate.{fits, gate_of}
use Rattle.peer.specs.Outcome.{Outcome}
use Rattle.peer.specs.declared.settings.Settings.{Settings}
use Rattle.peer.specs.declared.Peer.{Peer}
use Rattle.peer.specs.declared.gate.Lent.TheVariants.{Nothing}
use Rattle.peer.proofs.Gates.{sound_open, behind_open}
use Rattle.peer.proofs.Clauses.{sound_clauses}
use Rattle.overdue.specs.Overdue.{stays}
use Rattle.overdue.specs.Walking as overdue
use Rattle.overdue.specs.declared.step.Sent.{Sent}
use Rattle.overdue.specs.declared.step.Walk.{Walk}
use Rattle.timeouts.specs.Calls.{answer_of, reply_by, walked_on, checks_sound, checks}
use Rattle.timeouts_lent.specs.Walking.{Walked, walked_run}
use Rattle.timeouts_lent.specs.Stepped.{stepped}
use Rattle.timeouts_lent.specs.declared.Awaiting.{Awaiting}
use Rattle.timeouts_lent.proofs.Flags.{read_written, walk_steps}
use Rattle.laws.specs.Joining.{taken, put_back, lent_check, run_of}

-- a store at a slot that is not among them leaves what they are read from
taken_other : (slots : List Outgoing) (s : ℕ) (o : Outgoing) (xs : List ℕ) → has xs s ≡ false → taken (set slots s o) xs ≡ taken slots xs
taken_other slots s o [] h = refl
taken_other slots s o (x ∷ xs) h = go (taken_other slots s o xs) (eqb x s) refl h
  where
    go : (has xs s ≡ false → taken (set slots s o) xs ≡ taken slots xs) → (b : Bool) → eqb x s ≡ b → pick b true (has xs s) ≡ false
        → taken (set slots s o) (x ∷ xs) ≡ taken slots (x ∷ xs)
    go rest true e h = let z : ◌≡◌ {A = ℕ} 0 1 = cc in absurd (omega arith)
    go rest false e h = rw (get_or-set_other slots s x o no_outgoing (eqb-false x s e), rest h)

-- a walked run, as a walk over these slots
abbrev over : List ℕ → List Outgoing → Walked → overdue.Walked
over xs slots r = record { walk = r.walk; marks = map (λ (a : Awaiting). a.mark) r.run; slots = put_back xs r.run slots }

module _ (l : Limits) (clock : ℕ) where
  walk_joins : (xs : List ℕ) (w : Walk) (slots : List Outgoing) → once xs ≡ true
      → overdue.walked l clock xs w slots ≡ over xs slots (stepped l clock w (taken slots xs))
  unfolding overdue.walked stepped put_back once
  walk_joins [] w slots h = refl
  walk_joins (s ∷ ss) w slots h =
      let t = overdue.turn_by l clock w (get_or slots s no_outgoing) in
      let after = set slots s t.slot in
      ap (overdue.marked_by t.mark) (walk_joins ss t.walk after (both_right (not (has ss s)) (once ss) h))
      ∙ ap (λ (os : List Sent). overdue.marked_by t.mark (over ss after (stepped l clock t.walk os)))
      (taken_other slots s t.slot ss (not-true (has ss s) (both_left (not (has ss s)) (once ss) h)))

-- a slot stands once in the sent list
sent-once : (p : Peer) → sound p ≡ true → once (out_items p.lists.sent) ≡ true
sent-once p h =
    let sent = out_items p.lists.sent in
    let rest = out_items p.lists.send_reliable ++ out_items p.lists.outgoing in
    once_less (sent ++ rest) sent (λ k. omega (arith, times_append sent rest k)) (sound_clauses p h).single

-- what a walk over the sent list makes of a record
abbrev checked_by : Peer → overdue.Walked → Outcome Peer
checked_by p w = record { answer = answer_of (Ok (reply_by w.walk.over)); after = walked_on p w }

pub lent_joins : (s : Settings) (clock : ℕ) (p : Peer) → gate_of (fits s Nothing) (sound p) ≡ Ok tt → checks s clock p ≡ lent_check clock p
lent_joins s clock p e =
    let xs = out_items p.lists.sent in
    let w = overdue.at_entry p.times p.loss p.flow in
    behind_open (gate_of (fits s Nothing) (sound p)) p (checks_sound clock p) e
    ∙ ap (checked_by p) (walk_joins p.limits clock xs w p.outgoing (sent-once p (sound_open (fits s Nothing) (sound p) e)))
    ∙ ap (λ (r : Walked). checked_by p (over xs p.outgoing r)) (sym (walk_steps p.limits clock stays w (taken p.outgoing xs)))
    ∙ ap (λ (v : Walk). checked_by p (over xs p.outgoing (record { walk = v; run = (walked_run p.limits clock w (run_of p)).run })))
    (sym (read_written (walked_run p.limits clock w (run_of p)).walk))
