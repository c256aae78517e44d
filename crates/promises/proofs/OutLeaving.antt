-- What leaves the three outgoing lists: a send step frees its head only where that asks for no answer, an acknowledgement one slot of the number and
-- channel that it names or none, a timeout check none. The argument: the lists then name no slot more often, and what a slot holds stays but for its
-- sent time, timeout and attempts.
use Prim.Native.Nat.{ℕ, ◌+◌, ◌≤◌}
use mathlib.Core.Path.{◌≡◌, refl, ap, sym, subst, ◌∙◌}
use mathlib.Core.Bool.{Bool, true, false}
use mathlib.Core.List.{List, [], ◌∷◌}
use native.Mathlib.Omega.{arith}
use lib.ListN.{length, get_or, set}
use Rattle.std.specs.Prelude.{⊤, Result}
use Rattle.numbers.specs.Pick.{pick}
use Rattle.numbers.specs.declared.refusals.Refusal.{Refusal}
use Rattle.cells.specs.Runs.{first}
use Rattle.cells.specs.Free.{once}
use Rattle.record.specs.Lists.{out_items}
use Rattle.record.proofs.Keeps.{one, times, times_append}
use Rattle.record.specs.Damage.{used_out}
use Rattle.record.specs.Fresh.{no_outgoing}
use Rattle.record.specs.declared.groups.Lists.{Lists}
use Rattle.record.specs.declared.groups.Outgoing.{Outgoing}
use Rattle.peer.specs.Damage.{sound}
use Rattle.peer.specs.Gate.{fits, gate_of}
use Rattle.peer.specs.Outcome.{Outcome}
use Rattle.peer.specs.Sounds.{Whole}
use Rattle.peer.specs.declared.settings.Settings.{Settings}
use Rattle.peer.specs.declared.Peer.{Peer}
use Rattle.peer.specs.declared.gate.Lent.TheVariants as lent
use Rattle.peer.proofs.Gates.{sound_open, behind_has}
use Rattle.peer.proofs.Clauses.{Clauses, sound_clauses}
use Rattle.command.specs.Flags.{acknowledged}
use Rattle.send_step.specs.Steps.{list_of, is_acknowledged, head, sent_as}
use Rattle.send_step.specs.Calls.{steps_from, steps_sound, steps}
use Rattle.send_step.specs.declared.heads.Queue.{Queue}
use Rattle.send_step.proofs.Freeing.{sent_by, sent_by_lem, without_takes, joined_keeps}
use Rattle.acknowledge.specs.Calls.{acknowledges_sound, acknowledges}
use Rattle.timeouts.specs.Calls.{checks_sound, checks}
use Rattle.laws.specs.Freeing.{Removes}
use Rattle.laws.specs.Freeing as freeing
use Rattle.laws.specs.Moving.{Moves}
use Rattle.laws.proofs.Acknowledged.{acknowledge_removes}
use Rattle.laws.proofs.Checked.{check_moves, check_sounds}
use Rattle.promises.specs.Counts.{count}
use Rattle.promises.specs.Outbook.{Item, item_of, items_at, waiting, missing, gone, heard, is_named}
use Rattle.promises.proofs.Unreported.{part_set}
use Rattle.promises.proofs.OutCounts.{count_map, count-all, map_same, count_same, once-times, missing_none, missing-count}

abbrev gate : Settings → Peer → Result ⊤ Refusal
gate s p = gate_of (fits s lent.Nothing) (sound p)

-- the command in a slot
abbrev pub item_at : Peer → ℕ → Item
item_at p s = item_of (get_or p.outgoing s no_outgoing)

abbrev used : Peer → List ℕ
used p = used_out p.lists

-- ---- two records whose slots hold the same commands
module _ (p q : Peer) (same : (k : ℕ) → item_at q k ≡ item_at p k) where
  by_slots : (f : Item → Bool) → count f (waiting q) ≡ count (λ (s : ℕ). f (item_at p s)) (used q)
  by_slots f = ap (count f) (map_same (item_at q) (item_at p) (used q) (λ s h. same s)) ∙ count_map f (item_at p) (used q)

  -- their lists name each slot as often
  pub same_waiting : ((k : ℕ) → times (used q) k ≡ times (used p) k) → (f : Item → Bool) → count f (waiting q) ≡ count f (waiting p)
  same_waiting h f = by_slots f ∙ count_same (λ (s : ℕ). f (item_at p s)) (used q) (used p) h ∙ sym (count_map f (item_at p) (used p))

  -- the second's name none more often
  leaving : once (used p) ≡ true → ((k : ℕ) → times (used q) k ≤ times (used p) k) → (f : Item → Bool)
      → count f (gone p q) + count f (waiting q) ≡ count f (waiting p)
  leaving single fewer f =
      omega (
        arith,
        count_map f (item_at p) (missing (used p) (used q)),
        by_slots f,
        count_map f (item_at p) (used p),
        missing-count (λ (s : ℕ). f (item_at p s)) (used p) (used q) single fewer,
      )

  -- one slot fewer, and its command is gone
  one-gone : once (used p) ≡ true → (s : ℕ) → ((k : ℕ) → one s k + times (used q) k ≡ times (used p) k) → (f : Item → Bool)
      → count f (gone p q) ≡ pick (f (item_at p s)) 1 0
  unfolding count
  one-gone single s takes f =
      omega (
        arith,
        by_slots f,
        count_map f (item_at p) (used p),
        count_same (λ (j : ℕ). f (item_at p j)) (used p) (s ∷ used q) (λ k. sym (takes k)),
        leaving single (λ k. omega (arith, takes k)) f,
      )

-- what is gone and what still waits are what waited
abbrev pub Leaves : Peer → Peer → Type 0
Leaves p q = (f : Item → Bool) → count f (gone p q) + count f (waiting q) ≡ count f (waiting p)

none_gone : (p : Peer) → gone p p ≡ []
none_gone p = ap (items_at p) (missing_none (used p))

none_leaves : (p : Peer) → Leaves p p
unfolding count
none_leaves p f = ap (λ (is : List Item). count f is + count f (waiting p)) (none_gone p) ∙ omega arith

-- ---- a send step
abbrev pub asks : Item → Bool
asks i = acknowledged i.command.byte

pub record Steps (p q : Peer) : Type 0 where
  pub leaves : Leaves p q
  pub plain : count asks (gone p q) ≡ 0

none_steps : (p : Peer) → Steps p p
unfolding count
none_steps p = record { leaves = none_leaves p; plain = ap (count asks) (none_gone p) }

module _ (k : Queue) (s time : ℕ) (rest : List ℕ) (p : Peer) (e : out_items (list_of k p.lists) ≡ s ∷ rest) (w : Clauses p) where
  abbrev o : Outgoing
  o = head p s time

  -- the head keeps its command
  kept_items : (j : ℕ) → item_of (get_or (set p.outgoing s o) j no_outgoing) ≡ item_at p j
  kept_items j = part_set item_of p.outgoing s o no_outgoing j refl

  by_steps : (b : Bool) → is_acknowledged o ≡ b → Steps p (sent_by b k s o p)
  by_steps true a =
      let q = sent_by true k s o p in
      let same = joined_keeps k p.lists s rest e w.exists w.single in
      let leaves = leaving p q kept_items w.single (λ j. omega (arith, same j)) in
      record { leaves = leaves; plain = omega (arith, leaves asks, same_waiting p q kept_items same asks) }
  by_steps false a =
      let q = sent_by false k s o p in
      let takes = without_takes k p.lists s rest e in
      let leaves = leaving p q kept_items w.single (λ j. omega (arith, takes j)) in
      record { leaves = leaves; plain = one-gone p q kept_items w.single s takes asks ∙ ap (λ (b : Bool). pick b 1 0) a }

  as_steps : Steps p (sent_as k s o p)
  as_steps = subst (Steps p) (sym (sent_by_lem k s o p)) (by_steps (is_acknowledged o) refl)

pub step_leaves : (s : Settings) (k : Queue) (time : ℕ) (p : Peer) → Steps p (steps s k time p).after
step_leaves s k time p =
    behind_has (gate s p) p (steps_sound k time p) (λ (o : Outcome Peer). Steps p o.after) (λ why. none_steps p)
    (λ e. go (sound_clauses p (sound_open (fits s lent.Nothing) (sound p) e)) (out_items (list_of k p.lists)) refl)
  where
    go : Clauses p → (xs : List ℕ) → out_items (list_of k p.lists) ≡ xs → Steps p (steps_from (first xs) k time p).after
    go w [] e = none_steps p
    go w (n ∷ rest) e = as_steps k n time rest p e w

-- ---- an acknowledgement
-- a command bears the number and the channel that an acknowledgement named
abbrev bears : ℕ → ℕ → Item → Bool
bears number channel i = is_named (heard number channel i)

pub record Hears (number channel : ℕ) (p q : Peer) : Type 0 where
  pub leaves : Leaves p q
  pub named : count (bears number channel) (gone p q) ≡ length (gone p q)

none_hears : (number channel : ℕ) (p : Peer) → Hears number channel p p
unfolding count
none_hears number channel p =
    record { leaves = none_leaves p; named = ap (count (bears number channel)) (none_gone p) ∙ sym (ap length (none_gone p)) }

module _ (number channel : ℕ) (p q : Peer) (good : sound p ≡ true) where
  abbrev single : once (used p) ≡ true
  single = (sound_clauses p good).single

  same_items : q.outgoing ≡ p.outgoing → (k : ℕ) → item_at q k ≡ item_at p k
  same_items slots k = ap (λ (os : List Outgoing). item_of (get_or os k no_outgoing)) slots

  removes_hears : Removes number channel p q → Hears number channel p q
  removes_hears (freeing.none lists slots) =
      let same : (k : ℕ) → times (used q) k ≡ times (used p) k = λ k. ap (λ (l : Lists). times (used_out l) k) lists in
      let leaves = leaving p q (same_items slots) single (λ k. omega (arith, same k)) in
      let all : Item → Bool = λ i. true in
      record {
        leaves = leaves;
        named =
            omega (
              arith,
              leaves (bears number channel),
              same_waiting p q (same_items slots) same (bears number channel),
              leaves all,
              same_waiting p q (same_items slots) same all,
              count-all (gone p q),
            );
      }
  removes_hears (freeing.one r) =
      let takes : (k : ℕ) → one r.slot k + times (used q) k ≡ times (used p) k =
      λ k.
      omega (
        arith,
        ap (λ (xs : List ℕ). times xs k) r.was ∙ times_append r.front (r.slot ∷ r.rest) k,
        ap (λ (xs : List ℕ). times xs k) r.is ∙ times_append r.front r.rest k,
      ) in
      let goes = one-gone p q (same_items r.slots) single r.slot takes in
      let that : ◌≡◌ {A = ℕ} (pick (bears number channel (item_at p r.slot)) 1 0) 1 = ap (λ (b : Bool). pick b 1 0) r.bears in
      record {
        leaves = leaving p q (same_items r.slots) single (λ k. omega (arith, takes k));
        named = omega (arith, goes (bears number channel), that, goes (λ (i : Item). true), count-all (gone p q));
      }

pub acknowledge_hears : (s : Settings) (channel number sent clock : ℕ) (p : Peer)
    → Hears number channel p (acknowledges s channel number sent clock p).after
acknowledge_hears s channel number sent clock p =
    behind_has (gate s p) p (acknowledges_sound channel number sent clock p)
    (λ (o : Outcome Peer). Removes number channel p o.after → Hears number channel p o.after) (λ why r. none_hears number channel p)
    (λ e. removes_hears number channel p (acknowledges_sound channel number sent clock p).after (sound_open (fits s lent.Nothing) (sound p) e))
    (acknowledge_removes s channel number sent clock p)

-- ---- a timeout check
pub check_keeps : (s : Settings) (clock : ℕ) (p : Peer) → Whole p → (f : Item → Bool)
    → count f (waiting (checks s clock p).after) ≡ count f (waiting p)
check_keeps s clock p whole =
    behind_has (gate s p) p (checks_sound clock p)
    (λ (o : Outcome Peer).
    (sound p ≡ true → sound o.after ≡ true) → Moves p o.after → (f : Item → Bool) → count f (waiting o.after) ≡ count f (waiting p))
    (λ why keeps m f. refl)
    (λ e keeps m.
    let good = sound_open (fits s lent.Nothing) (sound p) e in
    let q = (checks_sound clock p).after in
    same_waiting p q (λ k. ap item_of (m.slots k))
    (once-times (used q) (used p) (sound_clauses q (keeps good)).single (sound_clauses p good).single m.names))
    ((check_sounds s clock).keeps p whole) (check_moves s clock p)
