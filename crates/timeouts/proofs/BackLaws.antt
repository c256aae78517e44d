-- The lent record: a timeout that a slot has need not be written; a turn's numbers and slot are the rule's; the sent list fits its cells and is read as it is; the slots that bear a mark, gathered into a
-- run of their own; the three lists put one after the other are the rule's. The argument: each step's own equation, in the order of the steps.
use Prim.Native.Nat.{ℕ, ◌≤◌, ◌%◌}
use mathlib.Core.Path.{◌≡◌, refl, ap, sym, ◌∙◌}
use mathlib.Core.Bool.{Bool, true, false}
use mathlib.Core.List.{List, [], ◌∷◌, map}
use native.Mathlib.Omega.{arith}
use lib.Dec.{eqb}
use lib.ListN.{length, take, drop, get_or, set, length-take, length-drop, length-map}
use lib.Seq.{take_all, set-get_or}
use Rattle.numbers.specs.Pick.{pick}
use Rattle.cells.specs.Runs.{prepended, Makes}
use Rattle.record.specs.Lists.{outgoing, out_items, out_keep}
use Rattle.record.proofs.Views.{view_over}
use Rattle.lists.specs.Rows.{low, section, len_of, cells_of}
use Rattle.lists.proofs.Mapped.{map-take}
use Rattle.record.specs.Fresh.{no_outgoing}
use Rattle.record.specs.Updates.{with_attempt, with_timeout}
use Rattle.record.specs.declared.groups.Limits.{Limits}
use Rattle.record.specs.declared.groups.Outgoing.{Outgoing}
use Rattle.peer.specs.Updates.{with_lists, with_outgoing}
use Rattle.peer.specs.declared.Peer.{Peer}
use Rattle.places.specs.Whole.{whole, made, parts, sizes}
use Rattle.queues.specs.Queues.{put_out}
use Rattle.queues.specs.declared.Out.TheVariants as out
use Rattle.overdue.specs.Overdue.{stays, back_outgoing, back_reliable, step_by}
use Rattle.overdue.specs.Walking.{sent_of, turn_by, bearing, ahead, lists_by}
use Rattle.overdue.specs.declared.step.Sent.{Sent}
use Rattle.overdue.specs.declared.step.Walk.{Walk}
use Rattle.overdue.specs.declared.step.After.{After}
use Rattle.overdue.proofs.Laws.{Borne, borne_made}

-- slot s of the record p gets a timeout: o is what the step needs of it
module _ (p : Peer) (s : ℕ) (o : Sent) (oe : o ≡ sent_of (get_or p.outgoing s no_outgoing)) (t : ℕ) where
  abbrev slot : Outgoing
  slot = get_or p.outgoing s no_outgoing

  pub retime_same : t ≡ o.timeout → p ≡ with_outgoing p (set p.outgoing s (with_timeout slot t))
  retime_same e =
      ap (with_outgoing p) (sym (set-get_or p.outgoing s no_outgoing))
      ∙ ap (λ (x : ℕ). with_outgoing p (set p.outgoing s (with_timeout slot x))) (sym (e ∙ ap (λ (x : Sent). x.timeout) oe))

  pub retime_put : (v : Peer) → v ≡ with_outgoing p (set p.outgoing s (with_attempt slot o.sent t o.attempts))
      → v ≡ with_outgoing p (set p.outgoing s (with_timeout slot t))
  retime_put v e = e ∙ ap (λ (x : Sent). with_outgoing p (set p.outgoing s (with_attempt slot x.sent t x.attempts))) oe

-- a turn: b is what the step needs of the slot o, r what the step made of it
module _ (l : Limits) (clock : ℕ) (w : Walk) (o : Outgoing) (b : Sent) (r : After) (be : b ≡ sent_of o) (re : r ≡ step_by l clock w b) where
  pub turn_is : r ≡ step_by l clock w (sent_of o)
  turn_is = re ∙ ap (step_by l clock w) be

  pub turn_put : (p v : Peer) (s : ℕ) → v ≡ with_outgoing p (set p.outgoing s (with_timeout o r.timeout))
      → v ≡ with_outgoing p (set p.outgoing s (turn_by l clock w o).slot)
  turn_put p v s e = e ∙ ap (λ (x : After). with_outgoing p (set p.outgoing s (with_timeout o x.timeout))) turn_is

-- the sent list of any numbers
module _ (ws : List ℕ) where
  pub sent_fits : length (out_items (whole ws).lists.sent) ≤ outgoing
  unfolding made parts sizes
  sent_fits = simp (length-take, length-map, length-drop) (omega arith)

  lows : (xs : List ℕ) → map low (map low xs) ≡ map low xs
  lows [] = refl
  lows (x ∷ xs) = let e : x % 65536 % 65536 ≡ x % 65536 = omega arith in rw (e, lows xs)

  pub sent-low : map low (out_items (whole ws).lists.sent) ≡ out_items (whole ws).lists.sent
  unfolding made parts sizes
  sent-low =
      let row = section 43 33 ws in
      map-take low (len_of row) (cells_of row) ∙ ap (take (len_of row)) (lows (drop 1 row))

module _ (mark : ℕ) where
  bearing-map : (f : ℕ → ℕ) (ms xs : List ℕ) → bearing mark ms (map f xs) ≡ map f (bearing mark ms xs)
  unfolding bearing
  bearing-map f ms [] = refl
  bearing-map f ms (x ∷ xs) = rw (bearing-map f (drop 1 ms) xs) (go (eqb (get_or ms 0 stays) mark))
    where
      rest : List ℕ
      rest = bearing mark (drop 1 ms) xs

      go : (b : Bool) → pick b (f x ∷ map f rest) (map f rest) ≡ map f (pick b (x ∷ rest) rest)
      go true = refl
      go false = refl

  -- the run at the loop's end
  pub gathered : (ws marks base slots : List ℕ) (k m : ℕ) → length (out_items (whole ws).lists.sent) ≤ k → k ≤ length base
      → Borne mark marks (out_items (whole ws).lists.sent) base k slots m → map low (take m slots) ≡ bearing mark marks (out_items (whole ws).lists.sent)
  gathered ws marks base slots k m h f b =
      let items = out_items (whole ws).lists.sent in
      let xs = bearing mark marks (take k items) in
      let z : Makes base xs m slots = borne_made mark marks items base b f in
      let run : take m slots ≡ xs = rw (z.count, z.cells) (view_over xs base) in
      rw (run, take_all k items h) (sym (bearing-map low marks items) ∙ ap (bearing mark marks) (sent-low ws))

-- the lists one after the other
pub sent_back : (p v w z : Peer) (marks rs os ks : List ℕ) → rs ≡ bearing back_reliable marks (out_items p.lists.sent)
    → v ≡ put_out out.Reliable p (out_keep p.lists.send_reliable (prepended outgoing rs (out_items p.lists.send_reliable)))
    → os ≡ bearing back_outgoing marks (out_items v.lists.sent)
    → w ≡ put_out out.Outgoing v (out_keep v.lists.outgoing (prepended outgoing os (out_items v.lists.outgoing)))
    → ks ≡ bearing stays marks (out_items w.lists.sent) → z ≡ put_out out.Sent w (out_keep w.lists.sent ks)
    → z ≡ with_lists p (lists_by marks p.lists)
sent_back p v w z marks rs os ks r a o b k c =
    c
    ∙ ap (λ (xs : List ℕ). put_out out.Sent w (out_keep w.lists.sent xs)) k
    ∙ ap (λ (q : Peer). put_out out.Sent q (out_keep q.lists.sent (bearing stays marks (out_items q.lists.sent))))
    (b
    ∙ ap (λ (xs : List ℕ). put_out out.Outgoing v (ahead v.lists.outgoing xs)) o
    ∙ ap (λ (q : Peer). put_out out.Outgoing q (ahead q.lists.outgoing (bearing back_outgoing marks (out_items q.lists.sent))))
    (a ∙ ap (λ (xs : List ℕ). put_out out.Reliable p (ahead p.lists.send_reliable xs)) r))
