-- The turns of the walks over a channel's list: whether a number is held, and how many stand before the first that is farther.
-- The argument: what is left of the list is the slot at place k and what is left after it; the test on it picks the rule's case.
use Rattle.std.proofs.Common.{◌≡◌, ℕ, suc, ◌+◌, ◌<◌, ◌≤◌, true, false, eqb, ltb, List, length, get_or, take, drop, ◌∙◌, arith, le-ltb, lt-ltb, eq-eqb, ne_eqb}
use Rattle.numbers.specs.Pick.{pick}
use Rattle.cells.proofs.Views.{part_step, part_end}
use Rattle.record.specs.Fresh.{no_incoming}
use Rattle.record.specs.declared.groups.Incoming.{Incoming}
use Rattle.arrive_reliable.specs.Holding.{number_distance, holds, place_of}

-- i is the slot at place k
module _ (slots : List Incoming) (xs : List ℕ) (n k : ℕ) (e : n ≤ length xs) (h : k < n)
    (i : Incoming) (is : i ≡ get_or slots (get_or xs k 0) no_incoming) where
  module _ (number : ℕ) where
    held_step : holds slots (drop k (take n xs)) number ≡ pick (eqb i.number.0 number) true (holds slots (drop (k + 1) (take n xs)) number)
    unfolding holds
    held_step = rw (part_step xs k n 0 h (omega arith), is)

    pub held_hit : i.number.0 ≡ number → holds slots (drop k (take n xs)) number ≡ true
    held_hit q = held_step ∙ rw (eq-eqb i.number.0 number q)

    pub held_miss : (i.number.0 ≡ number → ⊥) → holds slots (drop k (take n xs)) number ≡ holds slots (drop (k + 1) (take n xs)) number
    held_miss q = held_step ∙ rw (ne_eqb i.number.0 number q)

  -- far is how far it is, d how far the arrival
  module _ (last d far : ℕ) (asked : far ≡ number_distance last i.number.0) where
    near_step : place_of slots (drop k (take n xs)) last d ≡ pick (ltb d far) 0 (suc (place_of slots (drop (k + 1) (take n xs)) last d))
    unfolding place_of
    near_step = rw (part_step xs k n 0 h (omega arith), asked, is)

    pub near_stop : d < far → place_of slots (drop k (take n xs)) last d ≡ 0
    near_stop q = near_step ∙ rw (lt-ltb d far q)

    pub near_turn : far ≤ d → place_of slots (drop k (take n xs)) last d ≡ suc (place_of slots (drop (k + 1) (take n xs)) last d)
    near_turn q = near_step ∙ rw (le-ltb d far q)

-- the list is at its end
pub held_end : (slots : List Incoming) (xs : List ℕ) (n k number : ℕ) → n ≤ k → holds slots (drop k (take n xs)) number ≡ false
unfolding holds
held_end slots xs n k number h = rw (part_end xs k n h)

pub near_end : (slots : List Incoming) (xs : List ℕ) (n k last d : ℕ) → n ≤ k → place_of slots (drop k (take n xs)) last d ≡ 0
unfolding place_of
near_end slots xs n k last d h = rw (part_end xs k n h)
