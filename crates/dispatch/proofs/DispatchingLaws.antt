-- The turns of the walk over a channel's list, and two laws of numbers: a sum less 1, and a bit of value 1 in a word of 16.
-- The argument: what is left of the list is the slot at place k and what is left after it; whether it follows picks the rule's case.
use Rattle.std.proofs.Common.{◌≡◌, ℕ, suc, ◌+◌, ◌%◌, ◌<◌, ◌≤◌, Bool, true, false, List, length, get_or, take, drop, ◌∙◌, arith}
use Rattle.numbers.specs.Pick.{pick}
use Rattle.cells.proofs.Views.{part_step, part_end}
use Rattle.record.specs.Fresh.{no_incoming}
use Rattle.record.specs.declared.groups.Incoming.{Incoming}
use Rattle.dispatch.specs.Dispatching.{follows, number_after, ready_count, ready_last}

-- i is the slot at place k, b whether it follows
module _ (slots : List Incoming) (xs : List ℕ) (n k last : ℕ) (e : n ≤ length xs) (h : k < n)
    (i : Incoming) (is : i ≡ get_or slots (get_or xs k 0) no_incoming) (b : Bool) (asked : b ≡ follows last i) where
  count_step : ready_count slots (drop k (take n xs)) last ≡ pick b (suc (ready_count slots (drop (k + 1) (take n xs)) (number_after i))) 0
  unfolding ready_count
  count_step = rw (part_step xs k n 0 h (omega arith), asked, is)

  last_step : ready_last slots (drop k (take n xs)) last ≡ pick b (ready_last slots (drop (k + 1) (take n xs)) (number_after i)) last
  unfolding ready_last
  last_step = rw (part_step xs k n 0 h (omega arith), asked, is)

  pub count_stop : b ≡ false → ready_count slots (drop k (take n xs)) last ≡ 0
  count_stop q = count_step ∙ rw q

  pub last_stop : b ≡ false → ready_last slots (drop k (take n xs)) last ≡ last
  last_stop q = last_step ∙ rw q

  module _ (q : b ≡ true) (next : ℕ) (left : next ≡ number_after i) where
    pub count_turn : ready_count slots (drop k (take n xs)) last ≡ suc (ready_count slots (drop (k + 1) (take n xs)) next)
    count_turn = count_step ∙ rw (q, left)

    pub last_turn : ready_last slots (drop k (take n xs)) last ≡ ready_last slots (drop (k + 1) (take n xs)) next
    last_turn = last_step ∙ rw (q, left)

-- the list is at its end
pub count_end : (slots : List Incoming) (xs : List ℕ) (n k last : ℕ) → n ≤ k → ready_count slots (drop k (take n xs)) last ≡ 0
unfolding ready_count
count_end slots xs n k last h = rw (part_end xs k n h)

pub last_end : (slots : List Incoming) (xs : List ℕ) (n k last : ℕ) → n ≤ k → ready_last slots (drop k (take n xs)) last ≡ last
unfolding ready_last
last_end slots xs n k last h = rw (part_end xs k n h)

-- a number that is added modulo 65,536 may be reduced first
pub sum_reduced : (a b : ℕ) → (a + b % 65536) % 65536 ≡ (a + b) % 65536
sum_reduced a b = omega arith
