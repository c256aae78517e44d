-- The turns of the walks that look for a block. The argument: what is left of the list is the slot at place k and what is left after it; the test on it picks the
-- rule's case.
use Rattle.std.specs.Prelude.{None, Some}
use Prim.Native.Nat.{ℕ, zero, suc, ◌+◌, ◌≤◌, ◌<◌}
use mathlib.Core.Path.{◌≡◌, refl, ap, sym, ◌∙◌}
use mathlib.Core.Bool.{Bool, true, false, not, false≢true}
use mathlib.Core.List.{List, [], ◌++◌}
use native.Mathlib.Omega.{arith}
use lib.Dec.{eqb}
use lib.ListN.{length, take, drop, get_or}
use borrow.Author.Tests.{eqb-true, eq-eqb, ne_eqb}
use Rattle.numbers.specs.Pick.{pick}
use Rattle.cells.proofs.Views.{part_step, part_end}
use Rattle.record.specs.Fresh.{no_incoming, no_channel}
use Rattle.record.specs.Lists.{in_items}
use Rattle.record.specs.Blocks.{is_block}
use Rattle.record.specs.Damage.{held, blocks}
use Rattle.record.specs.declared.groups.Channel.{Channel}
use Rattle.record.specs.declared.groups.Incoming.{Incoming}
use Rattle.damage.proofs.SumLaws.{blocks_append}
use Rattle.arrive_fragment.specs.Pieces.{is_unfinished, unfinished}

-- s is the slot at place k, i what it holds
module _ (slots : List Incoming) (xs : List ℕ) (n k : ℕ) (e : n ≤ length xs) (h : k < n)
    (s : ℕ) (at : s ≡ get_or xs k 0) (i : Incoming) (is : i ≡ get_or slots s no_incoming) where
  module _ (start : ℕ) where
    found_step : unfinished slots (drop k (take n xs)) start ≡ pick (is_unfinished start i) (Some s) (unfinished slots (drop (k + 1) (take n xs)) start)
    unfolding unfinished
    found_step = rw (part_step xs k n 0 h (omega arith), is, at)

    pub found_hit : is_unfinished start i ≡ true → unfinished slots (drop k (take n xs)) start ≡ Some s
    found_hit q = found_step ∙ rw q

    pub found_miss : is_unfinished start i ≡ false → unfinished slots (drop k (take n xs)) start ≡ unfinished slots (drop (k + 1) (take n xs)) start
    found_miss q = found_step ∙ rw q

  block_step : blocks slots (drop k (take n xs)) ≡ pick (is_block i) 1 0 + blocks slots (drop (k + 1) (take n xs))
  unfolding blocks
  block_step = rw (part_step xs k n 0 h (omega arith), is, at)

  pub block_hit : is_block i ≡ true → not (eqb (blocks slots (drop k (take n xs))) 0) ≡ true
  block_hit q =
      let some : blocks slots (drop k (take n xs)) ≡ 1 + blocks slots (drop (k + 1) (take n xs)) = block_step ∙ rw q in
      rw (ne_eqb (blocks slots (drop k (take n xs))) 0 (λ z. omega arith))

  pub block_miss : is_block i ≡ false → blocks slots (drop k (take n xs)) ≡ blocks slots (drop (k + 1) (take n xs))
  block_miss q = let none : blocks slots (drop k (take n xs)) ≡ 0 + blocks slots (drop (k + 1) (take n xs)) = block_step ∙ rw q in omega arith

-- the list is at its end
pub found_end : (slots : List Incoming) (xs : List ℕ) (n k start : ℕ) → n ≤ k → unfinished slots (drop k (take n xs)) start ≡ None
unfolding unfinished
found_end slots xs n k start h = rw (part_end xs k n h)

pub block_end : (slots : List Incoming) (xs : List ℕ) (n k : ℕ) → n ≤ k → blocks slots (drop k (take n xs)) ≡ 0
unfolding blocks
block_end slots xs n k h = rw (part_end xs k n h)

-- the channels' lists, the one at place k known
module _ (slots : List Incoming) (cs : List Channel) (n k : ℕ) (xs : List ℕ) (is : in_items (get_or cs k no_channel).held ≡ xs) (h : k < n) (low : k < length cs) where
  held_step : blocks slots (held (drop k (take n cs))) ≡ blocks slots xs + blocks slots (held (drop (k + 1) (take n cs)))
  unfolding held
  held_step =
      rw (part_step cs k n no_channel h low) (blocks_append slots (in_items (get_or cs k no_channel).held) (held (drop (k + 1) (take n cs))) ∙ rw is)

  pub channel_hit : not (eqb (blocks slots xs) 0) ≡ true → not (eqb (blocks slots (held (drop k (take n cs)))) 0) ≡ true
  channel_hit q = rw (ne_eqb (blocks slots (held (drop k (take n cs)))) 0 (λ z. absurd (some (blocks slots xs) q (omega (arith, held_step)))))
    where
      some : (b : ℕ) → not (eqb b 0) ≡ true → b ≡ 0 → ⊥
      some b e z = let y : not (eqb b 0) ≡ false = rw (eq-eqb b 0 z) in let w : ◌≡◌ {A = ℕ} 0 1 = cc in omega arith

  pub channel_miss : not (eqb (blocks slots xs) 0) ≡ false → blocks slots (held (drop k (take n cs))) ≡ blocks slots (held (drop (k + 1) (take n cs)))
  channel_miss q = let z = none (blocks slots xs) (eqb (blocks slots xs) 0) refl q in omega (arith, held_step)
    where
      none : (b : ℕ) (t : Bool) → eqb b 0 ≡ t → not t ≡ false → b ≡ 0
      none b true e q = eqb-true b 0 e
      none b false e q = let w : ◌≡◌ {A = ℕ} 0 1 = cc in absurd (omega arith)

pub channels_end : (slots : List Incoming) (cs : List Channel) → cs ≡ [] → blocks slots (held cs) ≡ 0
unfolding held blocks
channels_end slots cs e = rw e

-- two lists one after the other: none in either, or some in one of them
pub in_either : (slots : List Incoming) (xs ys : List ℕ) → not (eqb (blocks slots xs) 0) ≡ true → true ≡ not (eqb (blocks slots (xs ++ ys)) 0)
in_either slots xs ys q = sym (go (blocks slots xs) refl q)
  where
    go : (b : ℕ) → blocks slots xs ≡ b → not (eqb b 0) ≡ true → not (eqb (blocks slots (xs ++ ys)) 0) ≡ true
    go zero e q = let w : ◌≡◌ {A = ℕ} 0 1 = cc in absurd (omega arith)
    go (suc b) e q = rw (ne_eqb (blocks slots (xs ++ ys)) 0 (λ z. omega (arith, e, blocks_append slots xs ys)))

pub in_second : (slots : List Incoming) (xs ys : List ℕ) → not (eqb (blocks slots xs) 0) ≡ false → (r : Bool) → r ≡ not (eqb (blocks slots ys) 0)
    → r ≡ not (eqb (blocks slots (xs ++ ys)) 0)
in_second slots xs ys q r e = e ∙ go (blocks slots xs) refl q
  where
    go : (b : ℕ) → blocks slots xs ≡ b → not (eqb b 0) ≡ false → not (eqb (blocks slots ys) 0) ≡ not (eqb (blocks slots (xs ++ ys)) 0)
    go zero e q = let same : blocks slots ys ≡ blocks slots (xs ++ ys) = omega (arith, e, blocks_append slots xs ys) in ap (λ (b : ℕ). not (eqb b 0)) same
    go (suc b) e q = let some : eqb (suc b) 0 ≡ false = ne_eqb (suc b) 0 (λ z. omega arith) in absurd (false≢true (sym (rw some at q)))
