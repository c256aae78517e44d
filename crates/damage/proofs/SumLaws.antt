-- The lengths that a walk sums and the blocks that it counts: over lists joined, and the bound of each length.
-- The argument: what is left to sum is the length of the slot at place k and what is left after it.
use Prim.Native.Nat.{ℕ, ◌+◌, ◌≤◌}
use mathlib.Core.Path.{◌≡◌, refl}
use mathlib.Core.List.{List, [], ◌∷◌, ◌++◌}
use mathlib.Core.Bool.{Bool, true, false}
use native.Mathlib.Omega.{arith}
use lib.ListN.{length}
use Rattle.numbers.specs.Pick.{both}
use Rattle.record.specs.declared.groups.Incoming.{Incoming}
use Rattle.record.specs.declared.groups.Marks.{Marks}
use Rattle.record.specs.Blocks.{most_bytes}
use Rattle.record.specs.Damage.{lengths, blocks}
use Rattle.record.proofs.KindLaws.{kind_low}
use Rattle.damage.specs.CodeInWalks.{in_test}

pub sum_append : (slots : List Incoming) (xs ys : List ℕ) → lengths slots (xs ++ ys) ≡ lengths slots xs + lengths slots ys
unfolding lengths
sum_append slots [] ys = omega arith
sum_append slots (x ∷ xs) ys = omega (arith, sum_append slots xs ys)

pub blocks_append : (slots : List Incoming) (xs ys : List ℕ) → blocks slots (xs ++ ys) ≡ blocks slots xs + blocks slots ys
unfolding blocks
blocks_append slots [] ys = omega arith
blocks_append slots (x ∷ xs) ys = omega (arith, blocks_append slots xs ys)

-- a slot that passes is not long
pub pass_short : (marks : Marks) (count : ℕ) (own : Bool) (k : ℕ) (i : Incoming) → in_test marks count own k i ≡ true → i.length ≤ most_bytes
pass_short marks count own k i e = kind_low marks i (go _ _ _ e)
  where
    go : (a b d : Bool) → both (both a b) d ≡ true → a ≡ true
    go true b d q = refl
    go false b d q = q
