-- A word of 16 bits has room for its first bit. The argument: by cases, the bit adds at most 1, to an even number.
use Prim.Native.Nat.{ℕ, ◌+◌, ◌/◌, ◌%◌, ◌<◌}
use mathlib.Core.Path.{◌≡◌, refl}
use mathlib.Core.Bool.{Bool, true, false}
use native.Mathlib.Omega.{arith}
use borrow.Author.Tests.{eqb-false}
use Rattle.numbers.specs.Pick.{pick}
use Rattle.numbers.specs.Bits.{bit, with_bit}

pub bit_stays : (x : ℕ) → x < 65536 → with_bit x 0 % 65536 ≡ with_bit x 0
unfolding with_bit
bit_stays x h = go (bit x 0) refl
  where
    go : (b : Bool) → bit x 0 ≡ b → pick b x (x + 1) % 65536 ≡ pick b x (x + 1)
    go true e = omega arith
    go false e = omega (arith, eqb-false (x / 1 % 2) 1 e)
