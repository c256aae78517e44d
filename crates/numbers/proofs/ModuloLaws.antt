-- A difference modulo 2^32 is the one number that the subtrahend brings back: what std's wrapping_sub ensures settles it.
-- A sum modulo 2^32 of two in turn is that of both at once. The argument: the sides are below 2^32 and congruent.
use Rattle.std.proofs.Common.{◌≡◌, ℕ, ◌+◌, ◌%◌, ◌^◌, ◌<◌, arith}
use Rattle.numbers.specs.Modulo.{minus, sum}

pub minus_of : (a b r : ℕ) → a < 2 ^ 32 → b < 2 ^ 32 → r < 2 ^ 32 → (r + b) % 2 ^ 32 ≡ a → r ≡ minus 32 a b
minus_of a b r ha hb hr e = omega arith

pub sum_in_turn : (a b c : ℕ) → sum 32 (sum 32 a b) c ≡ sum 32 a (b + c)
sum_in_turn a b c = omega arith
