-- Sums and differences modulo 2^n.
use Rattle.std.specs.Prelude.{ℕ, ◌+◌, ◌-◌, ◌%◌, ◌^◌}

abbrev pub sum : ℕ → ℕ → ℕ → ℕ
sum n a b = (a + b) % 2 ^ n

-- a − b modulo 2^n, for b up to 2^n
abbrev pub minus : ℕ → ℕ → ℕ → ℕ
minus n a b = (a + (2 ^ n - b)) % 2 ^ n
