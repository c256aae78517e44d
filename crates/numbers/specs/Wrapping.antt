-- Two rules of sent commands that are sums and powers.
use Rattle.std.specs.Prelude.{ℕ, ◌*◌, ◌^◌, Bool, nat_le}
use Rattle.numbers.specs.Modulo.{sum}

-- "round trip + 4 × variance modulo 2^32"
abbrev pub round_trip_timeout : ℕ → ℕ → ℕ
round_trip_timeout trip variance = sum 32 trip (4 * variance)

-- "2^(attempts - 1) is exact": limit ≤ 2^(attempts − 1), both sides doubled, so that 0 attempts stand for one half
abbrev pub reaches : ℕ → ℕ → Bool
reaches attempts limit = nat_le (2 * limit) (2 ^ attempts)
