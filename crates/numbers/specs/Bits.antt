-- The bits of a word of 32, as numbers: bit k is the remainder by 2 of the word over 2^k.
use Rattle.std.specs.Prelude.{ℕ, ◌+◌, ◌/◌, ◌%◌, ◌^◌, Bool, ◌==◌, nat_le}
use Rattle.numbers.specs.Pick.{pick}

abbrev pub bit : ℕ → ℕ → Bool
bit word k = word / 2 ^ k % 2 == 1

-- the word with bit k set as well, where it has one: 2^k more, unless it is set
unfoldable pub with_bit : ℕ → ℕ → ℕ
with_bit word k = pick (nat_le 32 k) word (pick (bit word k) word (word + 2 ^ k))
