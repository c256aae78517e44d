-- "A frame" (SCRIPT.md): op, 1 byte; n, 1 byte, "how many numbers follow"; "n times 4 bytes, big-endian"; m, "2 bytes, big-endian, how many
-- bytes follow"; "m bytes". The input begins with one.
use Rattle.std.specs.Prelude.{ℕ, zero, suc, ◌+◌, ◌*◌, List, [], ◌∷◌, leb, ltb, length, get_or, take, drop}
use Rattle.numbers.specs.Pick.{pick}

-- the byte at a place, 0 past the end
abbrev pub byte_at : List ℕ → ℕ → ℕ
byte_at input i = get_or input i 0

abbrev pub pair_at : List ℕ → ℕ → ℕ
pair_at input i = byte_at input i * 256 + byte_at input (i + 1)

-- "Numbers that are missing read as 0"
abbrev pub number_at : List ℕ → ℕ → ℕ
number_at input k = pick (ltb k (byte_at input 1)) (pair_at input (2 + 4 * k) * 65536 + pair_at input (2 + 4 * k + 2)) 0

-- n numbers, from number k on
unfoldable pub numbers_from : List ℕ → ℕ → ℕ → List ℕ
numbers_from input k zero = []
numbers_from input k (suc n) = number_at input k ∷ numbers_from input (k + 1) n

-- where m stands, and the m bytes behind it, none where the input has fewer
abbrev pub length_place : List ℕ → ℕ
length_place input = 2 + 4 * byte_at input 1

abbrev pub part_of : List ℕ → ℕ → ℕ → List ℕ
part_of input from n = pick (leb (from + n) (length input)) (take n (drop from input)) []

abbrev pub bytes_of : List ℕ → List ℕ
bytes_of input = part_of input (length_place input + 2) (pair_at input (length_place input))
