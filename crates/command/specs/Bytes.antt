-- Numbers in bytes, "big-endian": one of a width at a place, and a row of them one after the other; which rows fit.
use Rattle.std.specs.Prelude.{ℕ, zero, suc, ◌+◌, ◌*◌, ◌/◌, ◌%◌, ◌^◌, ◌<◌, List, [], ◌∷◌, Bool, true, false, ltb, get_or, set}
use Rattle.numbers.specs.Pick.{both}

-- each is a byte
abbrev pub Bytes : List ℕ → Type 0
Bytes s = (j : ℕ) → get_or s j 0 < 256

-- the number whose w bytes start at i
unfoldable pub number_at : List ℕ → ℕ → ℕ → ℕ
number_at s i zero = 0
number_at s i (suc w) = number_at s i w * 256 + get_or s (i + w) 0

-- the bytes s with x in the w bytes from i on
unfoldable pub put_number : List ℕ → ℕ → ℕ → ℕ → List ℕ
put_number s i zero x = s
put_number s i (suc w) x = set (put_number s i w (x / 256)) (i + w) (x % 256)

-- the numbers of these widths, the first at i
unfoldable pub row_at : List ℕ → ℕ → List ℕ → List ℕ
row_at s i [] = []
row_at s i (w ∷ ws) = number_at s i w ∷ row_at s (i + w) ws

-- the bytes s with the numbers xs in these widths, the first at i
unfoldable pub put_row : List ℕ → ℕ → List ℕ → List ℕ → List ℕ
put_row s i [] xs = s
put_row s i (w ∷ ws) [] = s
put_row s i (w ∷ ws) (x ∷ xs) = put_row (put_number s i w x) (i + w) ws xs

-- a row at a length of n: cut, or zeros at its end
unfoldable pub pad : ℕ → List ℕ → List ℕ
pad zero xs = []
pad (suc n) [] = 0 ∷ pad n []
pad (suc n) (x ∷ xs) = x ∷ pad n xs

-- each number of the row fits the width at its place
unfoldable pub fits : List ℕ → List ℕ → Bool
fits [] xs = true
fits (w ∷ ws) [] = false
fits (w ∷ ws) (x ∷ xs) = both (ltb x (256 ^ w)) (fits ws xs)
