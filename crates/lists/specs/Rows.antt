-- A list in lent numbers: a row of its length and n cells, "16 bits each", so each number is read modulo 65,536.
-- Any row is a list; a length above the cells means all of them.
use Rattle.std.specs.Prelude.{ℕ, ◌+◌, ◌%◌, ◌≡◌, List, map, length, get_or, take, drop}
use Rattle.std.proofs.Math.Seq.{paste}
use Rattle.cells.specs.Runs.{over}

abbrev pub low : ℕ → ℕ
low x = x % 65536

-- n numbers from a place on
abbrev pub section : ℕ → ℕ → List ℕ → List ℕ
section at n ws = take n (drop at ws)

-- the row of a list of n cells
abbrev pub row_at : ℕ → ℕ → List ℕ → List ℕ
row_at at n ws = section at (n + 1) ws

abbrev pub len_of : List ℕ → ℕ
len_of row = low (get_or row 0 0)

abbrev pub cells_of : List ℕ → List ℕ
cells_of row = map low (drop 1 row)

-- the slots that it names
abbrev pub items_of : List ℕ → List ℕ
items_of row = take (len_of row) (cells_of row)

-- the list at a place names xs then; its cells past the end, and every number outside its row, as they were
pub record Keeps (at n : ℕ) (ws xs after : List ℕ) : Type 0 where
  pub row : List ℕ
  pub is : after ≡ paste ws at row (n + 1)
  pub long : length row ≡ n + 1
  pub len : len_of row ≡ length xs
  pub cells : cells_of row ≡ over xs (cells_of (row_at at n ws))
