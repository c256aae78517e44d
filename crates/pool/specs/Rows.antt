-- Things in lent numbers, each a row of so many: slots of a pool, channels. Any numbers are such things.
use Rattle.std.specs.Prelude.{ℕ, zero, suc, ◌*◌, List, [], ◌∷◌, take, drop}

-- the row of number i
abbrev pub row_at : ℕ → List ℕ → ℕ → List ℕ
row_at width ws i = take width (drop (i * width) ws)

-- the first n, each as its row is read
unfoldable pub rows_from : {A : Type 0} → (List ℕ → A) → ℕ → ℕ → List ℕ → List A
rows_from read width zero ws = []
rows_from read width (suc n) ws = read (take width ws) ∷ rows_from read width n (drop width ws)
