-- Which slots of a pool are free: "A slot is free when no list names it; the lowest free one is taken"
use Rattle.std.specs.Prelude.{ℕ, zero, suc, ◌+◌, Bool, true, false, not, List, [], ◌∷◌, ltb, eqb, length, get_or, set, Option, Some, None}
use Rattle.numbers.specs.Pick.{pick, both}
use Rattle.cells.specs.Runs.{has}

-- the first of the `left` numbers from k on at which the test fails
unfoldable pub first_from : (ℕ → Bool) → ℕ → ℕ → Option ℕ
first_from f zero k = None
first_from f (suc left) k = pick (f k) (first_from f left (k + 1)) (Some k)

-- how many of those fail it
unfoldable pub count_from : (ℕ → Bool) → ℕ → ℕ → ℕ
count_from f zero k = 0
count_from f (suc left) k = pick (f k) 0 1 + count_from f left (k + 1)

-- how many slots a number of 16 bits can name
abbrev pub nameable : ℕ
nameable = 65536

-- in a pool of n of which the lists name xs
abbrev pub lowest : ℕ → List ℕ → Option ℕ
lowest n xs = first_from (has xs) n 0

abbrev pub how_many : ℕ → List ℕ → ℕ
how_many n xs = count_from (has xs) n 0

-- "names a slot that does not exist"
unfoldable pub exist : ℕ → List ℕ → Bool
exist n [] = true
exist n (x ∷ xs) = both (ltb x n) (exist n xs)

-- "a slot stands twice"
unfoldable pub once : List ℕ → Bool
once [] = true
once (x ∷ xs) = both (not (has xs x)) (once xs)

-- a slot's mark is 1 once a list names it
abbrev pub is_marked : List ℕ → ℕ → Bool
is_marked m k = eqb (get_or m k 0) 1

-- the marks, and one more for each slot of a list that exists
unfoldable pub marked_all : List ℕ → List ℕ → List ℕ
marked_all m [] = m
marked_all m (x ∷ xs) = marked_all (set m x 1) xs

-- walking a list over marks: each slot exists and was not marked before; the marks then, or where the walk stopped
pub record Scanned : Type 0 where
  pub ok : Bool
  pub marks : List ℕ

unfoldable pub scanned : List ℕ → List ℕ → Scanned
scanned m [] = record { ok = true; marks = m }
scanned m (x ∷ xs) =
    pick (both (ltb x (length m)) (not (is_marked m x))) (scanned (set m x 1) xs) (record { ok = false; marks = m })
