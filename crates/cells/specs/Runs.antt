-- What the lists' operations make of a true list of slots, in a pool of n; a list that has no room stays as it is.
-- A length above the pool means all cells, so no such list has room: a push leaves its cells and answers the pool's size as the length.
use Rattle.std.specs.Prelude.{ℕ, ◌+◌, ◌≤◌, ◌≡◌, Bool, true, false, List, [], ◌∷◌, ◌++◌, ltb, leb, eqb, length, take, drop, Option, Some, None}
use Rattle.numbers.specs.Pick.{pick}

-- s at the end
abbrev pub pushed : ℕ → List ℕ → ℕ → List ℕ
pushed n xs s = pick (ltb (length xs) n) (xs ++ (s ∷ [])) xs

-- s before place i, at the end where there is no place i
abbrev pub inserted : ℕ → List ℕ → ℕ → ℕ → List ℕ
inserted n xs i s = pick (ltb (length xs) n) (take i xs ++ (s ∷ drop i xs)) xs

-- without place i
abbrev pub without : List ℕ → ℕ → List ℕ
without xs i = take i xs ++ drop (i + 1) xs

-- a run before all, in its order
abbrev pub prepended : ℕ → List ℕ → List ℕ → List ℕ
prepended n run xs = pick (leb (length run + length xs) n) (run ++ xs) xs

-- the first k of xs move to the end of ys: what stays of xs, and what ys becomes
abbrev pub moved_from : ℕ → ℕ → List ℕ → List ℕ → List ℕ
moved_from n k xs ys = pick (leb (length ys + length (take k xs)) n) (drop k xs) xs

abbrev pub moved_to : ℕ → ℕ → List ℕ → List ℕ → List ℕ
moved_to n k xs ys = pick (leb (length ys + length (take k xs)) n) (ys ++ take k xs) ys

abbrev pub first : List ℕ → Option ℕ
first [] = None
first (x ∷ xs) = Some x

abbrev pub is_empty : List ℕ → Bool
is_empty [] = true
is_empty (x ∷ xs) = false

-- whether s is among xs
abbrev pub has : List ℕ → ℕ → Bool
has [] s = false
has (x ∷ xs) s = pick (eqb x s) true (has xs s)

-- the first place of s in xs, counted from k
abbrev pub find_from : ℕ → List ℕ → ℕ → Option ℕ
find_from k [] s = None
find_from k (x ∷ xs) s = pick (eqb x s) (Some k) (find_from (k + 1) xs s)

-- cells that begin with xs, and go on as they were
abbrev pub over : List ℕ → List ℕ → List ℕ
over xs cells = xs ++ drop (length xs) cells

-- what an operation on cells makes: they begin with xs and go on as they were, and n is how many xs are
pub record Makes (before xs : List ℕ) (n : ℕ) (after : List ℕ) : Type 0 where
  pub count : n ≡ length xs
  pub fits : n ≤ length before
  pub cells : after ≡ over xs before
