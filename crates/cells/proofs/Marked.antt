-- Marking what a list names, whatever the list: slots that do not exist leave no mark, so from no marks at all the marks say what the list names.
-- The argument: one cell's mark at a time; a slot in the pool is marked then where it was before or is that cell.
use Prim.Native.Nat.{ℕ, ◌<◌}
use mathlib.Core.Path.{◌≡◌, refl, ◌∙◌}
use mathlib.Core.List.{List, [], ◌∷◌, ◌++◌}
use mathlib.Core.Bool.{true}
use native.Mathlib.Omega.{arith}
use lib.ListN.{length, set, replicate, length-set, length-replicate}
use Rattle.numbers.specs.Pick.{pick}
use Rattle.cells.specs.Runs.{has}
use Rattle.cells.specs.Free.{first_from, lowest, is_marked, marked_all}
use Rattle.cells.proofs.Scans.{set_mark_past, or_swap, off, unmarked, first_same}

-- two lists one after the other
pub marked_append : (m xs ys : List ℕ) → marked_all m (xs ++ ys) ≡ marked_all (marked_all m xs) ys
unfolding marked_all
marked_append m [] ys = refl
marked_append m (x ∷ xs) ys = marked_append (set m x 1) xs ys

-- the marks stay as many
pub marked_length : (m xs : List ℕ) → length (marked_all m xs) ≡ length m
unfolding marked_all
marked_length m [] = refl
marked_length m (x ∷ xs) = marked_length (set m x 1) xs ∙ length-set m x 1

-- marked are those that were and those that the list names
marked_at : (m xs : List ℕ) (k : ℕ) → k < length m → is_marked (marked_all m xs) k ≡ pick (has xs k) true (is_marked m k)
unfolding marked_all
marked_at m [] k h = refl
marked_at m (x ∷ xs) k h = marked_at (set m x 1) xs k (rw (length-set m x 1) h) ∙ rw (set_mark_past m x k h, or_swap)

-- from no marks, the marks say what the list names
pub marked_says : (n : ℕ) (xs : List ℕ) (k : ℕ) → k < n → is_marked (marked_all (replicate n 0) xs) k ≡ has xs k
marked_says n xs k h = marked_at (replicate n 0) xs k (rw (length-replicate {A = ℕ} n 0) h) ∙ rw (unmarked n k, off)

pub marked_lowest : (n : ℕ) (xs : List ℕ) → first_from (is_marked (marked_all (replicate n 0) xs)) n 0 ≡ lowest n xs
marked_lowest n xs = first_same (is_marked (marked_all (replicate n 0) xs)) (has xs) n 0 (λ j q. marked_says n xs j (omega arith))
