-- What the lists of both pools need: the head, that a search finds what a list has, and the two ends of a move.
-- The argument: by cases and by induction on the list.
use Prim.Native.Nat.{ℕ, zero, suc, ◌+◌, ◌-◌, ◌≤◌}
use mathlib.Core.Path.{◌≡◌, refl}
use mathlib.Core.List.{List, [], ◌∷◌, ◌++◌}
use mathlib.Core.Bool.{Bool, true, false}
use native.Mathlib.Omega.{arith}
use lib.Dec.{eqb, leb}
use lib.ListN.{length, take, drop, length-append, length-take}
use Rattle.numbers.specs.Pick.{pick}
use Rattle.cells.specs.Runs.{first, has, find_from, moved_from, moved_to}
use Rattle.std.specs.Prelude.{Some, None, is_some}

pub first_none : (xs : List ℕ) → length xs ≡ 0 → first xs ≡ None
first_none [] e = refl
first_none (x ∷ xs) e = absurd (omega arith)

-- a search finds just what the list has
pub found_has : (xs : List ℕ) (k s : ℕ) → is_some (find_from k xs s) ≡ has xs s
found_has [] k s = refl
found_has (x ∷ xs) k s = go (found_has xs (k + 1) s) (eqb x s)
  where
    go : is_some (find_from (k + 1) xs s) ≡ has xs s → (b : Bool) → is_some (pick b (Some k) (find_from (k + 1) xs s)) ≡ pick b true (has xs s)
    go rest true = refl
    go rest false = rest

drop_taken : (k : ℕ) (xs : List ℕ) → drop (length (take k xs)) xs ≡ drop k xs
drop_taken zero xs = refl
drop_taken (suc k) [] = refl
drop_taken (suc k) (x ∷ xs) = drop_taken k xs

-- as many leave the one list as the other is longer
module _ (n k : ℕ) (xs ys : List ℕ) where
  pub moved_cut : drop (length (moved_to n k xs ys) - length ys) xs ≡ moved_from n k xs ys
  moved_cut = go (leb (length ys + length (take k xs)) n)
    where
      go : (b : Bool) → drop (length (pick b (ys ++ take k xs) ys) - length ys) xs ≡ pick b (drop k xs) xs
      go true =
          let e : length (ys ++ take k xs) - length ys ≡ length (take k xs) = simp length-append (omega arith) in
          rw e (drop_taken k xs)
      go false = let e : length ys - length ys ≡ 0 = omega arith in rw e

  pub moved_bounds : (length ys ≤ length (moved_to n k xs ys)) × (length (moved_to n k xs ys) ≤ length ys + length xs)
  moved_bounds = go (leb (length ys + length (take k xs)) n)
    where
      go : (b : Bool) → (length ys ≤ length (pick b (ys ++ take k xs) ys)) × (length (pick b (ys ++ take k xs) ys) ≤ length ys + length xs)
      go true = (simp (length-append, length-take) (omega arith), simp (length-append, length-take) (omega arith))
      go false = (omega arith, omega arith)
