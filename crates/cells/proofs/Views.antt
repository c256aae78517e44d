-- What is left of a list from place k on, whatever its elements are: element k and what is left from the next place, or nothing;
-- its first, and a place of it; a list that is made cell by cell. The argument: `drop-cons`, and the length of what is taken.
use Prim.Native.Nat.{ℕ, zero, suc, ◌+◌, ◌≤◌, ◌<◌}
use mathlib.Core.Path.{◌≡◌, refl}
use mathlib.Core.Bool.{true, false}
use mathlib.Core.List.{List, [], ◌∷◌}
use native.Mathlib.Nat.{le_of_suc-le-suc, not-suc-le-zero}
use native.Mathlib.Numerals.{add-one}
use native.Mathlib.Omega.{arith}
use lib.ListN.{length, take, drop, get_or, length-take, drop_of_length-le}
use lib.Seq.{drop-cons, get_or-take}
use Rattle.cells.specs.Runs.{first, is_empty}
use Rattle.std.specs.Prelude.{Some}

-- a place of a list holds the same, whatever would stand past its end
pub at_any : {A : Type 0} (xs : List A) (i : ℕ) (d e : A) → i < length xs → get_or xs i d ≡ get_or xs i e
at_any [] i d e h = absurd (not-suc-le-zero h)
at_any (x ∷ xs) zero d e h = refl
at_any (x ∷ xs) (suc i) d e h = at_any xs i d e (le_of_suc-le-suc h)

pub empty_none : (xs : List ℕ) → length xs ≡ 0 → is_empty xs ≡ true
empty_none [] e = refl
empty_none (x ∷ xs) e = absurd (omega arith)

pub empty_some : (xs : List ℕ) → (length xs ≡ 0 → ⊥) → is_empty xs ≡ false
empty_some [] e = absurd (e refl)
empty_some (x ∷ xs) e = refl

-- a list has its head
pub first_cons : (xs : List ℕ) (s : ℕ) → first xs ≡ Some s → xs ≡ s ∷ drop 1 xs
first_cons [] s e = let z : ◌≡◌ {A = ℕ} 0 1 = cc in absurd (omega arith)
first_cons (x ∷ xs) s e = let z : x ≡ s = cc in rw z

module _ {A : Type 0} (xs : List A) (k : ℕ) where
  pub rest_step : (d : A) → k < length xs → drop k xs ≡ get_or xs k d ∷ drop (k + 1) xs
  rest_step d h = rw (add-one, drop-cons xs k d)

  pub rest_end : length xs ≤ k → drop k xs ≡ []
  rest_end h = drop_of_length-le xs {i = k} h

  -- of the first n
  pub part_step : (n : ℕ) (d : A) → k < n → k < length xs → drop k (take n xs) ≡ get_or xs k d ∷ drop (k + 1) (take n xs)
  part_step n d p q =
      let j : k < length (take n xs) = simp length-take (omega arith) in
      rw (add-one, drop-cons (take n xs) k d, get_or-take)

  pub part_end : (n : ℕ) → n ≤ k → drop k (take n xs) ≡ []
  part_end n h = drop_of_length-le (take n xs) {i = k} (simp length-take (omega arith))

  pub part_out : (n : ℕ) → length xs ≤ k → drop k (take n xs) ≡ []
  part_out n h = drop_of_length-le (take n xs) {i = k} (simp length-take (omega arith))
