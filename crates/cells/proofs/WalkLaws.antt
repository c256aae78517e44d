-- What std's `position` finds is what the two searches say: a slot's first place, and the first number whose mark is not 1.
-- The argument: by induction on the list; a search upward looks at the marks from place k on.
use Prim.Native.Nat.{ℕ, suc, ◌+◌, ◌<◌, ◌≤◌}
use mathlib.Core.Path.{◌≡◌, refl, ap, sym, ◌∙◌}
use mathlib.Core.List.{List, [], ◌∷◌}
use mathlib.Core.Bool.{Bool, true, false, not, cond}
use native.Mathlib.Omega.{arith}
use lib.Dec.{eqb}
use lib.ListN.{length, take, get_or}
use lib.Seq.{get_or-take, length-take-le}
use Rattle.std.specs.Prelude.{Some, position}
use Rattle.std.proofs.lemmas.Iterator.Adapters.{position_from-zero}
use Rattle.std.specs.List.{position_from}
use Rattle.numbers.specs.Pick.{pick}
use Rattle.cells.specs.Runs.{find_from}
use Rattle.cells.specs.Free.{first_from, is_marked}

find_position_from : (xs : List ℕ) (k s : ℕ) → position_from (λ x. eqb x s) k xs ≡ find_from k xs s
find_position_from [] k s = refl
find_position_from (x ∷ xs) k s = go (eqb x s) (find_position_from xs (k + 1) s)
  where
    go : (b : Bool) → position_from (λ x. eqb x s) (k + 1) xs ≡ find_from (k + 1) xs s
        → cond b (Some k) (position_from (λ x. eqb x s) (k + 1) xs) ≡ pick b (Some k) (find_from (k + 1) xs s)
    go true e = refl
    go false e = e

pub find_position : (xs : List ℕ) (s : ℕ) → position (λ x. eqb x s) xs ≡ find_from 0 xs s
find_position xs s = position_from-zero (λ x. eqb x s) xs ∙ find_position_from xs 0 s

first_position : (f : ℕ → Bool) (xs : List ℕ) (k : ℕ) → ((j : ℕ) → j < length xs → f (k + j) ≡ eqb (get_or xs j 0) 1)
    → position_from (λ x. not (eqb x 1)) k xs ≡ first_from f (length xs) k
unfolding first_from
first_position f [] k h = refl
first_position f (x ∷ xs) k h =
    let z : k + 0 ≡ k = omega arith in
    let e : eqb x 1 ≡ f k = sym (h 0 (omega arith)) ∙ ap f z in
    let rest = first_position f xs (k + 1) (λ j l. let a : k + 1 + j ≡ k + suc j = omega arith in ap f a ∙ h (suc j) (omega arith)) in
    rw (← e) (go (eqb x 1) rest)
  where
    go : (b : Bool) → position_from (λ x. not (eqb x 1)) (k + 1) xs ≡ first_from f (length xs) (k + 1)
        → cond (not b) (Some k) (position_from (λ x. not (eqb x 1)) (k + 1) xs) ≡ pick b (first_from f (length xs) (k + 1)) (Some k)
    go true e = e
    go false e = refl

-- of the first n marks
pub lowest_position : (m : List ℕ) (n : ℕ) → n ≤ length m → position (λ x. not (eqb x 1)) (take n m) ≡ first_from (is_marked m) n 0
lowest_position m n h =
    let l : length (take n m) ≡ n = length-take-le n m h in
    position_from-zero (λ x. not (eqb x 1)) (take n m)
    ∙ first_position (is_marked m) (take n m) 0 (λ j p. let z : 0 + j ≡ j = omega arith in ap (is_marked m) z ∙ ap (λ (x : ℕ). eqb x 1) (sym (get_or-take n m j 0 (omega (arith, l)))))
    ∙ ap (λ (k : ℕ). first_from (is_marked m) k 0) l
