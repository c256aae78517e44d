-- The lowest free slot is free, and every lower one is taken; none is answered only where every slot is taken; and how many are free.
-- The argument: by induction on how many are left to look at; a new slot takes one from the count.
use Prim.Native.Nat.{ℕ, zero, suc, ◌+◌, ◌-◌, ◌≤◌, ◌<◌}
use mathlib.Core.Path.{◌≡◌, refl}
use mathlib.Core.List.{List, [], ◌∷◌}
use mathlib.Core.Bool.{Bool, true, false, not}
use native.Mathlib.Omega.{arith}
use lib.Dec.{ltb, eqb}
use lib.ListN.{length}
use borrow.Author.Tests.{eqb-true, eqb-false, ltb-true, ne_eqb, not-true}
use Rattle.numbers.proofs.BoolLaws.{both_left, both_right}
use Rattle.numbers.specs.Pick.{pick}
use Rattle.cells.specs.Runs.{has}
use Rattle.cells.specs.Free.{first_from, count_from, lowest, how_many, exist, once}
use Rattle.std.specs.Prelude.{Some, None}

-- k is the first of the numbers from `from` to `end` at which the test fails
pub record IsFirst (f : ℕ → Bool) (from end k : ℕ) : Type 0 where
  pub low : from ≤ k
  pub high : k < end
  pub free : f k ≡ false
  pub below : (j : ℕ) → from ≤ j → j < k → f j ≡ true

first_is : (f : ℕ → Bool) (left from k : ℕ) → first_from f left from ≡ Some k → IsFirst f from (from + left) k
unfolding first_from
first_is f zero from k e = let z : ◌≡◌ {A = ℕ} 0 1 = cc in absurd (omega arith)
first_is f (suc left) from k e = go (first_is f left (from + 1) k) (f from) refl e
  where
    go : (first_from f left (from + 1) ≡ Some k → IsFirst f (from + 1) (from + 1 + left) k)
        → (b : Bool) → f from ≡ b → pick b (first_from f left (from + 1)) (Some from) ≡ Some k → IsFirst f from (from + suc left) k
    go rest true t e =
        let r = rest e in
        record { low = omega (arith, r.low); high = omega (arith, r.high); free = r.free; below = λ j p q. up r.below j p q (eqb from j) refl }
      where
        up : ((j : ℕ) → from + 1 ≤ j → j < k → f j ≡ true) → (j : ℕ) → from ≤ j → j < k → (b : Bool) → eqb from j ≡ b → f j ≡ true
        up below j p q true s = rw (← eqb-true from j s) t
        up below j p q false s = below j (omega (arith, eqb-false from j s)) q
    go rest false t e =
        let z : from ≡ k = cc in
        record { low = omega arith; high = omega arith; free = rw (← z) t; below = λ j p q. absurd (omega arith) }

first_none : (f : ℕ → Bool) (left from : ℕ) → first_from f left from ≡ None → (j : ℕ) → from ≤ j → j < from + left → f j ≡ true
unfolding first_from
first_none f zero from e j p q = absurd (omega arith)
first_none f (suc left) from e j p q = go (first_none f left (from + 1)) (f from) refl e (eqb from j) refl
  where
    go : (first_from f left (from + 1) ≡ None → (j : ℕ) → from + 1 ≤ j → j < from + 1 + left → f j ≡ true)
        → (b : Bool) → f from ≡ b → pick b (first_from f left (from + 1)) (Some from) ≡ None → (a : Bool) → eqb from j ≡ a → f j ≡ true
    go rest true t e true s = rw (← eqb-true from j s) t
    go rest true t e false s = rest e j (omega (arith, eqb-false from j s)) (omega arith)
    go rest false t e a s = let z : ◌≡◌ {A = ℕ} 0 1 = cc in absurd (omega arith)

pub first_exists : (f : ℕ → Bool) (n k : ℕ) → first_from f n 0 ≡ Some k → k < n
first_exists f n k e = let r = first_is f n 0 k e in omega (arith, r.high)

module _ (n : ℕ) (xs : List ℕ) where
  module _ (k : ℕ) (e : lowest n xs ≡ Some k) where
    pub lowest_exists : k < n
    lowest_exists = first_exists (has xs) n k e

    pub lowest_free : has xs k ≡ false
    lowest_free = (first_is (has xs) n 0 k e).free

    pub lowest_below : (j : ℕ) → j < k → has xs j ≡ true
    lowest_below j h = (first_is (has xs) n 0 k e).below j (omega arith) h

  -- none only if no slot is free
  pub full_taken : lowest n xs ≡ None → (j : ℕ) → j < n → has xs j ≡ true
  full_taken e j h = first_none (has xs) n 0 e j (omega arith) (omega arith)

-- g is f and x besides
module _ (f g : ℕ → Bool) (x : ℕ) (eq : (j : ℕ) → g j ≡ pick (eqb x j) true (f j)) where
  count_after : (left k : ℕ) → x < k → count_from g left k ≡ count_from f left k
  unfolding count_from
  count_after zero k h = refl
  count_after (suc left) k h = rw (eq k, ne_eqb x k (λ e. omega arith), count_after left (k + 1) (omega arith))

  count_one : (left k : ℕ) → k ≤ x → x < k + left → f x ≡ false → count_from f left k ≡ 1 + count_from g left k
  unfolding count_from
  count_one zero k p q e = absurd (omega arith)
  count_one (suc left) k p q e = go (count_one left (k + 1)) (count_after left (k + 1)) (eqb x k) refl
    where
      go : (k + 1 ≤ x → x < k + 1 + left → f x ≡ false → count_from f left (k + 1) ≡ 1 + count_from g left (k + 1))
          → (x < k + 1 → count_from g left (k + 1) ≡ count_from f left (k + 1))
          → (b : Bool) → eqb x k ≡ b → pick (f k) 0 1 + count_from f left (k + 1) ≡ 1 + (pick (g k) 0 1 + count_from g left (k + 1))
      go rest after true t =
          let z : x ≡ k = eqb-true x k t in
          let fk : f k ≡ false = rw z at e in
          rw (eq k, t, fk, after (omega arith)) (omega arith)
      go rest after false t = rw (eq k, t) (omega (arith, rest (omega (arith, eqb-false x k t)) (omega arith) e))

count_none : (left k : ℕ) → count_from (has []) left k ≡ left
unfolding count_from
count_none zero k = refl
count_none (suc left) k = rw (count_none left (k + 1)) (omega arith)

-- as many are free as the pool has more than the lists name
pub free_and_named : (n : ℕ) (xs : List ℕ) → exist n xs ≡ true → once xs ≡ true → how_many n xs + length xs ≡ n
unfolding exist once
free_and_named n [] p q = rw (count_none n 0) (omega arith)
free_and_named n (x ∷ xs) p q =
    let rest = free_and_named n xs (both_right (ltb x n) (exist n xs) p) (both_right (not (has xs x)) (once xs) q) in
    let one = count_one (has xs) (has (x ∷ xs)) x (λ j. refl) n 0 (omega arith) (omega (arith, ltb-true x n (both_left (ltb x n) (exist n xs) p)))
    (not-true (has xs x) (both_left (not (has xs x)) (once xs) q)) in
    omega (arith, rest, one)

pub how_many_free : (n : ℕ) (xs : List ℕ) → exist n xs ≡ true → once xs ≡ true → how_many n xs ≡ n - length xs
how_many_free n xs p q = omega (arith, free_and_named n xs p q)
