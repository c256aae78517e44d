-- A test that holds at each number below a bound, computed, holds at any of them; so does a table of a function's values.
-- The argument: induction on the bound or the list.
use mathlib.Core.Path.{◌≡◌, refl, ap, ◌∙◌}
use mathlib.Core.Bool.{Bool, true, false}
use mathlib.Core.List.{List, [], ◌∷◌}
use Prim.Native.Nat.{ℕ, zero, suc, ◌+◌, ◌<◌}
use native.Mathlib.Omega.{arith}
use lib.Dec.{eqb}
use lib.ListN.{get_or}
use borrow.Author.Tests.{eqb-true, eqb-false}
use Rattle.numbers.specs.Pick.{both}
use Rattle.numbers.proofs.BoolLaws.{both_left, both_right}

abbrev pub up_to : (ℕ → Bool) → ℕ → Bool
up_to f zero = true
up_to f (suc n) = both (f n) (up_to f n)

pub below : (f : ℕ → Bool) (n : ℕ) → up_to f n ≡ true → (k : ℕ) → k < n → f k ≡ true
below f zero t k h = absurd (omega arith)
below f (suc n) t k h = go (below f n (both_right (f n) (up_to f n) t) k) (eqb k n) refl
  where
    go : (k < n → f k ≡ true) → (b : Bool) → eqb k n ≡ b → f k ≡ true
    go less true e = rw (eqb-true k n e) (both_left (f n) (up_to f n) t)
    go less false e = less (omega (arith, eqb-false k n e))

-- a table of f's values at n numbers from i on: a constant table is compared with it by computing
abbrev pub values : {A : Type 0} → (ℕ → A) → ℕ → ℕ → List A
values f i zero = []
values f i (suc n) = f i ∷ values f (i + 1) n

from : {A : Type 0} (f : ℕ → A) (d : A) (n i k : ℕ) → k < n → get_or (values f i n) k d ≡ f (i + k)
from f d zero i k h = absurd (omega arith)
from f d (suc n) i zero h = let e : i ≡ i + zero = omega arith in ap f e
from f d (suc n) i (suc k) h = let e : i + 1 + k ≡ i + suc k = omega arith in from f d n (i + 1) k (omega arith) ∙ ap f e

pub entry : {A : Type 0} (f : ℕ → A) (d : A) (n k : ℕ) → k < n → get_or (values f 0 n) k d ≡ f k
entry f d n k h = let e : 0 + k ≡ k = omega arith in from f d n 0 k h ∙ ap f e
