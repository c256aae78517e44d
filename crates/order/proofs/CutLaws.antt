-- Lent numbers cut to their bits, one by one, as places; numbers of the record by their place.
-- The argument: induction on the bits and the numbers.
use Prim.Native.Nat.{ℕ, zero, suc, ◌+◌, ◌≤◌, ◌<◌}
use mathlib.Core.Path.{◌≡◌, refl, ap, ◌∙◌}
use mathlib.Core.List.{List, [], ◌∷◌}
use native.Mathlib.Nat.{not-suc-le-zero, le_of_suc-le-suc}
use native.Mathlib.Omega.{arith}
use lib.ListN.{length, get_or, take}
use lib.Seq.{drop-cons}
use Rattle.lists.specs.Rows.{section}
use Rattle.places.specs.Whole.{numbers}
use Rattle.order.specs.Table.{nowhere, numbered}
use Rattle.order.specs.CodeCuts.{cut, cut_place}

-- each number cut to the bits at its place
unfoldable pub cuts : List ℕ → List ℕ → List ℕ
cuts [] xs = []
cuts (b ∷ bs) [] = []
cuts (b ∷ bs) (x ∷ xs) = cut b x ∷ cuts bs xs

pub cuts_at : (bs xs : List ℕ) (i : ℕ) → i < length bs → i < length xs → get_or (numbered bs (cuts bs xs)) i nowhere ≡ cut_place (get_or bs i 0) (get_or xs i 0)
unfolding numbered cuts
cuts_at [] xs i h k = absurd (omega arith)
cuts_at (b ∷ bs) [] i h k = absurd (omega arith)
cuts_at (b ∷ bs) (x ∷ xs) zero h k = refl
cuts_at (b ∷ bs) (x ∷ xs) (suc i) h k = cuts_at bs xs i (omega arith) (omega arith)

pub cuts-length : (bs xs : List ℕ) → length bs ≡ length xs → length (cuts bs xs) ≡ length bs
unfolding cuts
cuts-length [] xs e = refl
cuts-length (b ∷ bs) [] e = absurd (omega arith)
cuts-length (b ∷ bs) (x ∷ xs) e = ap suc (cuts-length bs xs (omega arith))

-- n numbers from place k on
pub numbers_at : (n k : ℕ) (ws : List ℕ) (j : ℕ) → j < n → get_or (numbers n k ws) j 0 ≡ get_or ws (k + j) 0
unfolding numbers
numbers_at zero k ws j h = absurd (not-suc-le-zero h)
numbers_at (suc n) k ws zero h = let e : k ≡ k + 0 = omega arith in ap (λ (i : ℕ). get_or ws i 0) e
numbers_at (suc n) k ws (suc j) h =
    let e : suc k + j ≡ k + suc j = omega arith in
    numbers_at n (suc k) ws j (le_of_suc-le-suc h) ∙ ap (λ (i : ℕ). get_or ws i 0) e

pub numbers-length : (n k : ℕ) (ws : List ℕ) → length (numbers n k ws) ≡ n
unfolding numbers
numbers-length zero k ws = refl
numbers-length (suc n) k ws = ap suc (numbers-length n (suc k) ws)

-- the same as a section
pub section-numbers : (n k : ℕ) (ws : List ℕ) → k + n ≤ length ws → section k n ws ≡ numbers n k ws
unfolding numbers
section-numbers zero k ws h = refl
section-numbers (suc n) k ws h = ap (take (suc n)) (drop-cons ws k 0 (omega arith)) ∙ ap (λ (l : List ℕ). get_or ws k 0 ∷ l) (section-numbers n (suc k) ws (omega arith))

-- numbers from place k on, each cut: place j by its bits
pub cut_number : (bs : List ℕ) (n k : ℕ) (ws : List ℕ) (j b : ℕ) → length bs ≡ n → j < n → get_or bs j 0 ≡ b → get_or (numbered bs (cuts bs (numbers n k ws))) j nowhere ≡ cut_place b (get_or ws (k + j) 0)
cut_number bs n k ws j b l h e =
    cuts_at bs (numbers n k ws) j (omega arith) (rw (numbers-length n k ws) h)
    ∙ ap (λ (t : ℕ). cut_place t (get_or (numbers n k ws) j 0)) e
    ∙ ap (cut_place b) (numbers_at n k ws j h)
