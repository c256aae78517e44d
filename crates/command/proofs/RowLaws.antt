-- A row of numbers in bytes, a number at a time: the steps of the loops over a row, and a row with zeros at its end.
-- The argument: induction on the place, the widths and the row.
use mathlib.Core.Path.{◌≡◌, refl, ap, ◌∙◌, sym}
use mathlib.Core.Bool.{Bool, true}
use mathlib.Core.List.{List, [], ◌∷◌, ◌++◌, append_assoc}
use Prim.Native.Nat.{ℕ, zero, suc, ◌+◌, ◌-◌, ◌^◌, ◌≤◌, ◌<◌}
use native.Mathlib.Numerals.{add-one}
use native.Mathlib.Omega.{arith}
use lib.Dec.{eqb, ltb, leb}
use lib.ListN.{length, get_or, take, drop, set, drop_of_length-le}
use lib.Seq.{take-suc-set}
use borrow.Author.Tests.{leb-true, ne_eqb, lt-ltb}
use Rattle.numbers.specs.Pick.{pick, both}
use Rattle.command.specs.Layout.{total}
use Rattle.command.specs.Bytes.{number_at, put_number, row_at, put_row, pad, fits, Bytes}
use Rattle.numbers.proofs.BoolLaws.{both_left, both_right, both_true}
use Rattle.command.proofs.ByteLaws.{number_lt}
use Rattle.command.proofs.LayoutLaws.{narrow}

pub total_step : (ws : List ℕ) (j : ℕ) → total (drop j ws) ≡ get_or ws j 0 + total (drop (suc j) ws)
unfolding total
total_step [] zero = refl
total_step [] (suc j) = refl
total_step (w ∷ ws) zero = refl
total_step (w ∷ ws) (suc j) = total_step ws j

pub row_step :
    (s ws : List ℕ) (p j n : ℕ)
    → pad (suc n) (row_at s p (drop j ws)) ≡ number_at s p (get_or ws j 0) ∷ pad n (row_at s (p + get_or ws j 0) (drop (suc j) ws))
unfolding row_at number_at pad
row_step s [] p zero n = refl
row_step s [] p (suc j) n = refl
row_step s (w ∷ ws) p zero n = refl
row_step s (w ∷ ws) p (suc j) n = row_step s ws p j n

pub put_step :
    (s ws xs : List ℕ) (p j : ℕ) → j < length xs
    → put_row s p (drop j ws) (drop j xs)
    ≡ put_row (put_number s p (get_or ws j 0) (get_or xs j 0)) (p + get_or ws j 0) (drop (suc j) ws) (drop (suc j) xs)
unfolding put_row put_number
put_step s ws [] p j h = absurd (omega arith)
put_step s [] (x ∷ xs) p zero h = refl
put_step s [] (x ∷ xs) p (suc j) h = refl
put_step s (w ∷ ws) (x ∷ xs) p zero h = refl
put_step s (w ∷ ws) (x ∷ xs) p (suc j) h = put_step s ws xs p j (omega arith)

pub put-end : (s ws : List ℕ) (p : ℕ) → put_row s p ws [] ≡ s
unfolding put_row
put-end s [] p = refl
put-end s (w ∷ ws) p = refl

abbrev pub within : ℕ → ℕ → Bool
within x w = pick (eqb w 0) true (ltb x (256 ^ w))

pub fits_step :
    (ws xs : List ℕ) (j : ℕ) → narrow ws ≡ true → j < length xs
    → fits (drop j ws) (drop j xs) ≡ both (within (get_or xs j 0) (get_or ws j 0)) (fits (drop (suc j) ws) (drop (suc j) xs))
unfolding fits narrow
fits_step ws [] j n h = absurd (omega arith)
fits_step [] (x ∷ xs) zero n h = refl
fits_step [] (x ∷ xs) (suc j) n h = refl
fits_step (w ∷ ws) (x ∷ xs) zero n h =
    let l : 1 ≤ w = leb-true 1 w (both_left (leb 1 w) (leb w 4) (both_left (both (leb 1 w) (leb w 4)) (narrow ws) n)) in
    rw (ne_eqb w 0 (λ e. omega arith))
fits_step (w ∷ ws) (x ∷ xs) (suc j) n h =
    fits_step ws xs j (both_right (both (leb 1 w) (leb w 4)) (narrow ws) n) (omega arith)

pub fits_end : (ws xs : List ℕ) (j : ℕ) → length ws ≤ j → fits (drop j ws) xs ≡ true
unfolding fits
fits_end ws xs j h = rw (drop_of_length-le ws {i = j} h)

pub row_length : (s ws : List ℕ) (i : ℕ) → length (row_at s i ws) ≡ length ws
unfolding row_at
row_length s [] i = refl
row_length s (w ∷ ws) i = ap suc (row_length s ws (i + w))

pub pad-length : (n : ℕ) (xs : List ℕ) → length (pad n xs) ≡ n
unfolding pad
pad-length zero xs = refl
pad-length (suc n) [] = ap suc (pad-length n [])
pad-length (suc n) (x ∷ xs) = ap suc (pad-length n xs)

pub pad_at : (n : ℕ) (xs : List ℕ) (j : ℕ) → j < n → get_or (pad n xs) j 0 ≡ get_or xs j 0
unfolding pad
pad_at zero xs j h = absurd (omega arith)
pad_at (suc n) [] zero h = refl
pad_at (suc n) [] (suc j) h = pad_at n [] j (omega arith)
pad_at (suc n) (x ∷ xs) zero h = refl
pad_at (suc n) (x ∷ xs) (suc j) h = pad_at n xs j (omega arith)

pub take-pad : (n : ℕ) (xs : List ℕ) → length xs ≤ n → take (length xs) (pad n xs) ≡ xs
unfolding pad
take-pad n [] h = refl
take-pad zero (x ∷ xs) h = absurd (omega arith)
take-pad (suc n) (x ∷ xs) h = ap (λ (l : List ℕ). x ∷ l) (take-pad n xs (omega arith))

pub put_pad :
    (s ws xs : List ℕ) (i n : ℕ) → length ws ≤ length xs → length ws ≤ n → put_row s i ws (pad n xs) ≡ put_row s i ws xs
unfolding put_row pad
put_pad s [] xs i n h k = refl
put_pad s (w ∷ ws) [] i n h k = absurd (omega arith)
put_pad s (w ∷ ws) (x ∷ xs) i zero h k = absurd (omega arith)
put_pad s (w ∷ ws) (x ∷ xs) i (suc n) h k = put_pad (put_number s i w x) ws xs (i + w) n (omega arith) (omega arith)

pub fits_read : (s ws : List ℕ) (i n : ℕ) → Bytes s → length ws ≤ n → fits ws (pad n (row_at s i ws)) ≡ true
unfolding fits pad row_at
fits_read s [] i n b h = refl
fits_read s (w ∷ ws) i zero b h = absurd (omega arith)
fits_read s (w ∷ ws) i (suc n) b h =
    both_true (ltb (number_at s i w) (256 ^ w)) (fits ws (pad n (row_at s (i + w) ws)))
    (lt-ltb (number_at s i w) (256 ^ w) (number_lt s i w b)) (fits_read s ws (i + w) n b (omega arith))

-- the turns of the loops over a row, in the code's `j + 1`
pub total_turn : (ws : List ℕ) (p w j : ℕ) → w ≡ get_or ws j 0 → p + w + total (drop (j + 1) ws) ≡ p + total (drop j ws)
total_turn ws p w j e = rw add-one (omega (arith, total_step ws j))

pub row_turn :
    (s ws row : List ℕ) (p w j x : ℕ) → w ≡ get_or ws j 0 → x ≡ number_at s p w → j < length row → j < 16
    → take (j + 1) (set row j x) ++ pad (16 - (j + 1)) (row_at s (p + w) (drop (j + 1) ws))
    ≡ take j row ++ pad (16 - j) (row_at s p (drop j ws))
row_turn s ws row p w j x e f h l =
    let n : 16 - j ≡ suc (16 - suc j) = omega arith in
    let q : x ≡ number_at s p (get_or ws j 0) = f ∙ ap (number_at s p) e in
    rw (add-one, take-suc-set row j x h, n, row_step s ws p j (16 - suc j), append_assoc, ← e, ← f)

pub put_turn :
    (s ws row : List ℕ) (p w j : ℕ) (t : List ℕ) → w ≡ get_or ws j 0 → t ≡ put_number s p w (get_or row j 0) → j < length row
    → put_row t (p + w) (drop (j + 1) ws) (drop (j + 1) row) ≡ put_row s p (drop j ws) (drop j row)
put_turn s ws row p w j t e f h = rw (add-one, f, e) (sym (put_step s ws row p j h))

pub fits_turn :
    (ws xs : List ℕ) (j w : ℕ) (r : Bool) → narrow ws ≡ true → j < length xs → w ≡ get_or ws j 0 → r ≡ within (get_or xs j 0) w
    → fits (drop j ws) (drop j xs) ≡ both r (fits (drop (j + 1) ws) (drop (j + 1) xs))
fits_turn ws xs j w r n h e f = rw (add-one, f, e) (fits_step ws xs j n h)
