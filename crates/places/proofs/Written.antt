-- The record that the numbers are after numbers of a part were written one by one, or a whole row.
-- The argument: induction on the numbers and on the parts; what stands before or after a write stays.
use Prim.Native.Nat.{ℕ, zero, suc, ◌+◌, ◌-◌, ◌≤◌, ◌<◌}
use mathlib.Core.Path.{◌≡◌, refl, ap, sym, ◌∙◌}
use mathlib.Core.List.{List, [], ◌∷◌}
use native.Mathlib.Nat.{le_of_suc-le-suc, not-suc-le-zero}
use native.Mathlib.Omega.{arith}
use lib.ListN.{length, get_or, set, take, drop, length-set}
use lib.Seq.{paste, sets, get_or-set_same, get_or-set_other, set-set, set-get_or, take-set-le, drop-set-lt, drop-set-add}
use Rattle.lists.specs.Rows.{section}
use Rattle.places.specs.Whole.{Size, each, row, extent, sizes, numbers, part, parts, made, whole}
use Rattle.places.proofs.Sections.{section_same, section_before, section_after, number_before, number_after}

-- ---- one number
numbers_other : (n k : ℕ) (ws : List ℕ) (j x : ℕ) → ((i : ℕ) → i < n → k + i ≡ j → ⊥) → numbers n k (set ws j x) ≡ numbers n k ws
unfolding numbers
numbers_other zero k ws j x h = refl
numbers_other (suc n) k ws j x h =
    rw (get_or-set_other ws j k x 0 (λ e. h 0 (omega arith) (omega (arith, e))), numbers_other n (suc k) ws j x (λ (i : ℕ) (l : i < n) (e : suc k + i ≡ j). h (suc i) (omega arith) (omega (arith, e))))

numbers-set : (n k : ℕ) (ws : List ℕ) (i x : ℕ) → i < n → k + i < length ws → numbers n k (set ws (k + i) x) ≡ set (numbers n k ws) i x
unfolding numbers
numbers-set zero k ws i x h l = absurd (not-suc-le-zero h)
numbers-set (suc n) k ws zero x h l =
    let e : k + 0 ≡ k = omega arith in
    rw (e, get_or-set_same ws k x 0 (omega arith), numbers_other n (suc k) ws k x (λ (i : ℕ) (m : i < n) (q : suc k + i ≡ k). absurd (omega (arith, q))))
numbers-set (suc n) k ws (suc i) x h l =
    let e : k + suc i ≡ suc k + i = omega arith in
    rw (get_or-set_other ws (k + suc i) k x 0 (λ q. absurd (omega (arith, q))), e, numbers-set n (suc k) ws i x (le_of_suc-le-suc h) (omega arith))

section_below : (k n : ℕ) (ws : List ℕ) (j x : ℕ) → k + n ≤ j → section k n (set ws j x) ≡ section k n ws
section_below k n ws j x h =
    let e : k + (j - k) ≡ j = omega arith in
    ap (λ (i : ℕ). take n (drop k (set ws i x))) (sym e) ∙ ap (take n) (drop-set-add k ws (j - k) x) ∙ take-set-le n (drop k ws) (j - k) x (omega arith)

part_below : (s : Size) (k : ℕ) (ws : List ℕ) (j x : ℕ) → k + extent s ≤ j → part s k (set ws j x) ≡ part s k ws
part_below (each n) k ws j x h = numbers_other n k ws j x (λ (i : ℕ) (l : i < n) (e : k + i ≡ j). absurd (omega (arith, e, h)))
part_below (row n) k ws j x h = section_below k n ws j x h

part_above : (s : Size) (k : ℕ) (ws : List ℕ) (j x : ℕ) → j < k → part s k (set ws j x) ≡ part s k ws
part_above (each n) k ws j x h = numbers_other n k ws j x (λ (i : ℕ) (l : i < n) (e : k + i ≡ j). absurd (omega (arith, e)))
part_above (row n) k ws j x h = ap (take n) (drop-set-lt k ws j x h)

parts_above : (ss : List Size) (k : ℕ) (ws : List ℕ) (j x : ℕ) → j < k → parts ss k (set ws j x) ≡ parts ss k ws
unfolding parts
parts_above [] k ws j x h = refl
parts_above (s ∷ ss) k ws j x h = rw (part_above s k ws j x h, parts_above ss (k + extent s) ws j x (omega arith))

-- the place of part i, and its size
unfoldable pub place : List Size → ℕ → ℕ → ℕ
place [] k i = k
place (s ∷ ss) k zero = k
place (s ∷ ss) k (suc i) = place ss (k + extent s) i

abbrev pub size_at : List Size → ℕ → Size
size_at ss i = get_or ss i (each 0)

place_low : (ss : List Size) (k i : ℕ) → k ≤ place ss k i
unfolding place
place_low [] k i = omega arith
place_low (s ∷ ss) k zero = omega arith
place_low (s ∷ ss) k (suc i) = omega (arith, place_low ss (k + extent s) i)

parts-set : (ss : List Size) (k i n : ℕ) (ws : List ℕ) (j x : ℕ) → i < length ss → size_at ss i ≡ each n → j < n → place ss k i + j < length ws
    → parts ss k (set ws (place ss k i + j) x) ≡ set (parts ss k ws) i (set (get_or (parts ss k ws) i []) j x)
unfolding parts place
parts-set [] k i n ws j x h e l f = absurd (not-suc-le-zero h)
parts-set (s ∷ ss) k zero n ws j x h e l f =
    rw (e, numbers-set n k ws j x l f, parts_above ss (k + n) ws (k + j) x (omega arith))
parts-set (s ∷ ss) k (suc i) n ws j x h e l f =
    rw (part_below s k ws (place ss (k + extent s) i + j) x (omega (arith, place_low ss (k + extent s) i)), parts-set ss (k + extent s) i n ws j x (le_of_suc-le-suc h) e l f)

parts-length : (ss : List Size) (k : ℕ) (ws : List ℕ) → length (parts ss k ws) ≡ length ss
unfolding parts
parts-length [] k ws = refl
parts-length (s ∷ ss) k ws = ap suc (parts-length ss (k + extent s) ws)

-- several, one after the other
parts-sets : (ss : List Size) (i n : ℕ) (ys ws : List ℕ) (j : ℕ) → i < length ss → size_at ss i ≡ each n → j + length ys ≤ n → place ss 0 i + n ≤ length ws
    → parts ss 0 (sets ws (place ss 0 i + j) ys) ≡ set (parts ss 0 ws) i (sets (get_or (parts ss 0 ws) i []) j ys)
parts-sets ss i n [] ws j h e l f = sym (set-get_or (parts ss 0 ws) i [])
parts-sets ss i n (y ∷ ys) ws j h e l f =
    let p = place ss 0 i in
    let q : suc (p + j) ≡ p + suc j = omega arith in
    let one : parts ss 0 (set ws (p + j) y) ≡ set (parts ss 0 ws) i (set (get_or (parts ss 0 ws) i []) j y) = parts-set ss 0 i n ws j y h e (omega (arith, l)) (omega (arith, l, f)) in
    let long : length (parts ss 0 ws) ≡ length ss = parts-length ss 0 ws in
    let part_i : get_or (set (parts ss 0 ws) i (set (get_or (parts ss 0 ws) i []) j y)) i [] ≡ set (get_or (parts ss 0 ws) i []) j y = get_or-set_same (parts ss 0 ws) i _ [] (omega (arith, long)) in
    ap (λ (k : ℕ). parts ss 0 (sets (set ws (p + j) y) k ys)) q
    ∙ parts-sets ss i n ys (set ws (p + j) y) (suc j) h e (omega (arith, l)) (rw length-set f)
    ∙ ap (λ (ps : List (List ℕ)). set ps i (sets (get_or ps i []) (suc j) ys)) one
    ∙ ap (λ (r : List ℕ). set (set (parts ss 0 ws) i (set (get_or (parts ss 0 ws) i []) j y)) i (sets r (suc j) ys)) part_i
    ∙ set-set (parts ss 0 ws) i (set (get_or (parts ss 0 ws) i []) j y) (sets (set (get_or (parts ss 0 ws) i []) j y) (suc j) ys)

-- numbers j and on of part i of the record
pub numbers_put : (ws : List ℕ) (i n j at : ℕ) (ys : List ℕ) → length ws ≡ 1236 → i < length sizes → size_at sizes i ≡ each n → place sizes 0 i + j ≡ at → place sizes 0 i + n ≤ 1236 → j + length ys ≤ n
    → whole (sets ws at ys) ≡ made (set (parts sizes 0 ws) i (sets (get_or (parts sizes 0 ws) i []) j ys))
numbers_put ws i n j at ys l h e p f m =
    ap (λ (k : ℕ). whole (sets ws k ys)) (sym p) ∙ ap made (parts-sets sizes i n ys ws j h e m (omega (arith, l, f)))

-- ---- one row
module _ (ws r : List ℕ) (at n : ℕ) (fits : at + n ≤ length ws) (full : length r ≡ n) where
  numbers_kept : (m k : ℕ) → ((i : ℕ) → i < m → get_or (paste ws at r n) (k + i) 0 ≡ get_or ws (k + i) 0) → numbers m k (paste ws at r n) ≡ numbers m k ws
  unfolding numbers
  numbers_kept zero k h = refl
  numbers_kept (suc m) k h =
      let a : k + 0 ≡ k = omega arith in
      let g : get_or (paste ws at r n) k 0 ≡ get_or ws k 0 = rw a at (h 0 (omega arith)) in
      let g' : (i : ℕ) → i < m → get_or (paste ws at r n) (suc k + i) 0 ≡ get_or ws (suc k + i) 0 =
      λ (i : ℕ) (l : i < m). let b : k + suc i ≡ suc k + i = omega arith in rw b at (h (suc i) (omega arith)) in
      rw (g, numbers_kept m (suc k) g')

  part_before : (s : Size) (k : ℕ) → k + extent s ≤ at → part s k (paste ws at r n) ≡ part s k ws
  part_before (each m) k h = numbers_kept m k (λ (i : ℕ) (l : i < m). number_before ws r at n fits full (k + i) (omega (arith, h)))
  part_before (row m) k h = section_before ws r at n fits full k m h

  part_after : (s : Size) (k : ℕ) → at + n ≤ k → part s k (paste ws at r n) ≡ part s k ws
  part_after (each m) k h = numbers_kept m k (λ (i : ℕ) (l : i < m). number_after ws r at n fits full (k + i) (omega arith))
  part_after (row m) k h = section_after ws r at n fits full k m h

  parts_after : (ss : List Size) (k : ℕ) → at + n ≤ k → parts ss k (paste ws at r n) ≡ parts ss k ws
  unfolding parts
  parts_after [] k h = refl
  parts_after (s ∷ ss) k h = rw (part_after s k h, parts_after ss (k + extent s) (omega arith))

parts-paste : (ss : List Size) (k i n : ℕ) (ws r : List ℕ) → i < length ss → size_at ss i ≡ row n → place ss k i + n ≤ length ws → length r ≡ n
    → parts ss k (paste ws (place ss k i) r n) ≡ set (parts ss k ws) i r
unfolding parts place
parts-paste [] k i n ws r h e f l = absurd (not-suc-le-zero h)
parts-paste (s ∷ ss) k zero n ws r h e f l = rw (e, section_same ws r k n f l, parts_after ws r k n f l ss (k + n) (omega arith))
parts-paste (s ∷ ss) k (suc i) n ws r h e f l =
    rw (part_before ws r (place ss (k + extent s) i) n f l s k (place_low ss (k + extent s) i), parts-paste ss (k + extent s) i n ws r (le_of_suc-le-suc h) e f l)

-- part i of the record, a row at its place and of its size
pub row_put : (ws : List ℕ) (i at n : ℕ) (r : List ℕ) → length ws ≡ 1236 → i < length sizes → size_at sizes i ≡ row n → place sizes 0 i ≡ at → at + n ≤ 1236 → length r ≡ n
    → whole (paste ws at r n) ≡ made (set (parts sizes 0 ws) i r)
row_put ws i at n r l h e p f m =
    ap (λ (k : ℕ). whole (paste ws k r n)) (sym p) ∙ ap made (parts-paste sizes 0 i n ws r h e (omega (arith, l, p, f)) m)
