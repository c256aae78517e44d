-- A row pasted over a part of the numbers: what a section is then, the same, before or after it; a part that was lent comes back as a paste; a paste or a
-- number inside a section is a paste of the section. The argument: `take` and `drop` of a sum.
use Prim.Native.Nat.{ℕ, zero, suc, ◌+◌, ◌-◌, ◌≤◌, ◌<◌}
use mathlib.Core.Path.{◌≡◌, refl, ap, sym, ◌∙◌}
use mathlib.Core.List.{List, [], ◌∷◌, ◌++◌, append_assoc}
use native.Mathlib.Omega.{arith}
use lib.ListN.{length, get_or, set, take, drop, length-take, length-drop, take-append-drop}
use lib.Seq.{paste, get_or-take, get_or-drop, take-add, take-take, drop-drop, drop_at, take_at, take_all, length-take-le, drop-paste, length-paste, set_split}
use borrow.Rule.Slice.PartMut.{put_mid}
use Rattle.lists.specs.Rows.{section}

pub section-length : (at n : ℕ) (ws : List ℕ) → at + n ≤ length ws → length (section at n ws) ≡ n
section-length at n ws h = rw (length-take, length-drop) (omega arith)

front : (o m : ℕ) (xs : List ℕ) → o ≤ length xs → section o m xs ≡ drop o (take (o + m) xs)
front o m xs h = sym (ap (drop o) (take-add o m xs) ∙ drop_at (take o xs) (take m (drop o xs)) o (length-take-le o xs h))

-- number k of a section
pub section_number : (at n k : ℕ) (ws : List ℕ) → k < n → get_or (section at n ws) k 0 ≡ get_or ws (at + k) 0
section_number at n k ws h = get_or-take n (drop at ws) k 0 h ∙ get_or-drop at ws k 0

-- a section of a section
pub section-section : (at n o m : ℕ) (ws : List ℕ) → o + m ≤ n → section o m (section at n ws) ≡ section (at + o) m ws
section-section at n o m ws h = go o n (drop at ws) h ∙ ap (take m) (drop-drop o at ws)
  where
    go : (o n : ℕ) (xs : List ℕ) → o + m ≤ n → take m (drop o (take n xs)) ≡ take m (drop o xs)
    go zero n xs h = take-take m n xs (omega arith)
    go (suc o) zero xs h = absurd (omega (arith, h))
    go (suc o) (suc n) [] h = refl
    go (suc o) (suc n) (x ∷ xs) h = go o n xs (omega (arith, h))

module _ (ws row : List ℕ) (at n : ℕ) (fits : at + n ≤ length ws) (full : length row ≡ n) where
  abbrev put : List ℕ
  put = paste ws at row n

  whole_row : take n row ≡ row
  whole_row = take_all n row (omega arith)

  pub put-length : length put ≡ length ws
  put-length = length-paste ws at row n fits (omega arith)

  pub section_same : section at n put ≡ row
  section_same =
      let rest = drop (at + n) ws in
      ap (λ (l : List ℕ). take n (drop at l)) (append_assoc (take at ws) (take n row) rest)
      ∙ ap (take n) (drop_at (take at ws) (take n row ++ rest) at (length-take-le at ws (omega arith)))
      ∙ take_at (take n row) rest n (length-take-le n row (omega arith))
      ∙ whole_row

  take_same : take at put ≡ take at ws
  take_same = ap (take at) (append_assoc (take at ws) (take n row) (drop (at + n) ws)) ∙ take_at (take at ws) (take n row ++ drop (at + n) ws) at (length-take-le at ws (omega arith))

  pub section_before : (o m : ℕ) → o + m ≤ at → section o m put ≡ section o m ws
  section_before o m h =
      front o m put (omega (arith, put-length))
      ∙ ap (drop o) (sym (take-take (o + m) at put h) ∙ ap (take (o + m)) take_same ∙ take-take (o + m) at ws h)
      ∙ sym (front o m ws (omega arith))

  pub section_after : (o m : ℕ) → at + n ≤ o → section o m put ≡ section o m ws
  section_after o m h =
      let e : at + n + (o - (at + n)) ≡ o = omega arith in
      let past : (l : List ℕ) → drop (o - (at + n)) (drop (at + n) l) ≡ drop o l = λ (l : List ℕ). drop-drop (o - (at + n)) (at + n) l ∙ ap (λ (k : ℕ). drop k l) e in
      ap (take m) (sym (past put) ∙ ap (drop (o - (at + n))) (drop-paste ws at row n (omega arith) (omega arith)) ∙ past ws)

  pub number_before : (k : ℕ) → k < at → get_or put k 0 ≡ get_or ws k 0
  number_before k h = sym (get_or-take at put k 0 h) ∙ ap (λ (l : List ℕ). get_or l k 0) take_same ∙ get_or-take at ws k 0 h

  pub number_after : (k : ℕ) → at + n ≤ k → get_or put k 0 ≡ get_or ws k 0
  number_after k h =
      let e : at + n + (k - (at + n)) ≡ k = omega arith in
      let past : (l : List ℕ) → get_or (drop (at + n) l) (k - (at + n)) 0 ≡ get_or l k 0 = λ (l : List ℕ). get_or-drop (at + n) l (k - (at + n)) 0 ∙ ap (λ (j : ℕ). get_or l j 0) e in
      sym (past put) ∙ ap (λ (l : List ℕ). get_or l (k - (at + n)) 0) (drop-paste ws at row n (omega arith) (omega arith)) ∙ past ws

  -- what was lent comes back
  pub part_back : put_mid at n ws row ≡ put
  part_back =
      ap (λ (l : List ℕ). take at ws ++ (row ++ l)) (drop-drop n at ws)
      ∙ sym (append_assoc (take at ws) row (drop (at + n) ws))
      ∙ ap (λ (l : List ℕ). take at ws ++ l ++ drop (at + n) ws) (sym whole_row)

-- a row pasted inside a section: the section pasted, with the row in it
pub paste_in : (ws row : List ℕ) (at n o m : ℕ) → at + n ≤ length ws → o + m ≤ n → length row ≡ m
    → paste ws (at + o) row m ≡ paste ws at (paste (section at n ws) o row m) n
paste_in ws row at n o m fits h full =
    let s = section at n ws in
    let e : at + o + m ≡ at + (o + m) = omega arith in
    let w : at + n ≡ at + (o + m) + (n - (o + m)) = omega arith in
    let ls : length s ≡ n = section-length at n ws fits in
    let lp : length (paste s o row m) ≡ n = length-paste s o row m (omega arith) (omega arith) ∙ ls in
    let a : take o s ≡ take o (drop at ws) = take-take o n (drop at ws) (omega arith) in
    let b : drop (o + m) s ≡ take (n - (o + m)) (drop (at + (o + m)) ws) =
    sym (take_all (n - (o + m)) (drop (o + m) s) (rw (length-drop) (omega (arith, ls)))) ∙ section-section at n (o + m) (n - (o + m)) ws (omega arith) in
    let c : drop (at + n) ws ≡ drop (n - (o + m)) (drop (at + (o + m)) ws) = ap (λ (k : ℕ). drop k ws) w ∙ sym (drop-drop (n - (o + m)) (at + (o + m)) ws) in
    let t : take (n - (o + m)) (drop (at + (o + m)) ws) ++ drop (n - (o + m)) (drop (at + (o + m)) ws) ≡ drop (at + (o + m)) ws = whole_again (n - (o + m)) (drop (at + (o + m)) ws) in
    ap (λ (k : ℕ). take (at + o) ws ++ take m row ++ drop k ws) e
    ∙ ap (λ (l : List ℕ). l ++ take m row ++ drop (at + (o + m)) ws) (take-add at o ws ∙ ap (λ (l : List ℕ). take at ws ++ l) (sym a))
    ∙ ap (λ (l : List ℕ). take at ws ++ take o s ++ take m row ++ l) (sym t)
    ∙ ap (λ (l : List ℕ). take at ws ++ take o s ++ take m row ++ (l ++ drop (n - (o + m)) (drop (at + (o + m)) ws))) (sym b)
    ∙ ap (λ (l : List ℕ). take at ws ++ take o s ++ take m row ++ (drop (o + m) s ++ l)) (sym c)
    ∙ regroup (take at ws) (take o s) (take m row) (drop (o + m) s) (drop (at + n) ws)
    ∙ ap (λ (l : List ℕ). take at ws ++ l ++ drop (at + n) ws) (sym (take_all n (paste s o row m) (omega (arith, lp))))
  where
    whole_again : (k : ℕ) (l : List ℕ) → take k l ++ drop k l ≡ l
    whole_again k l = take-append-drop k l

    regroup : (a b c d e : List ℕ) → a ++ b ++ c ++ (d ++ e) ≡ a ++ (b ++ c ++ d) ++ e
    regroup a b c d e =
        sym (append_assoc (a ++ b ++ c) d e)
        ∙ ap (λ (l : List ℕ). l ++ e) (append_assoc (a ++ b) c d ∙ append_assoc a b (c ++ d) ∙ ap (λ (l : List ℕ). a ++ l) (sym (append_assoc b c d)))

-- a number inside a section: the section pasted, with the number in it
pub set_in : (ws : List ℕ) (at n o x : ℕ) → at + n ≤ length ws → o < n → set ws (at + o) x ≡ paste ws at (set (section at n ws) o x) n
set_in ws at n o x fits h =
    let ls : length (section at n ws) ≡ n = section-length at n ws fits in
    one ws (at + o) x (omega arith)
    ∙ paste_in ws (x ∷ []) at n o 1 fits (omega arith) refl
    ∙ ap (λ (l : List ℕ). paste ws at l n) (sym (one (section at n ws) o x (omega arith)))
  where
    one : (l : List ℕ) (i y : ℕ) → i < length l → set l i y ≡ paste l i (y ∷ []) 1
    one l i y h =
        let e : suc i ≡ i + 1 = omega arith in
        set_split l i y h ∙ sym (append_assoc (take i l) (y ∷ []) (drop (suc i) l)) ∙ ap (λ (k : ℕ). take i l ++ (y ∷ []) ++ drop k l) e
