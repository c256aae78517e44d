-- Marking a piece: it is marked then, every other piece is as before, and one more is marked unless it was marked already. With no marks no piece is marked.
-- The argument: two pieces share a word and a bit of it only if they are the same; counts over a run are by the pieces in it.
use Rattle.std.proofs.Common.{◌≡◌, ℕ, zero, suc, ◌+◌, ◌/◌, ◌%◌, ◌<◌, ◌≤◌, Bool, true, false, eqb, ltb, leb, refl, ap, ◌∙◌, ap₂, arith, ltb-false, ltb-true, ne_eqb, eqb-true}
use borrow.Author.Tests.{eqb-false, lt-leb}
use Rattle.numbers.specs.Pick.{pick, both}
use Rattle.numbers.specs.Bits.{bit, with_bit}
use Rattle.numbers.proofs.BitLaws.{bit_with, bit_zero}
use Rattle.numbers.proofs.BoolLaws.{both_left, both_right, both_false, same_test}
use Rattle.record.specs.Marks.{most_pieces, no_marks, piece_marked, with_piece, marked_from, marked_count}
use Rattle.record.specs.declared.groups.Marks.{Marks}

-- ---- one word of the two

abbrev word_of : Marks → ℕ → ℕ
word_of m i = pick (eqb i 0) m.low m.high

word_with : (m : Marks) (j i : ℕ) → j < most_pieces → i < 2
    → word_of (with_piece m j) i ≡ pick (eqb i (j / 32)) (with_bit (word_of m i) (j % 32)) (word_of m i)
unfolding with_piece
word_with m j i h l = go (j / 32) refl i l
  where
    go : (w : ℕ) → j / 32 ≡ w → (i : ℕ) → i < 2
        → word_of (with_piece m j) i ≡ pick (eqb i (j / 32)) (with_bit (word_of m i) (j % 32)) (word_of m i)
    go zero e zero l = rw e
    go zero e (suc zero) l = rw e
    go (suc zero) e zero l = rw e
    go (suc zero) e (suc zero) l = rw e
    go (suc (suc w)) e i l = absurd (omega arith)
    go zero e (suc (suc i)) l = absurd (omega arith)
    go (suc zero) e (suc (suc i)) l = absurd (omega arith)

-- ---- one piece

pub marked_with : (m : Marks) (j k : ℕ) → j < most_pieces → piece_marked (with_piece m j) k ≡ pick (eqb k j) true (piece_marked m k)
unfolding piece_marked
marked_with m j k h = inside (ltb k most_pieces) refl
  where
    by_word : (t : Bool) → eqb (k / 32) (j / 32) ≡ t
        → bit (pick t (with_bit (word_of m (k / 32)) (j % 32)) (word_of m (k / 32))) (k % 32) ≡ pick (eqb k j) true (bit (word_of m (k / 32)) (k % 32))
    by_word true t =
        let word = eqb-true (k / 32) (j / 32) t in
        let same : eqb (k % 32) (j % 32) ≡ eqb k j = same_test (k % 32) (j % 32) k j (λ e. omega arith) (λ e. omega arith) in
        bit_with (word_of m (k / 32)) (j % 32) (k % 32) (omega arith) ∙ rw same
    by_word false t =
        let other = eqb-false (k / 32) (j / 32) t in
        rw (ne_eqb k j (λ e. other (ap (λ (x : ℕ). x / 32) e)))

    inside : (t : Bool) → ltb k most_pieces ≡ t
        → both (ltb k most_pieces) (bit (word_of (with_piece m j) (k / 32)) (k % 32))
        ≡ pick (eqb k j) true (both (ltb k most_pieces) (bit (word_of m (k / 32)) (k % 32)))
    inside true t =
        let few = ltb-true k most_pieces t in
        rw (t, word_with m j (k / 32) h (omega arith)) (by_word (eqb (k / 32) (j / 32)) refl)
    inside false t =
        let many = ltb-false k most_pieces t in
        rw (t, ne_eqb k j (λ e. omega arith))

pub marked_none : (k : ℕ) → piece_marked no_marks k ≡ false
unfolding piece_marked
marked_none k = both_false (ltb k most_pieces) (bit (word_of no_marks (k / 32)) (k % 32)) (go (eqb (k / 32) 0))
  where
    go : (t : Bool) → bit (pick t 0 0) (k % 32) ≡ false
    go true = bit_zero (k % 32)
    go false = bit_zero (k % 32)

pub marked_again : (m : Marks) (j : ℕ) → piece_marked m j ≡ true → with_piece m j ≡ m
unfolding piece_marked with_piece with_bit
marked_again m j e = go (j / 32) refl
  where
    few : j < most_pieces
    few = ltb-true j most_pieces (both_left (ltb j most_pieces) (bit (word_of m (j / 32)) (j % 32)) e)

    set : bit (word_of m (j / 32)) (j % 32) ≡ true
    set = both_right (ltb j most_pieces) (bit (word_of m (j / 32)) (j % 32)) e

    place : leb 32 (j % 32) ≡ false
    place = lt-leb 32 (j % 32) (omega arith)

    go : (w : ℕ) → j / 32 ≡ w → with_piece m j ≡ m
    go zero w = simp (w, place, rw w at set)
    go (suc zero) w = simp (w, place, rw w at set)
    go (suc (suc n)) w = absurd (omega (arith, few))

-- ---- how many

-- marks that agree on a run have the same count there
same_count : (m o : Marks) (n k : ℕ) → ((i : ℕ) → k ≤ i → i < k + n → piece_marked m i ≡ piece_marked o i) → marked_from m k n ≡ marked_from o k n
unfolding marked_from
same_count m o zero k f = refl
same_count m o (suc n) k f =
    ap₂ (λ (b : Bool) (x : ℕ). pick b 1 0 + x) (f k (omega arith) (omega arith)) (same_count m o n (k + 1) (λ i l h. f i (omega arith) (omega arith)))

-- all of a run or none of it
pub all_alike : (b : Bool) (m : Marks) (n k : ℕ) → ((i : ℕ) → k ≤ i → i < k + n → piece_marked m i ≡ b) → marked_from m k n ≡ pick b n 0
unfolding marked_from
all_alike true m zero k f = refl
all_alike false m zero k f = refl
all_alike true m (suc n) k f =
    let rest = all_alike true m n (k + 1) (λ i l h. f i (omega arith) (omega arith)) in
    rw (f k (omega arith) (omega arith)) (omega arith)
all_alike false m (suc n) k f =
    let rest = all_alike false m n (k + 1) (λ i l h. f i (omega arith) (omega arith)) in
    rw (f k (omega arith) (omega arith)) (omega arith)

at_most_one : (b : Bool) → pick b 1 0 ≤ 1
at_most_one true = omega arith
at_most_one false = omega arith

at_most : (m : Marks) (n k : ℕ) → marked_from m k n ≤ n
unfolding marked_from
at_most m zero k = omega arith
at_most m (suc n) k = omega (arith, at_most_one (piece_marked m k), at_most m n (k + 1))

module _ (m : Marks) (j : ℕ) (few : j < most_pieces) where
  pub count_outside : (n k : ℕ) → ((i : ℕ) → k ≤ i → i < k + n → i ≡ j → ⊥) → marked_from (with_piece m j) k n ≡ marked_from m k n
  count_outside n k f = same_count (with_piece m j) m n k (λ i l h. marked_with m j i few ∙ rw (ne_eqb i j (f i l h)))

  module _ (new : piece_marked m j ≡ false) where
    pub count_inside : (n k : ℕ) → k ≤ j → j < k + n → marked_from (with_piece m j) k n ≡ marked_from m k n + 1
    unfolding marked_from
    count_inside zero k l h = absurd (omega arith)
    count_inside (suc n) k l h = rw (marked_with m j k few) (go (eqb k j) refl (count_inside n (k + 1)))
      where
        go : (t : Bool) → eqb k j ≡ t → (k + 1 ≤ j → j < k + 1 + n → marked_from (with_piece m j) (k + 1) n ≡ marked_from m (k + 1) n + 1)
            → pick (pick t true (piece_marked m k)) 1 0 + marked_from (with_piece m j) (k + 1) n ≡ pick (piece_marked m k) 1 0 + marked_from m (k + 1) n + 1
        go true t later =
            let here = eqb-true k j t in
            rw (count_outside n (k + 1) (λ i a b e. omega arith), here, new) (omega arith)
        go false t later =
            let other = eqb-false k j t in
            let rest = later (omega (arith, other)) (omega arith) in
            omega arith

    pub count_with : marked_count (with_piece m j) ≡ marked_count m + 1
    count_with = count_inside most_pieces 0 (omega arith) (omega arith)

-- where as many are marked as a run has, each of it is: else one more could be
pub full : (m : Marks) (n k j : ℕ) → marked_from m k n ≡ n → k ≤ j → j < k + n → j < most_pieces → piece_marked m j ≡ true
full m n k j e l h few = go (piece_marked m j) refl
  where
    go : (b : Bool) → piece_marked m j ≡ b → b ≡ true
    go true t = refl
    go false t = absurd (omega (arith, count_inside m j few t n k l h, at_most (with_piece m j) n k))
