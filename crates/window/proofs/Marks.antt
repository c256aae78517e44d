-- Marking: after marking g, g is marked and every other group of the window is as before; after a clearing nothing is marked.
-- The argument: two groups of one window share a word and a bit only if they are the same.
use mathlib.Core.Path.{◌≡◌, refl, ap, ◌∙◌}
use mathlib.Core.Bool.{Bool, true, false}
use mathlib.Core.List.{List}
use Prim.Native.Nat.{ℕ, ◌/◌, ◌%◌, ◌<◌}
use native.Mathlib.Omega.{arith}
use lib.Dec.{eqb}
use lib.ListN.{length, get_or, set, get_or-replicate}
use lib.Seq.{get_or-set_same, get_or-set_other}
use borrow.Author.Tests.{eqb-true, eqb-false, eq-eqb, ne_eqb}
use Rattle.numbers.specs.Pick.{pick}
use Rattle.numbers.specs.Bits.{bit, with_bit}
use Rattle.numbers.specs.Limits.{window_size, window_words}
use Rattle.numbers.proofs.BitLaws.{bit_with, bit_zero}
use Rattle.window.specs.Window.{word_bits, marked, marking, cleared}

module _ (words : List ℕ) (g h : ℕ) (full : length words ≡ window_words) where
  -- group h after marking g: marked where they share a place of the window, else as before
  pub marked_after : marked (marking words g) h ≡ pick (eqb (h % window_size) (g % window_size)) true (marked words h)
  unfolding marked marking
  marked_after = by_word (eqb (h % window_size / word_bits) (g % window_size / word_bits)) refl
    where
      new : ℕ
      new = with_bit (get_or words (g % window_size / word_bits) 0) (g % window_size % word_bits)

      by_bit : (b : Bool) → eqb (h % window_size % word_bits) (g % window_size % word_bits) ≡ b → h % window_size / word_bits ≡ g % window_size / word_bits
          → pick (eqb (h % window_size % word_bits) (g % window_size % word_bits)) true (bit (get_or words (g % window_size / word_bits) 0) (h % window_size % word_bits))
          ≡ pick (eqb (h % window_size) (g % window_size)) true (bit (get_or words (h % window_size / word_bits) 0) (h % window_size % word_bits))
      by_bit true t e =
          let s = eqb-true (h % window_size % word_bits) (g % window_size % word_bits) t in
          simp (t, eq-eqb (h % window_size) (g % window_size) (omega arith))
      by_bit false t e =
          let n = eqb-false (h % window_size % word_bits) (g % window_size % word_bits) t in
          let d : (h % window_size ≡ g % window_size → ⊥) = (λ p. n (ap (λ (x : ℕ). x % word_bits) p)) in
          simp (t, ne_eqb (h % window_size) (g % window_size) d, e)

      by_word : (b : Bool) → eqb (h % window_size / word_bits) (g % window_size / word_bits) ≡ b
          → bit (get_or (set words (g % window_size / word_bits) new) (h % window_size / word_bits) 0) (h % window_size % word_bits)
          ≡ pick (eqb (h % window_size) (g % window_size)) true (bit (get_or words (h % window_size / word_bits) 0) (h % window_size % word_bits))
      by_word true t =
          let e = eqb-true (h % window_size / word_bits) (g % window_size / word_bits) t in
          let inside : g % window_size / word_bits < length words = omega arith in
          ap (λ (i : ℕ). bit (get_or (set words (g % window_size / word_bits) new) i 0) (h % window_size % word_bits)) e
          ∙ ap (λ (w : ℕ). bit w (h % window_size % word_bits)) (get_or-set_same words (g % window_size / word_bits) new 0 inside)
          ∙ bit_with (get_or words (g % window_size / word_bits) 0) (g % window_size % word_bits) (h % window_size % word_bits) (omega arith)
          ∙ by_bit (eqb (h % window_size % word_bits) (g % window_size % word_bits)) refl e
      by_word false t =
          let n = eqb-false (h % window_size / word_bits) (g % window_size / word_bits) t in
          let d : (h % window_size ≡ g % window_size → ⊥) = (λ p. n (ap (λ (x : ℕ). x / word_bits) p)) in
          simp (get_or-set_other words (g % window_size / word_bits) (h % window_size / word_bits) new 0 n, ne_eqb (h % window_size) (g % window_size) d)

pub marked_same : (words : List ℕ) (g : ℕ) → length words ≡ window_words → marked (marking words g) g ≡ true
marked_same words g full = marked_after words g g full ∙ simp (eq-eqb (g % window_size) (g % window_size) refl)

pub marked_other : (words : List ℕ) (g h : ℕ) → length words ≡ window_words → (h % window_size ≡ g % window_size → ⊥) → marked (marking words g) h ≡ marked words h
marked_other words g h full d = marked_after words g h full ∙ simp (ne_eqb (h % window_size) (g % window_size) d)

pub marked-cleared : (g : ℕ) → marked cleared g ≡ false
unfolding marked
marked-cleared g = rw (get_or-replicate {A = ℕ} window_words (g % window_size / word_bits) 0 0 (omega arith)) (bit_zero (g % window_size % word_bits))
