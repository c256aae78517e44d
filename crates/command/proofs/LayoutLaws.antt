-- What holds of every layout: at most sixteen widths, each from 1 to 4, at most 48 bytes, and none where the number names no command.
-- The argument: a computed test at each of the numbers below 13, and an empty layout at every other.
use mathlib.Core.Path.{◌≡◌, refl, ap}
use mathlib.Core.Bool.{Bool, true, false}
use mathlib.Core.List.{List, [], ◌∷◌}
use Prim.Native.Nat.{ℕ, zero, suc, ◌≤◌, ◌<◌}
use native.Mathlib.Omega.{arith}
use lib.Dec.{ltb, leb}
use lib.ListN.{length, get_or}
use borrow.Author.Tests.{ltb-true, ltb-false, leb-true, lt-leb}
use Rattle.numbers.specs.Pick.{pick, both}
use Rattle.command.specs.Layout.{known, table, layout, total, size_of, width_of}
use Rattle.numbers.proofs.BoolLaws.{both_left, both_right, both_false}
use Rattle.command.proofs.TableLaws.{up_to, below}

abbrev pub named : ℕ → List ℕ
named k = 1 ∷ 1 ∷ 2 ∷ get_or table k []

pub layout-known : (k : ℕ) → known k ≡ true → layout k ≡ named k
unfolding layout
layout-known k e = ap (λ (b : Bool). pick b (named k) []) e

pub layout_none : (k : ℕ) → known k ≡ false → layout k ≡ []
unfolding layout
layout_none k e = ap (λ (b : Bool). pick b (named k) []) e

pub known_low : (k : ℕ) → known k ≡ true → 1 ≤ k
known_low k e = leb-true 1 k (both_left (leb 1 k) (leb k 12) e)

pub known_high : (k : ℕ) → known k ≡ true → k ≤ 12
known_high k e = leb-true k 12 (both_right (leb 1 k) (leb k 12) e)

pub not_known : (k : ℕ) → 13 ≤ k → known k ≡ false
not_known k h = both_false (leb 1 k) (leb k 12) (lt-leb k 12 (omega arith))

pub each_layout : (f : List ℕ → Bool) → f [] ≡ true → up_to (λ k. f (layout k)) 13 ≡ true → (k : ℕ) → f (layout k) ≡ true
each_layout f none some k = go (ltb k 13) refl
  where
    go : (b : Bool) → ltb k 13 ≡ b → f (layout k) ≡ true
    go true e = below (λ j. f (layout j)) 13 some k (ltb-true k 13 e)
    go false e = rw (layout_none k (not_known k (ltb-false k 13 e))) none

-- each width is from 1 to 4
unfoldable pub narrow : List ℕ → Bool
narrow [] = true
narrow (w ∷ ws) = both (both (leb 1 w) (leb w 4)) (narrow ws)

pub layout-narrow : (k : ℕ) → narrow (layout k) ≡ true
unfolding layout narrow
layout-narrow = each_layout narrow refl refl

pub layout-length : (k : ℕ) → length (layout k) ≤ 16
unfolding layout
layout-length k = leb-true (length (layout k)) 16 (each_layout (λ ws. leb (length ws) 16) refl refl k)

pub narrow_le : (ws : List ℕ) (j : ℕ) → narrow ws ≡ true → get_or ws j 0 ≤ 4
unfolding narrow
narrow_le [] j n = omega arith
narrow_le (w ∷ ws) zero n = leb-true w 4 (both_right (leb 1 w) (leb w 4) (both_left (both (leb 1 w) (leb w 4)) (narrow ws) n))
narrow_le (w ∷ ws) (suc j) n = narrow_le ws j (both_right (both (leb 1 w) (leb w 4)) (narrow ws) n)

pub width_le : (k j : ℕ) → width_of k j ≤ 4
width_le k j = narrow_le (layout k) j (layout-narrow k)

pub size_le : (k : ℕ) → size_of k ≤ 48
unfolding layout total
size_le k = leb-true (size_of k) 48 (each_layout (λ ws. leb (total ws) 48) refl refl k)

pub size_none : (k : ℕ) → known k ≡ false → size_of k ≡ 0
unfolding total
size_none k e = ap total (layout_none k e)

pub size_some : (k : ℕ) → known k ≡ true → 0 < size_of k
unfolding total
size_some k e = let h : size_of k ≡ total (named k) = ap total (layout-known k e) in omega arith

pub known_size : (k : ℕ) → size_of k ≡ 0 → known k ≡ false
known_size k z = go (known k) refl
  where
    go : (b : Bool) → known k ≡ b → b ≡ false
    go true e = absurd (omega (arith, size_some k e))
    go false e = refl

pub size_known : (k : ℕ) → (size_of k ≡ 0 → ⊥) → known k ≡ true
size_known k z = go (known k) refl
  where
    go : (b : Bool) → known k ≡ b → b ≡ true
    go true e = refl
    go false e = absurd (z (size_none k e))
