-- A list at a place of the lent numbers: its length and cells there, a slot of it, its head, what is left of it.
-- The argument: what is dropped before a list is its length and the rest; reading a cell goes past taking the first of them.
use Prim.Native.Nat.{ℕ, suc, ◌+◌, ◌≤◌, ◌<◌, min}
use mathlib.Core.Path.{◌≡◌, refl, ap, sym, ◌∙◌}
use mathlib.Core.List.{List, [], ◌∷◌, map}
use native.Mathlib.Numerals.{add-one}
use native.Mathlib.Omega.{arith}
use lib.ListN.{length, get_or, set, take, drop, length-take, length-drop, length-map, get_or-map}
use lib.Seq.{get_or-take, get_or-drop}
use Rattle.cells.specs.Runs.{first}
use Rattle.cells.specs.Free.{marked_all}
use Rattle.std.specs.Prelude.{Some}
use Rattle.cells.proofs.Views.{rest_step, rest_end}
use Rattle.lists.specs.Rows.{low, section, row_at, items_of}
use Rattle.lists.proofs.Mapped.{map-take}

pub low_small : (x : ℕ) → x < 65536 → low x ≡ x
low_small x h = omega arith

module _ (ws : List ℕ) (at n : ℕ) (h : at + n + 1 ≤ length ws) where
  pub row_is : row_at at n ws ≡ get_or ws at 0 ∷ section (at + 1) n ws
  row_is = rw (add-one n) (ap (take (suc n)) (rest_step ws at 0 (omega arith)))

  pub cells_length : length (section (at + 1) n ws) ≡ n
  cells_length = rw (length-take, length-drop) (omega arith)

  pub items_are : items_of (row_at at n ws) ≡ take (low (get_or ws at 0)) (map low (section (at + 1) n ws))
  items_are = ap items_of row_is

  -- the first cells, read
  pub items_of_lem : (v : ℕ) → v ≡ low (get_or ws at 0) → map low (take v (section (at + 1) n ws)) ≡ items_of (row_at at n ws)
  items_of_lem v q = map-take low v (section (at + 1) n ws) ∙ rw q (sym items_are)

  pub items_length : length (items_of (row_at at n ws)) ≡ min (low (get_or ws at 0)) n
  items_length = ap length items_are ∙ rw (length-take, length-map, cells_length)

  pub item_at : (k : ℕ) → k < length (items_of (row_at at n ws)) → low (get_or ws (at + 1 + k) 0) ≡ get_or (items_of (row_at at n ws)) k 0
  item_at k p =
      let s = section (at + 1) n ws in
      let l : k < low (get_or ws at 0) = omega (arith, items_length) in
      let m : k < n = omega (arith, items_length) in
      ap low (sym (get_or-drop (at + 1) ws k 0) ∙ sym (get_or-take n (drop (at + 1) ws) k 0 m))
      ∙ sym (get_or-map low s k 0)
      ∙ sym (get_or-take (low (get_or ws at 0)) (map low s) k 0 l)
      ∙ ap (λ (xs : List ℕ). get_or xs k 0) (sym items_are)

-- the head
pub first_at : (xs : List ℕ) → (length xs ≡ 0 → ⊥) → first xs ≡ Some (get_or xs 0 0)
first_at [] d = absurd (d refl)
first_at (x ∷ xs) d = refl

-- a turn of the loops, and their end
module _ (xs : List ℕ) (k : ℕ) where
  pub marks_turn : (m : List ℕ) → k < length xs → marked_all m (drop k xs) ≡ marked_all (set m (get_or xs k 0) 1) (drop (k + 1) xs)
  unfolding marked_all
  marks_turn m h = rw (rest_step xs k 0)

  pub marks_end : (m : List ℕ) → length xs ≤ k → marked_all m (drop k xs) ≡ m
  unfolding marked_all
  marks_end m h = rw (rest_end xs k h)
