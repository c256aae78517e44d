-- The walk over the table of the record's places: a turn of `size`, `put` and `read`, and the end. The argument: the groups of the whole table are those of the places
-- that are left behind those that are done; what the numbers are read as is what the first place is, and the rest with it.
use Prim.Native.Nat.{ℕ, ◌+◌, ◌*◌, ◌≤◌, ◌<◌, suc}
use mathlib.Core.Path.{◌≡◌, refl, ap, sym, ◌∙◌}
use mathlib.Core.Bool.{Bool, true, false}
use mathlib.Core.List.{List, [], ◌∷◌, ◌++◌}
use native.Mathlib.Omega.{arith}
use lib.ListN.{length, drop, get_or, length-append}
use lib.Seq.{sets}
use Rattle.numbers.specs.Pick.{pick}
use Rattle.command.proofs.ByteLaws.{sets_append}
use Rattle.cells.proofs.Views.{rest_step, rest_end}
use Rattle.sevens.specs.Groups.{written}
use Rattle.sevens.proofs.GroupLaws.{groups_few}
use Rattle.order.specs.Table.{nowhere, shown}
use Rattle.order.specs.declared.Place.{Place}
use Rattle.snapshot_parts.specs.Row.{grouped}
use Rattle.snapshot_parts.specs.CodeRow.{part_of}

-- the groups of the places from place k on
abbrev pub left : List Place → ℕ → List ℕ
left es k = grouped (shown (drop k es))

part_length : (e : Place) → length (part_of e) ≡ pick e.is_written (length (written e.number)) 0
part_length e = go e.is_written
  where
    go : (b : Bool) → length (pick b (written e.number) []) ≡ pick b (length (written e.number)) 0
    go true = refl
    go false = refl

part_few : (e : Place) → length (part_of e) ≤ 5
part_few e = go e.is_written
  where
    go : (b : Bool) → length (pick b (written e.number) []) ≤ 5
    go true = groups_few 5 e.number
    go false = omega arith

-- at most five bytes a place
pub row_few : (es : List Place) → length (grouped (shown es)) ≤ 5 * length es
unfolding shown grouped
row_few [] = omega arith
row_few (e ∷ es) = go e.is_written (row_few es)
  where
    go : (b : Bool) → length (grouped (shown es)) ≤ 5 * length es → length (grouped (pick b (e.number ∷ shown es) (shown es))) ≤ 5 * suc (length es)
    go true h = rw length-append (omega (arith, groups_few 5 e.number))
    go false h = omega arith

module _ (es : List Place) (k : ℕ) where
  pub left_end : length es ≤ k → left es k ≡ []
  unfolding shown grouped
  left_end h = ap (λ (r : List Place). grouped (shown r)) (rest_end es k h)

  module _ (h : k < length es) where
    pub left_step : left es k ≡ part_of (get_or es k nowhere) ++ left es (k + 1)
    unfolding shown grouped
    left_step = ap (λ (r : List Place). grouped (shown r)) (rest_step es k nowhere h) ∙ go (get_or es k nowhere).is_written
      where
        go : (b : Bool)
            → grouped (pick b ((get_or es k nowhere).number ∷ shown (drop (k + 1) es)) (shown (drop (k + 1) es)))
            ≡ pick b (written (get_or es k nowhere).number) [] ++ left es (k + 1)
        go true = refl
        go false = refl

    left-length : length (left es k) ≡ length (part_of (get_or es k nowhere)) + length (left es (k + 1))
    left-length = ap length left_step ∙ length-append (part_of (get_or es k nowhere)) (left es (k + 1))

-- ---- how many bytes
-- so many bytes of the places before place k, and those that are left
pub record Sizing (es : List Place) (total k : ℕ) : Type 0 where
  pub few : total ≤ 5 * k
  pub all : total + length (left es k) ≡ length (grouped (shown es))

module _ (es : List Place) (total k : ℕ) (s : Sizing es total k) where
  pub size_end : length es ≤ k → total ≡ length (grouped (shown es))
  size_end h = omega (arith, s.all, ap length (left_end es k h))

  module _ (e : Place) (n : ℕ) (h : k < length es) (at-k : e ≡ get_or es k nowhere) (is : n ≡ pick e.is_written (length (written e.number)) 0) where
    pub size_few : n ≤ 5
    size_few = omega (arith, part_few e, part_length e)

    pub size_turn : Sizing es (total + n) (k + 1)
    size_turn =
        let m : n ≡ length (part_of (get_or es k nowhere)) = is ∙ sym (part_length e) ∙ ap (λ (f : Place). length (part_of f)) at-k in
        record { few = omega (arith, s.few, size_few); all = omega (arith, s.all, left-length es k h) }

-- ---- written
-- what all groups make of the buffer is what those that are left make of it, once those before are set
pub record Writing (es : List Place) (b₀ : List ℕ) (at : ℕ) (b : List ℕ) (end k : ℕ) : Type 0 where
  pub size : length b ≡ length b₀
  pub all : end + length (left es k) ≡ at + length (grouped (shown es))
  pub same : sets b₀ at (grouped (shown es)) ≡ sets b end (left es k)

module _ (es : List Place) (b₀ : List ℕ) (at : ℕ) (b : List ℕ) (end k : ℕ) (w : Writing es b₀ at b end k) where
  pub write_end : length es ≤ k → end ≡ at + length (grouped (shown es))
  write_end h = omega (arith, w.all, ap length (left_end es k h))

  pub write_same : length es ≤ k → b ≡ sets b₀ at (grouped (shown es))
  write_same h = sym (w.same ∙ ap (sets b end) (left_end es k h))

  module _ (e : Place) (h : k < length es) (at-k : e ≡ get_or es k nowhere) where
    pub write_room : at + length (grouped (shown es)) ≤ length b₀ → end + length (part_of e) ≤ length b
    write_room r = omega (arith, w.all, w.size, left-length es k h, ap (λ (f : Place). length (part_of f)) at-k)

    pub write_turn : (b₁ : List ℕ) (next : ℕ) → length b₁ ≡ length b → b₁ ≡ sets b end (part_of e) → next ≡ end + length (part_of e)
        → Writing es b₀ at b₁ next (k + 1)
    write_turn b₁ next l is n =
        record {
          size = l ∙ w.size;
          all = omega (arith, w.all, n, left-length es k h, ap (λ (f : Place). length (part_of f)) at-k);
          same =
              w.same
              ∙ ap (sets b end) (left_step es k h)
              ∙ ap (λ (f : Place). sets b end (part_of f ++ left es (k + 1))) (sym at-k)
              ∙ sets_append (part_of e) (left es (k + 1)) b end
              ∙ ap (λ (c : List ℕ). sets c (end + length (part_of e)) (left es (k + 1))) (sym is)
              ∙ ap (λ (m : ℕ). sets b₁ m (left es (k + 1))) (sym n);
        }
