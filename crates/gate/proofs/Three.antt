-- The three outgoing lists, one after the other, each not longer than its pool and walked over the marks of those before it, are the rule's outgoing half.
-- The argument: the definition unrolled, its tests in the order in which they are asked; a walk that came to the end left its marks.
use Prim.Native.Nat.{ℕ}
use mathlib.Core.Path.{◌≡◌, ap, sym, ◌∙◌}
use mathlib.Core.Bool.{Bool, true, false}
use mathlib.Core.List.{List, map}
use lib.Dec.{leb}
use lib.ListN.{replicate}
use Rattle.numbers.specs.Pick.{both}
use Rattle.numbers.proofs.BoolLaws.{both_with_true}
use Rattle.cells.specs.Free.{marked_all}
use Rattle.lists.specs.Rows.{len_of, items_of, row_at}
use Rattle.record.specs.declared.groups.Lists.{Lists}
use Rattle.damage.specs.CodeInWalks.{passes}
use Rattle.damage.proofs.WalkLaws.{middle}
use Rattle.damage.specs.CodeOutWalks.{out_pass, slot_grade, grade_passes}
use Rattle.places.specs.Whole.{whole}
use Rattle.gate.specs.CodeHalves.{Passes, out_fits, out_side}
use Rattle.gate.proofs.Groups.{lists_are}
use Rattle.gate.proofs.Stops.{first_no, second_no, third_says}

paired : (s t o p q r : Bool) → both (both s (both t o)) (both p (both q (both r true))) ≡ both (both s p) (both (both t q) (both o r))
paired s t o p q r =
    ap (λ (x : Bool). both (both s (both t o)) (both p (both q x))) (both_with_true r)
    ∙ middle s (both t o) p (both q r)
    ∙ ap (λ (x : Bool). both (both s p) x) (middle t o q r)

module _ (ws : List ℕ) (count : ℕ) where
  abbrev half : Bool
  half = out_side count (whole ws)

  abbrev good : Bool → ℕ → Bool
  good = grade_passes (map (slot_grade count) (whole ws).outgoing)

  abbrev none : List ℕ
  none = replicate 32 0

  abbrev sent : List ℕ
  sent = row_at 43 32 ws

  abbrev reliable : List ℕ
  reliable = row_at 76 32 ws

  abbrev outgoing : List ℕ
  outgoing = row_at 109 32 ws

  abbrev list : Bool → List ℕ → List ℕ → Bool
  list b row m = both (leb (len_of row) 32) (passes (good b) m (items_of row))

  half_is : half ≡ both (list true sent none) (both (list false reliable (marked_all none (items_of sent))) (list false outgoing (marked_all (marked_all none (items_of sent)) (items_of reliable))))
  unfolding out_pass
  half_is =
      let m₁ = marked_all none (items_of sent) in
      ap (λ (l : Lists). both (out_fits l) (out_pass good l 3 0 none)) (lists_are ws)
      ∙ paired (leb (len_of sent) 32) (leb (len_of reliable) 32) (leb (len_of outgoing) 32) (passes (good true) none (items_of sent))
      (passes (good false) m₁ (items_of reliable)) (passes (good false) (marked_all m₁ (items_of reliable)) (items_of outgoing))

  module _ (r₁ : Bool) (m₁ : List ℕ) (w₁ : Passes (good true) 32 none sent r₁ m₁) where
    pub sent_no : r₁ ≡ false → false ≡ half
    sent_no e =
        first_no (list true sent none) (list false reliable (marked_all none (items_of sent)))
        (list false outgoing (marked_all (marked_all none (items_of sent)) (items_of reliable))) half half_is (sym w₁.is ∙ e)

    module _ (e₁ : r₁ ≡ true) (r₂ : Bool) (m₂ : List ℕ) (w₂ : Passes (good false) 32 m₁ reliable r₂ m₂) where
      half_1 : half ≡ both (list true sent none) (both (list false reliable m₁) (list false outgoing (marked_all m₁ (items_of reliable))))
      half_1 = half_is ∙ ap (λ (m : List ℕ). both (list true sent none) (both (list false reliable m) (list false outgoing (marked_all m (items_of reliable))))) (sym (w₁.marks e₁))

      pub reliable_no : r₂ ≡ false → false ≡ half
      reliable_no e =
          second_no (list true sent none) (list false reliable m₁) (list false outgoing (marked_all m₁ (items_of reliable))) half half_1
          (sym w₁.is ∙ e₁) (sym w₂.is ∙ e)

      pub outgoing_says : r₂ ≡ true → (r₃ : Bool) (m₃ : List ℕ) → Passes (good false) 32 m₂ outgoing r₃ m₃ → r₃ ≡ half
      outgoing_says e₂ r₃ m₃ w₃ =
          w₃.is
          ∙ ap (list false outgoing) (w₂.marks e₂)
          ∙ third_says (list true sent none) (list false reliable m₁) (list false outgoing (marked_all m₁ (items_of reliable))) half half_1
          (sym w₁.is ∙ e₁) (sym w₂.is ∙ e₂)
