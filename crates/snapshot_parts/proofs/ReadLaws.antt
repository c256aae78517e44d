-- Numbers read place by place: what a place is by its cases, and the walk over all of them. The argument: what n places are read as is what the first is read as, and
-- the rest with it; a number's groups lie inside the bytes, and a command's kind inside the record, for past place 1219 no place is a command's byte.
use Prim.Native.Nat.{ℕ, zero, suc, ◌+◌, ◌-◌, ◌/◌, ◌%◌, ◌≤◌, ◌<◌}
use mathlib.Core.Path.{◌≡◌, refl, ap, sym, ◌∙◌}
use mathlib.Core.Bool.{Bool, true, false}
use mathlib.Core.List.{List, [], ◌∷◌}
use native.Mathlib.Omega.{arith}
use lib.Dec.{leb, ltb}
use lib.ListN.{length, drop, get_or, length-drop}
use lib.Seq.{drop-drop}
use borrow.Author.Tests.{leb-true, ltb-true, ltb-false}
use Rattle.numbers.specs.Pick.{pick}
use Rattle.numbers.proofs.BoolLaws.{both_left}
use Rattle.std.specs.Prelude.{Option, Some, None}
use Rattle.sevens.specs.Groups.{read, groups_of}
use Rattle.sevens.specs.declared.Grouped.{Grouped}
use Rattle.sevens.proofs.Reading.{number_there}
use Rattle.record.specs.Fresh.{no_incoming}
use Rattle.places.specs.Whole.{whole}
use Rattle.order.specs.Table.{table, nowhere, first, there, numbered, in_slot_bits, in_slot_row, marks_row, used_incoming}
use Rattle.order.specs.declared.Place.{Place}
use Rattle.order.proofs.TableLaws.{shown_if, first_at}
use Rattle.order.proofs.WholeLaws.{table-things, incoming_place, marks_place}
use Rattle.snapshot_parts.specs.Row.{fits, put_at, Parsed, parsed, unread, with_number, numbers_from, result_of}

-- ---- where a command's byte stands
never : {A : Type 0} → false ≡ true → A
never e = let z : ◌≡◌ {A = ℕ} 0 1 = cc in absurd (omega arith)

numbered_plain : (bs xs : List ℕ) (i : ℕ) → (get_or (numbered bs xs) i nowhere).is_command ≡ false
unfolding numbered
numbered_plain [] xs i = refl
numbered_plain (b ∷ bs) [] i = refl
numbered_plain (b ∷ bs) (x ∷ xs) zero = refl
numbered_plain (b ∷ bs) (x ∷ xs) (suc i) = numbered_plain bs xs i

first_plain : (n i : ℕ) (es : List Place) → (get_or es i nowhere).is_command ≡ false → (get_or (first n es) i nowhere).is_command ≡ false
first_plain n i es p = ap (λ (e : Place). e.is_command) (first_at n i es) ∙ go (ltb i n)
  where
    go : (b : Bool) → (shown_if b (get_or es i nowhere)).is_command ≡ false
    go true = p
    go false = p

module _ (ws : List ℕ) (l : length ws ≡ 1236) (i : ℕ) where
  late_plain : 1220 ≤ i → i < 1236 → (get_or (table (whole ws)) i nowhere).is_command ≡ false
  late_plain a b = go (ltb i 1234) refl
    where
      go : (t : Bool) → ltb i 1234 ≡ t → (get_or (table (whole ws)) i nowhere).is_command ≡ false
      go true e =
          let k = i - 1162 in
          let h = ltb-true i 1234 e in
          let s = get_or (whole ws).incoming (k / 6) no_incoming in
          ap (λ (p : Place). p.is_command) (sym (incoming_place ws l (i - 194) k (omega arith) (omega (arith, h)) ∙ table-things ws l i (omega arith)))
          ∙ first_plain (there (used_incoming (whole ws) (k / 6)) 6) (k % 6) (numbered in_slot_bits (in_slot_row s)) (numbered_plain in_slot_bits (in_slot_row s) (k % 6))
      go false e =
          let h = ltb-false i 1234 e in
          ap (λ (p : Place). p.is_command) (sym (marks_place ws l (i - 194) (i - 1234) (omega (arith, h)) ∙ table-things ws l i (omega arith)))
          ∙ numbered_plain (32 ∷ 32 ∷ []) (marks_row (whole ws).marks) (i - 1234)

  pub command_inside : i < 1236 → (e : Place) → e ≡ get_or (table (whole ws)) i nowhere → e.is_command ≡ true → i + 16 < 1236
  command_inside b e p q = go (ltb i 1220) refl
    where
      go : (t : Bool) → ltb i 1220 ≡ t → i + 16 < 1236
      go true z = omega (arith, ltb-true i 1220 z)
      go false z = never (sym (ap (λ (f : Place). f.is_command) p ∙ late_plain (ltb-false i 1220 z) b) ∙ q)

-- ---- one place, by its cases
pub fit_most : (e : Place) (x : ℕ) → fits e x ≡ true → x ≤ e.most
fit_most e x f = leb-true x e.most (both_left (leb x e.most) _ f)

module _ (ws bs : List ℕ) (at i : ℕ) (e : Place) (is : e ≡ get_or (table (whole ws)) i nowhere) where
  abbrev one : Parsed
  one = pick e.is_written (with_number e i ws (drop at bs) (read (drop at bs)) parsed) (parsed ws (drop at bs))

  one_is : one ≡ numbers_from 1 i ws (drop at bs)
  unfolding numbers_from
  one_is = rw is

  pub unwritten_is : e.is_written ≡ false → parsed ws (drop at bs) ≡ numbers_from 1 i ws (drop at bs)
  unwritten_is w = sym (ap (λ (t : Bool). pick t (with_number e i ws (drop at bs) (read (drop at bs)) parsed) (parsed ws (drop at bs))) w) ∙ one_is

  module _ (w : e.is_written ≡ true) where
    written_is : (g : Option Grouped) → g ≡ read (drop at bs) → with_number e i ws (drop at bs) g parsed ≡ numbers_from 1 i ws (drop at bs)
    written_is g r =
        ap (λ (h : Option Grouped). with_number e i ws (drop at bs) h parsed) r
        ∙ sym (ap (λ (t : Bool). pick t (with_number e i ws (drop at bs) (read (drop at bs)) parsed) (parsed ws (drop at bs))) w)
        ∙ one_is

    pub none_is : None ≡ read (drop at bs) → unread ≡ numbers_from 1 i ws (drop at bs)
    none_is r = written_is None r

    module _ (g : Grouped) (r : Some g ≡ read (drop at bs)) where
      -- its groups lie inside the bytes
      pub groups_inside : at ≤ length bs → at + g.groups ≤ length bs
      groups_inside h =
          let s : g.groups ≤ length (drop at bs) = rw (← ap groups_of (sym r)) (number_there 5 (drop at bs)) in
          omega (arith, rw length-drop at s)

      pub unfit_is : fits e g.value ≡ false → unread ≡ numbers_from 1 i ws (drop at bs)
      unfit_is f = sym (ap (λ (t : Bool). pick t (parsed (put_at e i g.value ws) (drop g.groups (drop at bs))) unread) f) ∙ written_is (Some g) r

      pub fit_is : fits e g.value ≡ true → (vs : List ℕ) → vs ≡ put_at e i g.value ws → parsed vs (drop (at + g.groups) bs) ≡ numbers_from 1 i ws (drop at bs)
      fit_is f vs v =
          ap (λ (us : List ℕ). parsed us (drop (at + g.groups) bs)) v
          ∙ ap (parsed (put_at e i g.value ws)) (sym (drop-drop g.groups at bs))
          ∙ sym (ap (λ (t : Bool). pick t (parsed (put_at e i g.value ws) (drop g.groups (drop at bs))) unread) f)
          ∙ written_is (Some g) r

-- ---- one place after the other
abbrev and_then : Parsed → (List ℕ → List ℕ → Parsed) → Parsed
and_then (parsed vs cs) rest = rest vs cs
and_then unread rest = unread

module _ (n i : ℕ) (ws bs : List ℕ) where
  abbrev entry : Place
  entry = get_or (table (whole ws)) i nowhere

  abbrev rest : List ℕ → List ℕ → Parsed
  rest vs cs = numbers_from n (i + 1) vs cs

  fit : (t : Bool) (x k : ℕ) → pick t (rest (put_at entry i x ws) (drop k bs)) unread ≡ and_then (pick t (parsed (put_at entry i x ws) (drop k bs)) unread) rest
  fit true x k = refl
  fit false x k = refl

  by_cases : (b : Bool) (g : Option Grouped)
      → pick b (with_number entry i ws bs g rest) (rest ws bs)
      ≡ and_then (pick b (with_number entry i ws bs g parsed) (parsed ws bs)) rest
  by_cases false g = refl
  by_cases true None = refl
  by_cases true (Some g) = fit (fits entry g.value) g.value g.groups

  then_is : numbers_from (suc n) i ws bs ≡ and_then (numbers_from 1 i ws bs) rest
  unfolding numbers_from
  then_is = by_cases entry.is_written (read bs)

none_left : (n i : ℕ) (ws bs : List ℕ) → n ≡ 0 → numbers_from n i ws bs ≡ parsed ws bs
unfolding numbers_from
none_left n i ws bs e = rw e

-- where the loop stands: all numbers are read as those that are left are, with those before in their places
pub record Reading (bs : List ℕ) (at : ℕ) (ws₀ ws : List ℕ) (end k : ℕ) : Type 0 where
  pub size : length ws ≡ length ws₀
  pub inside : end ≤ length bs
  pub same : numbers_from 1236 0 ws₀ (drop at bs) ≡ numbers_from (1236 - k) k ws (drop end bs)

module _ (bs : List ℕ) (at : ℕ) (ws₀ ws : List ℕ) (end k : ℕ) (g : Reading bs at ws₀ ws end k) where
  pub read_end : 1236 ≤ k → parsed ws (drop end bs) ≡ numbers_from 1236 0 ws₀ (drop at bs)
  read_end h = sym (g.same ∙ none_left (1236 - k) k ws (drop end bs) (omega arith))

  module _ (h : k < 1236) where
    rest_is : (r : Option ℕ) (vs : List ℕ) → result_of r vs bs ≡ numbers_from 1 k ws (drop end bs)
        → numbers_from 1236 0 ws₀ (drop at bs) ≡ and_then (result_of r vs bs) (λ (us : List ℕ) (cs : List ℕ). numbers_from (1236 - (k + 1)) (k + 1) us cs)
    rest_is r vs is =
        let n : 1236 - k ≡ suc (1236 - (k + 1)) = omega arith in
        g.same
        ∙ ap (λ (m : ℕ). numbers_from m k ws (drop end bs)) n
        ∙ then_is (1236 - (k + 1)) k ws (drop end bs)
        ∙ ap (λ (p : Parsed). and_then p (λ (us : List ℕ) (cs : List ℕ). numbers_from (1236 - (k + 1)) (k + 1) us cs)) (sym is)

    pub read_none : unread ≡ numbers_from 1 k ws (drop end bs) → unread ≡ numbers_from 1236 0 ws₀ (drop at bs)
    read_none is = sym (rest_is None ws is)

    pub read_turn : (next : ℕ) (vs : List ℕ) → parsed vs (drop next bs) ≡ numbers_from 1 k ws (drop end bs) → next ≤ length bs → length vs ≡ length ws
        → Reading bs at ws₀ vs next (k + 1)
    read_turn next vs is b l = record { size = l ∙ g.size; inside = b; same = rest_is (Some next) vs is }
