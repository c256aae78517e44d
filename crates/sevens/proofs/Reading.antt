-- What `number` and `joined` lean on: `number_in` at a place, by the cases of the code; how large the number is, and in how many groups it was read.
-- The argument: the first byte's case; induction on the groups that are left.
use mathlib.Core.Path.{◌≡◌, refl, ap, sym, ◌∙◌}
use mathlib.Core.Bool.{Bool, true, false}
use mathlib.Core.List.{List, [], ◌∷◌}
use Prim.Native.Nat.{ℕ, zero, suc, ◌+◌, ◌*◌, ◌-◌, ◌^◌, ◌≤◌, ◌<◌}
use native.Mathlib.Numerals.{add-one}
use native.Mathlib.Nat.{pow-succ', pow-le-pow_right}
use native.Mathlib.Omega.{arith}
use lib.Dec.{ltb, eqb}
use lib.ListN.{length, drop, get_or, drop_of_length-le}
use lib.Seq.{drop-cons, get_or-drop}
use borrow.Author.Tests.{ltb-true, lt-ltb, le-ltb, eq-eqb, ne_eqb}
use Rattle.numbers.specs.Pick.{pick}
use Rattle.sevens.specs.Groups.{grouped, below, number_in, value_of, groups_of}
use Rattle.sevens.specs.declared.Grouped.{Grouped}
use Rattle.std.specs.Prelude.{Option, Some, None}

-- the first byte's cases
pub first_last : (n b : ℕ) (bs : List ℕ) → b < 128 → number_in (suc n) (b ∷ bs) ≡ grouped b 1
unfolding number_in
first_last n b bs h = rw (lt-ltb b 128 h)

pub first_more : (n b : ℕ) (bs : List ℕ) → 128 ≤ b → number_in (suc n) (b ∷ bs) ≡ below b (number_in n bs)
unfolding number_in
first_more n b bs h = rw (le-ltb b 128 h)

pub below_none : (b v k : ℕ) → v ≡ 0 → below b (grouped v k) ≡ None
below_none b v k e = rw (eq-eqb v 0 e)

pub below_some : (b v k : ℕ) → (v ≡ 0 → ⊥) → below b (grouped v k) ≡ grouped (b - 128 + 128 * v) (k + 1)
below_some b v k f = rw (ne_eqb v 0 f)

-- the same at a place, as the code asks
pub no_group : (bs : List ℕ) (n : ℕ) → n ≡ 0 → None ≡ number_in n bs
unfolding number_in
no_group bs zero e = refl
no_group bs (suc n) e = absurd (let z : suc n ≡ 0 = e in omega arith)

none_there : (n : ℕ) → None ≡ number_in n []
unfolding number_in
none_there zero = refl
none_there (suc n) = refl

module _ (bs : List ℕ) (at n : ℕ) where
  pub no_byte : length bs ≤ at → None ≡ number_in n (drop at bs)
  no_byte h = rw (drop_of_length-le bs h) (none_there n)

module _ (bs : List ℕ) (at n : ℕ) (some : n ≡ 0 → ⊥) (h : at < length bs) where
  one_less : n ≡ suc (n - 1)
  one_less = omega (arith, some)

  pub last_byte : get_or bs at 0 < 128 → grouped (get_or bs at 0) 1 ≡ number_in n (drop at bs)
  last_byte l = rw (one_less, drop-cons bs at 0 h, first_last (n - 1) (get_or bs at 0) (drop (suc at) bs) l)

  pub more_bytes : 128 ≤ get_or bs at 0 → below (get_or bs at 0) (number_in (n - 1) (drop (at + 1) bs)) ≡ number_in n (drop at bs)
  more_bytes l =
      ap (λ (k : ℕ). below (get_or bs at 0) (number_in (n - 1) (drop k bs))) (add-one at)
      ∙ sym (first_more (n - 1) (get_or bs at 0) (drop (suc at) bs) l)
      ∙ ap (number_in (suc (n - 1))) (sym (drop-cons bs at 0 h))
      ∙ ap (λ (k : ℕ). number_in k (drop at bs)) (sym one_less)

-- what is read in n groups is below 128 ^ n, and in no more groups
below_small : (b m : ℕ) (g : Option Grouped) → b < 256 → value_of g < m → value_of (below b g) < 128 * m
below_small b m None h l = omega arith
below_small b m (Some g) h l = go (eqb g.value 0)
  where
    go : (t : Bool) → value_of (pick t None (grouped (b - 128 + 128 * g.value) (g.groups + 1))) < 128 * m
    go true = omega arith
    go false = omega arith

below_few : (b m : ℕ) (g : Option Grouped) → groups_of g ≤ m → groups_of (below b g) ≤ suc m
below_few b m None l = omega arith
below_few b m (Some g) l = go (eqb g.value 0)
  where
    go : (t : Bool) → groups_of (pick t None (grouped (b - 128 + 128 * g.value) (g.groups + 1))) ≤ suc m
    go true = omega arith
    go false = omega arith

pub number_small : (n : ℕ) (bs : List ℕ) → ((j : ℕ) → get_or bs j 0 < 256) → value_of (number_in n bs) < 128 ^ n
unfolding number_in
number_small zero bs all = omega arith
number_small (suc n) [] all = rw pow-succ' (omega (arith, number_small n [] all))
number_small (suc n) (b ∷ bs) all = rw pow-succ' (go (ltb b 128) refl (number_small n bs (λ j. all (suc j))))
  where
    go : (t : Bool) → ltb b 128 ≡ t → value_of (number_in n bs) < 128 ^ n
        → value_of (pick t (grouped b 1) (below b (number_in n bs))) < 128 * 128 ^ n
    go true e l = omega (arith, ltb-true b 128 e)
    go false e l = below_small b (128 ^ n) (number_in n bs) (all 0) l

pub number_few : (n : ℕ) (bs : List ℕ) → groups_of (number_in n bs) ≤ n
unfolding number_in
number_few zero bs = omega arith
number_few (suc n) [] = omega arith
number_few (suc n) (b ∷ bs) = go (ltb b 128) (number_few n bs)
  where
    go : (t : Bool) → groups_of (number_in n bs) ≤ n → groups_of (pick t (grouped b 1) (below b (number_in n bs))) ≤ suc n
    go true l = omega arith
    go false l = below_few b n (number_in n bs) l

-- its groups lie inside the bytes
pub number_there : (n : ℕ) (bs : List ℕ) → groups_of (number_in n bs) ≤ length bs
unfolding number_in
number_there zero bs = omega arith
number_there (suc n) [] = omega arith
number_there (suc n) (b ∷ bs) = go (ltb b 128) (number_there n bs)
  where
    go : (t : Bool) → groups_of (number_in n bs) ≤ length bs → groups_of (pick t (grouped b 1) (below b (number_in n bs))) ≤ suc (length bs)
    go true l = omega arith
    go false l = below_few b (length bs) (number_in n bs) l

pub number_fits : (bs : List ℕ) (at n : ℕ) → ((j : ℕ) → get_or bs j 0 < 256) → n ≤ 4 → value_of (number_in n (drop at bs)) < 2 ^ 28
number_fits bs at n all l =
    omega (
      arith,
      number_small n (drop at bs) (λ j. rw get_or-drop (all (at + j))),
      pow-le-pow_right {n = 128} (omega arith) l,
    )
