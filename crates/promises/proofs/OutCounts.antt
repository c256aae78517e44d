-- How many slots of a list pass a test, whatever their order, and the slots that one list has and another has not.
-- The argument: lists that name each slot as often are rearrangements of each other, as the first slot of one stands somewhere in the other.
use Prim.Native.Nat.{ℕ, ◌+◌, ◌≤◌, ◌<◌}
use mathlib.Core.Path.{◌≡◌, refl, ap, ap₂, sym, ◌∙◌}
use mathlib.Core.Bool.{Bool, true, false}
use mathlib.Core.List.{List, [], ◌∷◌, ◌++◌, map, map-append}
use native.Mathlib.Omega.{arith}
use lib.Dec.{eqb}
use lib.ListN.{length}
use borrow.Author.Tests.{eqb-true, eq-eqb}
use Rattle.numbers.specs.Pick.{pick}
use Rattle.cells.specs.Runs.{has}
use Rattle.cells.specs.Free.{once}
use Rattle.record.specs.Lists.{out_items}
use Rattle.record.proofs.Keeps.{one, times, times_append, times_none, times_some, some_times, once_at_most}
use Rattle.record.specs.Damage.{used_out}
use Rattle.record.specs.declared.groups.Lists.{Lists}
use Rattle.promises.specs.Counts.{count}
use Rattle.promises.specs.Outbook.{missing}

-- ---- counts
module _ {A : Type 0} (f : A → Bool) where
  pub count_append : (ks ls : List A) → count f (ks ++ ls) ≡ count f ks + count f ls
  unfolding count
  count_append [] ls = omega arith
  count_append (k ∷ ks) ls = omega (arith, count_append ks ls)

  -- what is made of others, by a test of the others
  pub count_map : {B : Type 0} (g : B → A) (ss : List B) → count f (map g ss) ≡ count (λ (s : B). f (g s)) ss
  unfolding count
  count_map g [] = refl
  count_map g (s ∷ ss) = ap (λ (n : ℕ). pick (f (g s)) 1 0 + n) (count_map g ss)

-- a test that all pass
pub count-all : {A : Type 0} (ks : List A) → count (λ (k : A). true) ks ≡ length ks
unfolding count
count-all [] = refl
count-all (k ∷ ks) = omega (arith, count-all ks)

-- what is the same of every slot of a list
pub map_same : {A : Type 0} (f g : ℕ → A) (xs : List ℕ) → ((s : ℕ) → 0 < times xs s → f s ≡ g s) → map f xs ≡ map g xs
map_same {A} f g [] h = refl
map_same {A} f g (x ∷ xs) h = ap₂ (λ (k : A) (ks : List A). k ∷ ks) (h x first) (map_same f g xs (λ s p. h s (omega (arith, p))))
  where
    first : 0 < one x x + times xs x
    first = rw (eq-eqb x x refl) (omega arith)

-- ---- the order does not matter
-- a slot that stands in a list, and what stands before and behind it
record Parts (xs : List ℕ) (s : ℕ) : Type 0 where
  front : List ℕ
  rest : List ℕ
  is : xs ≡ front ++ (s ∷ rest)

parts : (xs : List ℕ) (s : ℕ) → 0 < times xs s → Parts xs s
parts [] s h = absurd (omega arith)
parts (x ∷ xs) s h = go (parts xs s) (eqb x s) refl h
  where
    go : (0 < times xs s → Parts xs s) → (b : Bool) → eqb x s ≡ b → 0 < pick b 1 0 + times xs s → Parts (x ∷ xs) s
    go there true e h = record { front = []; rest = xs; is = ap (λ (k : ℕ). k ∷ xs) (eqb-true x s e) }
    go there false e h =
        let p = there (omega arith) in
        record { front = x ∷ p.front; rest = p.rest; is = ap (λ (ys : List ℕ). x ∷ ys) p.is }

itself_once : (x : ℕ) → one x x ≡ 1
itself_once x = rw (eq-eqb x x refl)

module _ (t : ℕ → Bool) where
  pub count_same : (xs ys : List ℕ) → ((k : ℕ) → times xs k ≡ times ys k) → count t xs ≡ count t ys
  unfolding count
  count_same [] [] h = refl
  count_same [] (y ∷ ys) h = absurd (omega (arith, h y, itself_once y))
  count_same (x ∷ xs) ys h =
      let p = parts ys x (omega (arith, h x, itself_once x)) in
      omega (
        arith,
        count_same xs (p.front ++ p.rest)
            (λ k.
            omega (
              arith,
              h k,
              ap (λ (zs : List ℕ). times zs k) p.is,
              times_append p.front (x ∷ p.rest) k,
              times_append p.front p.rest k,
            )),
        ap (count t) p.is,
        count_append t p.front (x ∷ p.rest),
        count_append t p.front p.rest,
      )

-- lists that name the same slots, each once
pub once-times : (xs ys : List ℕ) → once xs ≡ true → once ys ≡ true → ((k : ℕ) → has xs k ≡ has ys k) → (k : ℕ) → times xs k ≡ times ys k
once-times xs ys a b h k = go (has ys k) refl
  where
    go : (c : Bool) → has ys k ≡ c → times xs k ≡ times ys k
    go true e =
        omega (arith, once_at_most xs a k, once_at_most ys b k, times_some xs k (h k ∙ e), times_some ys k e)
    go false e = omega (arith, times_none xs k (h k ∙ e), times_none ys k e)

-- ---- the slots of a list that another has not
missing_out : (xs ys : List ℕ) (k : ℕ) → has ys k ≡ true → times (missing xs ys) k ≡ 0
unfolding missing
missing_out [] ys k h = refl
missing_out (x ∷ xs) ys k h = go (eqb x k) refl (has ys x) refl (missing_out xs ys k h)
  where
    go : (b : Bool) → eqb x k ≡ b → (c : Bool) → has ys x ≡ c → times (missing xs ys) k ≡ 0 → times (pick c (missing xs ys) (x ∷ missing xs ys)) k ≡ 0
    go b e true d i = i
    go true e false d i =
        let y : false ≡ true = sym d ∙ ap (has ys) (eqb-true x k e) ∙ h in
        let z : ◌≡◌ {A = ℕ} 0 1 = cc in
        absurd (omega arith)
    go false e false d i = rw e (omega (arith, i))

missing_in : (xs ys : List ℕ) (k : ℕ) → has ys k ≡ false → times (missing xs ys) k ≡ times xs k
unfolding missing
missing_in [] ys k h = refl
missing_in (x ∷ xs) ys k h = go (eqb x k) refl (has ys x) refl (missing_in xs ys k h)
  where
    go : (b : Bool) → eqb x k ≡ b → (c : Bool) → has ys x ≡ c → times (missing xs ys) k ≡ times xs k
        → times (pick c (missing xs ys) (x ∷ missing xs ys)) k ≡ one x k + times xs k
    go true e true d i =
        let y : true ≡ false = sym d ∙ ap (has ys) (eqb-true x k e) ∙ h in
        let z : ◌≡◌ {A = ℕ} 0 1 = cc in
        absurd (omega arith)
    go false e true d i = rw e (omega (arith, i))
    go b e false d i = omega (arith, i)

-- of its own it has none
missing_all : (xs ys : List ℕ) → ((k : ℕ) → 0 < times xs k → has ys k ≡ true) → missing xs ys ≡ []
unfolding missing
missing_all [] ys h = refl
missing_all (x ∷ xs) ys h =
    rw (h x (omega (arith, itself_once x)), missing_all xs ys (λ k p. h k (omega (arith, p))))

pub missing_none : (xs : List ℕ) → missing xs xs ≡ []
missing_none xs = missing_all xs xs (λ k p. some_times xs k p)

-- where the other names no slot more often: the two make the list
module _ (t : ℕ → Bool) (xs ys : List ℕ) (a : once xs ≡ true) (fewer : (k : ℕ) → times ys k ≤ times xs k) where
  pub missing-count : count t (missing xs ys) + count t ys ≡ count t xs
  missing-count = sym (count_append t (missing xs ys) ys) ∙ count_same t (missing xs ys ++ ys) xs (λ k. go k (has ys k) refl)
    where
      go : (k : ℕ) (b : Bool) → has ys k ≡ b → times (missing xs ys ++ ys) k ≡ times xs k
      go k true e =
          omega (arith, missing_out xs ys k e, times_append (missing xs ys) ys k, once_at_most xs a k, fewer k, times_some ys k e)
      go k false e =
          omega (arith, missing_in xs ys k e, times_append (missing xs ys) ys k, times_none ys k e)

-- ---- what adds up over lists
abbrev pub Sums : (List ℕ → ℕ) → Type 0
Sums f = (xs ys : List ℕ) → f (xs ++ ys) ≡ f xs + f ys

pub times_sums : (k : ℕ) → Sums (λ (ss : List ℕ). times ss k)
times_sums k xs ys = times_append xs ys k

pub counts_sums : {A : Type 0} (f : A → Bool) (g : ℕ → A) → Sums (λ (ss : List ℕ). count f (map g ss))
counts_sums f g xs ys = ap (count f) (map-append g xs ys) ∙ count_append f (map g xs) (map g ys)

pub sums_used : (f : List ℕ → ℕ) → Sums f → (l : Lists)
    → f (used_out l) ≡ f (out_items l.sent) + (f (out_items l.send_reliable) + f (out_items l.outgoing))
sums_used f adds l =
    omega (
      arith,
      adds (out_items l.sent) (out_items l.send_reliable ++ out_items l.outgoing),
      adds (out_items l.send_reliable) (out_items l.outgoing),
    )
