-- A place of a table by its number: of the first n, of numbers with their bits, of one thing after the other, before and past a seam; and how long each is.
-- The argument: induction on the lists; what is not written is so wherever it stands.
use Prim.Native.Nat.{ℕ, zero, suc, ◌+◌, ◌*◌, ◌-◌, ◌/◌, ◌%◌, ◌≤◌, ◌<◌}
use mathlib.Core.Path.{◌≡◌, refl, ap, sym, ◌∙◌}
use mathlib.Core.Bool.{Bool, true, false}
use mathlib.Core.List.{List, [], ◌∷◌, ◌++◌}
use native.Mathlib.Nat.{zero-mul, suc-mul, zero-add, add-zero, mod-lt, div-add-mod', div-lt_iff_lt-mul}
use native.Mathlib.Omega.{arith}
use lib.Dec.{ltb}
use lib.ListN.{length, get_or, length-append, get_or-append}
use lib.Seq.{get_or-append-add}
use borrow.Author.Tests.{lt-ltb, le-ltb, ltb-true, ltb-false}
use Rattle.numbers.specs.Pick.{pick, both}
use Rattle.order.specs.Table.{plain, unwritten, nowhere, first, there, numbered, each_places}
use Rattle.order.specs.declared.Place.{Place}

-- ---- before and past a seam, any elements
module _ {A : Type 0} (xs ys : List A) (d : A) (n : ℕ) (l : length xs ≡ n) where
  pub at_front : (i : ℕ) → i < n → get_or (xs ++ ys) i d ≡ get_or xs i d
  at_front i h = get_or-append xs ys d i (omega arith)

  pub at_back : (i : ℕ) → get_or (xs ++ ys) (n + i) d ≡ get_or ys i d
  at_back i = ap (λ (k : ℕ). get_or (xs ++ ys) (k + i) d) (sym l) ∙ get_or-append-add xs ys i d

  pub past_seam : (i : ℕ) → n ≤ i → get_or (xs ++ ys) i d ≡ get_or ys (i - n) d
  past_seam i h =
      let e : i ≡ n + (i - n) = omega arith in
      ap (λ (k : ℕ). get_or (xs ++ ys) k d) e ∙ at_back (i - n)

-- ---- only the first are written
-- written, or not
abbrev pub shown_if : Bool → Place → Place
shown_if b e = pick b e (unwritten e)

pub shown_nowhere : (b : Bool) → shown_if b nowhere ≡ nowhere
shown_nowhere true = refl
shown_nowhere false = refl

-- written by two tests
pub shown_twice : (a b : Bool) (e : Place) → shown_if (both a b) e ≡ shown_if a (shown_if b e)
shown_twice true b e = refl
shown_twice false true e = refl
shown_twice false false e = refl

pub ltb-suc : (i n : ℕ) → ltb i n ≡ ltb (suc i) (suc n)
ltb-suc i n = go (ltb i n) refl
  where
    go : (b : Bool) → ltb i n ≡ b → b ≡ ltb (suc i) (suc n)
    go true e = sym (lt-ltb (suc i) (suc n) (omega (arith, ltb-true i n e)))
    go false e = sym (le-ltb (suc i) (suc n) (omega (arith, ltb-false i n e)))

pub first_at : (n i : ℕ) (es : List Place) → get_or (first n es) i nowhere ≡ shown_if (ltb i n) (get_or es i nowhere)
unfolding first
first_at n i [] = sym (shown_nowhere (ltb i n))
first_at zero zero (e ∷ es) = refl
first_at zero (suc i) (e ∷ es) = first_at zero i es ∙ rw (le-ltb i 0 (omega arith), le-ltb (suc i) 0 (omega arith))
first_at (suc n) zero (e ∷ es) = rw (lt-ltb 0 (suc n) (omega arith))
first_at (suc n) (suc i) (e ∷ es) = first_at n i es ∙ ap (λ (t : Bool). shown_if t (get_or es i nowhere)) (ltb-suc i n)

pub first-length : (n : ℕ) (es : List Place) → length (first n es) ≡ length es
unfolding first
first-length n [] = refl
first-length zero (e ∷ es) = ap suc (first-length zero es)
first-length (suc n) (e ∷ es) = ap suc (first-length n es)

-- all of n, or none
pub there-ltb : (b : Bool) (n i : ℕ) → i < n → ltb i (there b n) ≡ b
there-ltb true n i h = lt-ltb i n h
there-ltb false n i h = le-ltb i 0 (omega arith)

pub there-both : (b : Bool) (k i n : ℕ) → ltb (k + i) (there b (k + n)) ≡ both b (ltb i n)
there-both false k i n = le-ltb (k + i) 0 (omega arith)
there-both true k i n = go (ltb i n) refl
  where
    go : (t : Bool) → ltb i n ≡ t → ltb (k + i) (k + n) ≡ t
    go true e = lt-ltb (k + i) (k + n) (omega (arith, ltb-true i n e))
    go false e = le-ltb (k + i) (k + n) (omega (arith, ltb-false i n e))

pub there_at : (b : Bool) (n i : ℕ) (es : List Place) → i < n → get_or (first (there b n) es) i nowhere ≡ shown_if b (get_or es i nowhere)
there_at b n i es h = first_at (there b n) i es ∙ ap (λ (t : Bool). shown_if t (get_or es i nowhere)) (there-ltb b n i h)

-- ---- numbers with their bits
pub numbered_at : (bs xs : List ℕ) (i : ℕ) → i < length bs → i < length xs → get_or (numbered bs xs) i nowhere ≡ plain (get_or bs i 0) (get_or xs i 0)
unfolding numbered
numbered_at [] xs i h k = absurd (omega arith)
numbered_at (b ∷ bs) [] i h k = absurd (omega arith)
numbered_at (b ∷ bs) (x ∷ xs) zero h k = refl
numbered_at (b ∷ bs) (x ∷ xs) (suc i) h k = numbered_at bs xs i (omega arith) (omega arith)

pub numbered-length : (bs xs : List ℕ) → length bs ≡ length xs → length (numbered bs xs) ≡ length bs
unfolding numbered
numbered-length [] xs e = refl
numbered-length (b ∷ bs) [] e = absurd (omega arith)
numbered-length (b ∷ bs) (x ∷ xs) e = ap suc (numbered-length bs xs (omega arith))

-- ---- one thing after the other, each of w places
module _ {A : Type 0} (places : Bool → A → List Place) (test : ℕ → Bool) (d : A) (w : ℕ) where
  -- whatever the test says
  abbrev pub EachOf : List A → Type 0
  EachOf xs = (c : ℕ) (b : Bool) → c < length xs → length (places b (get_or xs c d)) ≡ w

  pub each_length : (k : ℕ) (xs : List A) → EachOf xs → length (each_places places test k xs) ≡ length xs * w
  unfolding each_places
  each_length k [] s = sym (zero-mul w)
  each_length k (x ∷ xs) s =
      let here : length (places (test k) x) ≡ w = s 0 (test k) (omega arith) in
      let rest : length (each_places places test (k + 1) xs) ≡ length xs * w = each_length (k + 1) xs (λ (c : ℕ) (b : Bool) (h : c < length xs). s (suc c) b (omega arith)) in
      let e : suc (length xs) * w ≡ length xs * w + w = suc-mul (length xs) w in
      length-append (places (test k) x) (each_places places test (k + 1) xs) ∙ omega arith

  -- place j of thing c
  pub each_at : (k : ℕ) (xs : List A) → EachOf xs → (c j : ℕ) → c < length xs → j < w
      → get_or (each_places places test k xs) (c * w + j) nowhere ≡ get_or (places (test (k + c)) (get_or xs c d)) j nowhere
  unfolding each_places
  each_at k [] s c j h l = absurd (omega arith)
  each_at k (x ∷ xs) s zero j h l =
      let z : zero * w + j ≡ j = ap (λ (n : ℕ). n + j) (zero-mul w) ∙ zero-add j in
      rw (z, add-zero) (at_front (places (test k) x) (each_places places test (k + 1) xs) nowhere w (s 0 (test k) (omega arith)) j l)
  each_at k (x ∷ xs) s (suc c) j h l =
      let e : suc c * w + j ≡ w + (c * w + j) = let m : suc c * w ≡ c * w + w = suc-mul c w in omega arith in
      let f : k + 1 + c ≡ k + suc c = omega arith in
      ap (λ (n : ℕ). get_or (places (test k) x ++ each_places places test (k + 1) xs) n nowhere) e
      ∙ at_back (places (test k) x) (each_places places test (k + 1) xs) nowhere w (s 0 (test k) (omega arith)) (c * w + j)
      ∙ each_at (k + 1) xs (λ (i : ℕ) (b : Bool) (q : i < length xs). s (suc i) b (omega arith)) c j (omega arith) l
      ∙ ap (λ (n : ℕ). get_or (places (test n) (get_or xs c d)) j nowhere) f

  -- by the place's number alone
  pub each_place : (xs : List A) → EachOf xs → (j : ℕ) → 0 < w → j < length xs * w
      → get_or (each_places places test 0 xs) j nowhere ≡ get_or (places (test (j / w)) (get_or xs (j / w) d)) (j % w) nowhere
  each_place xs s j z h =
      ap (λ (i : ℕ). get_or (each_places places test 0 xs) i nowhere) (sym (div-add-mod' j w))
      ∙ each_at 0 xs s (j / w) (j % w) ((div-lt_iff_lt-mul z).1 h) (mod-lt j z)
      ∙ ap (λ (n : ℕ). get_or (places (test n) (get_or xs (j / w) d)) (j % w) nowhere) (zero-add (j / w))
