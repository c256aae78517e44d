-- That each slot exists and stands once through the operations. `times xs s` is how many times s stands in xs: it adds up over `++`,
-- so that what an operation does to all lists of a pool is one sum for each slot; `once` and `exist` follow from `times`.
use Prim.Native.Nat.{ℕ, ◌+◌, ◌≤◌, ◌<◌}
use mathlib.Core.Path.{◌≡◌, refl, ap, sym, ◌∙◌}
use mathlib.Core.List.{List, [], ◌∷◌, ◌++◌}
use mathlib.Core.Bool.{Bool, true, false, not}
use native.Mathlib.Numerals.{add-one}
use native.Mathlib.Omega.{arith}
use lib.Dec.{ltb, leb, eqb}
use lib.ListN.{length, take, drop, get_or, take-append-drop}
use lib.Seq.{drop-cons, drop-drop}
use borrow.Author.Tests.{eqb-true, eq-eqb, ltb-true, lt-ltb, le-leb, not-true, ltb-false}
use Rattle.numbers.specs.Pick.{pick, both}
use Rattle.cells.specs.Runs.{has, pushed, inserted, without, prepended, moved_from, moved_to}
use Rattle.cells.specs.Free.{exist, once}
use Rattle.numbers.proofs.BoolLaws.{both_left, both_right, both_assoc}

-- 1 where the two are the same slot
abbrev pub one : ℕ → ℕ → ℕ
one x s = pick (eqb x s) 1 0

abbrev pub times : List ℕ → ℕ → ℕ
times [] s = 0
times (x ∷ xs) s = one x s + times xs s

pub times_append : (xs ys : List ℕ) (s : ℕ) → times (xs ++ ys) s ≡ times xs s + times ys s
times_append [] ys s = omega arith
times_append (x ∷ xs) ys s = rw (times_append xs ys s) (omega arith)

pub has_append : (xs ys : List ℕ) (s : ℕ) → has (xs ++ ys) s ≡ pick (has xs s) true (has ys s)
has_append [] ys s = refl
has_append (x ∷ xs) ys s = rw (has_append xs ys s) (or_assoc (eqb x s) (has xs s) (has ys s))
  where
    or_assoc : (a b v : Bool) → pick a true (pick b true v) ≡ pick (pick a true b) true v
    or_assoc true b v = refl
    or_assoc false b v = refl

pub exist_append : (n : ℕ) (xs ys : List ℕ) → exist n (xs ++ ys) ≡ both (exist n xs) (exist n ys)
unfolding exist
exist_append n [] ys = refl
exist_append n (x ∷ xs) ys = rw (exist_append n xs ys) (sym (both_assoc (ltb x n) (exist n xs) (exist n ys)))

-- named is what stands there at least once
pub has-times : (xs : List ℕ) (s : ℕ) → has xs s ≡ ltb 0 (times xs s)
has-times [] s = refl
has-times (x ∷ xs) s = go (has-times xs s) (eqb x s)
  where
    go : has xs s ≡ ltb 0 (times xs s) → (b : Bool) → pick b true (has xs s) ≡ ltb 0 (pick b 1 0 + times xs s)
    go rest true = sym (lt-ltb 0 (1 + times xs s) (omega arith))
    go rest false = let z : 0 + times xs s ≡ times xs s = omega arith in rw z rest

pub times_none : (xs : List ℕ) (s : ℕ) → has xs s ≡ false → times xs s ≡ 0
times_none xs s e = omega (arith, ltb-false 0 (times xs s) (sym (has-times xs s) ∙ e))

pub times_some : (xs : List ℕ) (s : ℕ) → has xs s ≡ true → 0 < times xs s
times_some xs s e = ltb-true 0 (times xs s) (sym (has-times xs s) ∙ e)

pub none_times : (xs : List ℕ) (s : ℕ) → times xs s ≡ 0 → has xs s ≡ false
none_times xs s e = has-times xs s ∙ rw e

pub some_times : (xs : List ℕ) (s : ℕ) → 0 < times xs s → has xs s ≡ true
some_times xs s h = has-times xs s ∙ lt-ltb 0 (times xs s) h

-- `once`: no slot stands twice
pub once_at_most : (xs : List ℕ) → once xs ≡ true → (s : ℕ) → times xs s ≤ 1
unfolding once
once_at_most [] e s = omega arith
once_at_most (x ∷ xs) e s = go (once_at_most xs (both_right (not (has xs x)) (once xs) e) s) (eqb x s) refl
  where
    go : times xs s ≤ 1 → (b : Bool) → eqb x s ≡ b → pick b 1 0 + times xs s ≤ 1
    go rest true t =
        let z : x ≡ s = eqb-true x s t in
        let none : times xs s ≡ 0 = rw z at (times_none xs x (not-true (has xs x) (both_left (not (has xs x)) (once xs) e))) in
        omega arith
    go rest false t = omega arith

pub at_most_once : (xs : List ℕ) → ((s : ℕ) → times xs s ≤ 1) → once xs ≡ true
unfolding once
at_most_once [] h = refl
at_most_once (x ∷ xs) h = rw (none_times xs x none, at_most_once xs (λ s. omega (arith, h s)))
  where
    none : times xs x ≡ 0
    none = let one_more : one x x + times xs x ≤ 1 = h x in let t = eq-eqb x x refl in let u : 1 + times xs x ≤ 1 = rw t at one_more in omega arith

-- `exist`: each slot named exists
pub exist_below : (n : ℕ) (xs : List ℕ) → exist n xs ≡ true → (s : ℕ) → 0 < times xs s → s < n
unfolding exist
exist_below n [] e s h = absurd (omega arith)
exist_below n (x ∷ xs) e s h = go (exist_below n xs (both_right (ltb x n) (exist n xs) e) s) (eqb x s) refl h
  where
    go : (0 < times xs s → s < n) → (b : Bool) → eqb x s ≡ b → 0 < pick b 1 0 + times xs s → s < n
    go rest true t h =
        let z : x ≡ s = eqb-true x s t in
        omega (arith, ltb-true x n (both_left (ltb x n) (exist n xs) e))
    go rest false t h = rest (omega arith)

pub below_exist : (n : ℕ) (xs : List ℕ) → ((s : ℕ) → 0 < times xs s → s < n) → exist n xs ≡ true
unfolding exist
below_exist n [] h = refl
below_exist n (x ∷ xs) h = rw (lt-ltb x n (h x first), below_exist n xs (λ s p. h s (omega (arith, p))))
  where
    first : 0 < one x x + times xs x
    first = rw (eq-eqb x x refl) (omega arith)

-- what names no slot more often than before keeps the rule
module _ (xs ys : List ℕ) (h : (s : ℕ) → times ys s ≤ times xs s) where
  pub once_less : once xs ≡ true → once ys ≡ true
  once_less e = at_most_once ys (λ s. omega (arith, h s, once_at_most xs e s))

  pub exist_less : (n : ℕ) → exist n xs ≡ true → exist n ys ≡ true
  exist_less n e = below_exist n ys (λ s p. exist_below n xs e s (omega (arith, h s, p)))

-- and what names one new slot besides
module _ (xs ys : List ℕ) (new : ℕ) (h : (s : ℕ) → times ys s ≤ one new s + times xs s) where
  pub once_more : has xs new ≡ false → once xs ≡ true → once ys ≡ true
  once_more free e = at_most_once ys (λ s. go s (eqb new s) refl)
    where
      go : (s : ℕ) (b : Bool) → eqb new s ≡ b → times ys s ≤ 1
      go s true t =
          let z : new ≡ s = eqb-true new s t in
          let none : times xs s ≡ 0 = rw z at (times_none xs new free) in
          let u : times ys s ≤ 1 + times xs s = rw t at (h s) in
          omega arith
      go s false t =
          let u : times ys s ≤ 0 + times xs s = rw t at (h s) in
          omega (arith, u, once_at_most xs e s)

  pub exist_more : (n : ℕ) → new < n → exist n xs ≡ true → exist n ys ≡ true
  exist_more n k e = below_exist n ys (λ s p. go s p (eqb new s) refl)
    where
      go : (s : ℕ) → 0 < times ys s → (b : Bool) → eqb new s ≡ b → s < n
      go s p true t = let z : new ≡ s = eqb-true new s t in omega arith
      go s p false t =
          let u : times ys s ≤ 0 + times xs s = rw t at (h s) in
          exist_below n xs e s (omega arith)

true_or_false : (a b : Bool) → (a ≡ true → b ≡ true) → (b ≡ true → a ≡ true) → a ≡ b
true_or_false true b f g = sym (f refl)
true_or_false false true f g = g refl
true_or_false false false f g = refl

-- the order does not matter
module _ (xs ys : List ℕ) (h : (s : ℕ) → times xs s ≡ times ys s) where
  pub once_same : once xs ≡ once ys
  once_same =
      true_or_false (once xs) (once ys) (once_less xs ys (λ s. omega (arith, h s))) (once_less ys xs (λ s. omega (arith, h s)))

  pub exist_same : (n : ℕ) → exist n xs ≡ exist n ys
  exist_same n =
      true_or_false (exist n xs) (exist n ys) (exist_less xs ys (λ s. omega (arith, h s)) n) (exist_less ys xs (λ s. omega (arith, h s)) n)

pub once_swap : (xs ys : List ℕ) → once (xs ++ ys) ≡ once (ys ++ xs)
once_swap xs ys = once_same (xs ++ ys) (ys ++ xs) (λ s. omega (arith, times_append xs ys s, times_append ys xs s))

-- what each operation adds up to, slot by slot
times_cut : (i : ℕ) (xs : List ℕ) (s : ℕ) → times (take i xs) s + times (drop i xs) s ≡ times xs s
times_cut i xs s = sym (times_append (take i xs) (drop i xs) s) ∙ ap (λ (l : List ℕ). times l s) (take-append-drop i xs)

pub times-pushed : (n : ℕ) (xs : List ℕ) (x s : ℕ) → length xs < n → times (pushed n xs x) s ≡ one x s + times xs s
times-pushed n xs x s h = rw (lt-ltb (length xs) n h) (omega (arith, times_append xs (x ∷ []) s))

pub times-inserted : (n : ℕ) (xs : List ℕ) (i x s : ℕ) → length xs < n → times (inserted n xs i x) s ≡ one x s + times xs s
times-inserted n xs i x s h = rw (lt-ltb (length xs) n h) (omega (arith, times_append (take i xs) (x ∷ drop i xs) s, times_cut i xs s))

pub times-without : (xs : List ℕ) (i s : ℕ) → i < length xs → one (get_or xs i 0) s + times (without xs i) s ≡ times xs s
times-without xs i s h =
    let e : times (drop i xs) s ≡ one (get_or xs i 0) s + times (drop (i + 1) xs) s = rw (add-one, drop-cons xs i 0) in
    omega (arith, times_append (take i xs) (drop (i + 1) xs) s, times_cut i xs s, e)

pub times-prepended : (n : ℕ) (run xs : List ℕ) (s : ℕ) → length run + length xs ≤ n → times (prepended n run xs) s ≡ times run s + times xs s
times-prepended n run xs s h = rw (le-leb (length run + length xs) n h) (times_append run xs s)

pub times_moved : (n k : ℕ) (xs ys : List ℕ) (s : ℕ) → times (moved_from n k xs ys) s + times (moved_to n k xs ys) s ≡ times xs s + times ys s
times_moved n k xs ys s = go (leb (length ys + length (take k xs)) n)
  where
    go : (b : Bool) → times (pick b (drop k xs) xs) s + times (pick b (ys ++ take k xs) ys) s ≡ times xs s + times ys s
    go true = omega (arith, times_append ys (take k xs) s, times_cut k xs s)
    go false = refl

-- whether or not there is room
pub pushed_adds : (n : ℕ) (xs : List ℕ) (x s : ℕ) → times (pushed n xs x) s ≤ one x s + times xs s
pushed_adds n xs x s = go (ltb (length xs) n)
  where
    go : (b : Bool) → times (pick b (xs ++ (x ∷ [])) xs) s ≤ one x s + times xs s
    go true = omega (arith, times_append xs (x ∷ []) s)
    go false = omega arith

pub inserted_adds : (n : ℕ) (xs : List ℕ) (i x s : ℕ) → times (inserted n xs i x) s ≤ one x s + times xs s
inserted_adds n xs i x s = go (ltb (length xs) n)
  where
    go : (b : Bool) → times (pick b (take i xs ++ (x ∷ drop i xs)) xs) s ≤ one x s + times xs s
    go true = omega (arith, times_append (take i xs) (x ∷ drop i xs) s, times_cut i xs s)
    go false = omega arith

pub without_takes : (xs : List ℕ) (i s : ℕ) → times (without xs i) s ≤ times xs s
without_takes xs i s =
    let e = times_cut 1 (drop i xs) s in
    let d : drop 1 (drop i xs) ≡ drop (i + 1) xs = drop-drop 1 i xs in
    let f : times (take 1 (drop i xs)) s + times (drop (i + 1) xs) s ≡ times (drop i xs) s = rw d at e in
    omega (arith, times_append (take i xs) (drop (i + 1) xs) s, times_cut i xs s, f)

pub prepended_adds : (n : ℕ) (run xs : List ℕ) (s : ℕ) → times (prepended n run xs) s ≤ times run s + times xs s
prepended_adds n run xs s = go (leb (length run + length xs) n)
  where
    go : (b : Bool) → times (pick b (run ++ xs) xs) s ≤ times run s + times xs s
    go true = omega (arith, times_append run xs s)
    go false = omega arith

-- the rule over all lists of a pool, of which xs is one and `others` are the others
module _ (others xs : List ℕ) where
  module _ (n s : ℕ) (free : has (others ++ xs) s ≡ false) (e : once (others ++ xs) ≡ true) where
    pub once-pushed : once (others ++ pushed n xs s) ≡ true
    once-pushed =
        once_more (others ++ xs) (others ++ pushed n xs s) s
        (λ k. omega (arith, times_append others xs k, times_append others (pushed n xs s) k, pushed_adds n xs s k)) free e

    pub once-inserted : (i : ℕ) → once (others ++ inserted n xs i s) ≡ true
    once-inserted i =
        once_more (others ++ xs) (others ++ inserted n xs i s) s
        (λ k. omega (arith, times_append others xs k, times_append others (inserted n xs i s) k, inserted_adds n xs i s k)) free e

  module _ (n room s : ℕ) (h : s < n) (e : exist n (others ++ xs) ≡ true) where
    pub exist-pushed : exist n (others ++ pushed room xs s) ≡ true
    exist-pushed =
        exist_more (others ++ xs) (others ++ pushed room xs s) s
        (λ k. omega (arith, times_append others xs k, times_append others (pushed room xs s) k, pushed_adds room xs s k)) n h e

    pub exist-inserted : (i : ℕ) → exist n (others ++ inserted room xs i s) ≡ true
    exist-inserted i =
        exist_more (others ++ xs) (others ++ inserted room xs i s) s
        (λ k. omega (arith, times_append others xs k, times_append others (inserted room xs i s) k, inserted_adds room xs i s k)) n h e

  module _ (i : ℕ) where
    fewer : (k : ℕ) → times (others ++ without xs i) k ≤ times (others ++ xs) k
    fewer k = omega (arith, times_append others xs k, times_append others (without xs i) k, without_takes xs i k)

    pub once-without : once (others ++ xs) ≡ true → once (others ++ without xs i) ≡ true
    once-without = once_less (others ++ xs) (others ++ without xs i) fewer

    pub exist-without : (n : ℕ) → exist n (others ++ xs) ≡ true → exist n (others ++ without xs i) ≡ true
    exist-without = exist_less (others ++ xs) (others ++ without xs i) fewer

  -- a run that leaves the pool's lists and comes back before another
  module _ (room : ℕ) (run : List ℕ) where
    no_more : (k : ℕ) → times (others ++ prepended room run xs) k ≤ times (others ++ (run ++ xs)) k
    no_more k =
        omega
        (arith, times_append others (run ++ xs) k, times_append run xs k, times_append others (prepended room run xs) k, prepended_adds room run xs k)

    pub once-prepended : once (others ++ (run ++ xs)) ≡ true → once (others ++ prepended room run xs) ≡ true
    once-prepended = once_less (others ++ (run ++ xs)) (others ++ prepended room run xs) no_more

    pub exist-prepended : (n : ℕ) → exist n (others ++ (run ++ xs)) ≡ true → exist n (others ++ prepended room run xs) ≡ true
    exist-prepended = exist_less (others ++ (run ++ xs)) (others ++ prepended room run xs) no_more

-- a move of a prefix to the end of another list changes nothing
module _ (others xs ys : List ℕ) (room k : ℕ) where
  all_there : (s : ℕ) → times (others ++ (moved_from room k xs ys ++ moved_to room k xs ys)) s ≡ times (others ++ (xs ++ ys)) s
  all_there s =
      omega (
        arith,
        times_append others (moved_from room k xs ys ++ moved_to room k xs ys) s,
        times_append (moved_from room k xs ys) (moved_to room k xs ys) s,
        times_append others (xs ++ ys) s,
        times_append xs ys s,
        times_moved room k xs ys s,
      )

  pub once_moved : once (others ++ (moved_from room k xs ys ++ moved_to room k xs ys)) ≡ once (others ++ (xs ++ ys))
  once_moved = once_same (others ++ (moved_from room k xs ys ++ moved_to room k xs ys)) (others ++ (xs ++ ys)) all_there

  pub exist_moved : (n : ℕ) → exist n (others ++ (moved_from room k xs ys ++ moved_to room k xs ys)) ≡ exist n (others ++ (xs ++ ys))
  exist_moved = exist_same (others ++ (moved_from room k xs ys ++ moved_to room k xs ys)) (others ++ (xs ++ ys)) all_there
