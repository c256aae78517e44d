-- Things in rows of w numbers, read by any f: how many, row i by its own numbers, and what they are after row i was written, whole or in part.
-- The argument: induction on the rows; the first row is taken off in front. Products are opaque numbers to `omega`: `next`, `step` and `enough` say how they grow.
use Prim.Native.Nat.{ℕ, zero, suc, ◌+◌, ◌*◌, ◌-◌, ◌≤◌, ◌<◌}
use mathlib.Core.Path.{◌≡◌, refl, ap, sym, ◌∙◌}
use mathlib.Core.List.{List, ◌∷◌, ◌++◌}
use native.Mathlib.Nat.{le_of_suc-le-suc, not-suc-le-zero, zero-mul, suc-mul, zero-add, add-zero}
use native.Mathlib.Omega.{arith}
use lib.ListN.{length, get_or, set, take, drop, length-drop, take-append-drop, get_or-eq_default}
use lib.Seq.{paste, drop-drop, take_all, take_at, drop_at, length-take-le, length-paste, take-set-le, take-set-lt, drop-set-lt, drop-set-add, get_or-take, get_or-drop, set_out}
use Rattle.pool.specs.Rows.{row_at, rows_from}
use Rattle.pool.proofs.Copies.{paste_add, paste_front, paste_over}

-- the place of number k of row i + 1, seen from the second row
next : (w i : ℕ) → suc i * w ≡ w + i * w
next w i = suc-mul i w ∙ omega arith

step : (w i k : ℕ) → suc i * w + k ≡ w + (i * w + k)
step w i k = let e : suc i * w ≡ i * w + w = suc-mul i w in omega arith

first : (w k : ℕ) → zero * w + k ≡ k
first w k = ap (λ (x : ℕ). x + k) (zero-mul w) ∙ zero-add k

-- the first of n + 1 rows is whole, and n are left
enough : (w n l : ℕ) → l ≡ suc n * w → w ≤ l
enough w n l h = let e : suc n * w ≡ n * w + w = suc-mul n w in omega arith

pub rest_length : (w n : ℕ) (ws : List ℕ) → length ws ≡ suc n * w → length (drop w ws) ≡ n * w
rest_length w n ws h = let e : suc n * w ≡ n * w + w = suc-mul n w in length-drop w ws ∙ omega arith

row_first : (w : ℕ) (ws : List ℕ) → row_at w ws zero ≡ take w ws
row_first w ws = ap (λ (k : ℕ). take w (drop k ws)) (zero-mul w)

row_next : (w : ℕ) (ws : List ℕ) (i : ℕ) → row_at w (drop w ws) i ≡ row_at w ws (suc i)
row_next w ws i = ap (take w) (drop-drop (i * w) w ws ∙ ap (λ (k : ℕ). drop k ws) (sym (next w i)))

-- a row of enough numbers is whole
pub row_length : (w n : ℕ) (ws : List ℕ) (i : ℕ) → i < n → length ws ≡ n * w → length (row_at w ws i) ≡ w
row_length w zero ws i h l = absurd (not-suc-le-zero h)
row_length w (suc n) ws zero h l = ap length (row_first w ws) ∙ length-take-le w ws (enough w n (length ws) l)
row_length w (suc n) ws (suc i) h l =
    ap length (sym (row_next w ws i)) ∙ row_length w n (drop w ws) i (le_of_suc-le-suc h) (rest_length w n ws l)

-- number j of row i
pub row_at_lem : (w : ℕ) (ws : List ℕ) (i j : ℕ) → j < w → get_or (row_at w ws i) j 0 ≡ get_or ws (i * w + j) 0
row_at_lem w ws i j h = get_or-take w (drop (i * w) ws) j 0 h ∙ get_or-drop (i * w) ws j 0

pub row_set : (w : ℕ) (ws : List ℕ) (i k x : ℕ) → k < w → row_at w (set ws (i * w + k) x) i ≡ set (row_at w ws i) k x
row_set w ws i k x h = ap (take w) (drop-set-add (i * w) ws k x) ∙ take-set-lt w (drop (i * w) ws) k x h

module _ {A : Type 0} (f : List ℕ → A) (w : ℕ) where
  pub rows_length : (n : ℕ) (ws : List ℕ) → length (rows_from f w n ws) ≡ n
  unfolding rows_from
  rows_length zero ws = refl
  rows_length (suc n) ws = ap suc (rows_length n (drop w ws))

  pub rows_at : (n : ℕ) (ws : List ℕ) (i : ℕ) (d : A) → i < n → get_or (rows_from f w n ws) i d ≡ f (row_at w ws i)
  unfolding rows_from
  rows_at zero ws i d h = absurd (not-suc-le-zero h)
  rows_at (suc n) ws zero d h = ap f (sym (row_first w ws))
  rows_at (suc n) ws (suc i) d h = rows_at n (drop w ws) i d (le_of_suc-le-suc h) ∙ ap f (row_next w ws i)

  -- row i as a part of the run, from its place to its end
  pub rows_part : (n : ℕ) (ws : List ℕ) (i : ℕ) (d : A) → i < n → f (take (i * w + w - i * w) (drop (i * w) ws)) ≡ get_or (rows_from f w n ws) i d
  rows_part n ws i d h =
      let e : i * w + w - i * w ≡ w = omega arith in
      ap (λ (k : ℕ). f (take k (drop (i * w) ws))) e ∙ sym (rows_at n ws i d h)

  -- past the end nothing is read and nothing set
  pub rows_past : (n : ℕ) (ws : List ℕ) (i : ℕ) (d : A) → n ≤ i → get_or (rows_from f w n ws) i d ≡ d
  rows_past n ws i d h = get_or-eq_default (rows_from f w n ws) d (rw (rows_length n ws) h)

  pub rows_out : (n : ℕ) (ws : List ℕ) (i : ℕ) (x : A) → n ≤ i → set (rows_from f w n ws) i x ≡ rows_from f w n ws
  rows_out n ws i x h = set_out (rows_from f w n ws) i x (rw (rows_length n ws) h)

  rows_cons : (n : ℕ) (p q : List ℕ) → length p ≡ w → rows_from f w (suc n) (p ++ q) ≡ f p ∷ rows_from f w n q
  unfolding rows_from
  rows_cons n p q l = rw (take_at p q w l, drop_at p q w l)

  -- number k of row i set
  pub rows_set : (n : ℕ) (ws : List ℕ) (i k x : ℕ) → i < n → k < w
      → rows_from f w n (set ws (i * w + k) x) ≡ set (rows_from f w n ws) i (f (set (row_at w ws i) k x))
  unfolding rows_from
  rows_set zero ws i k x h b = absurd (not-suc-le-zero h)
  rows_set (suc n) ws zero k x h b = rw (first w k, take-set-lt w ws k x b, drop-set-lt w ws k x b, row_first w ws)
  rows_set (suc n) ws (suc i) k x h b =
      let c : w ≤ w + (i * w + k) = omega arith in
      rw (
        step w i k,
        take-set-le w ws (w + (i * w + k)) x c,
        drop-set-add w ws (i * w + k) x,
        rows_set n (drop w ws) i k x (le_of_suc-le-suc h) b,
        row_next w ws i,
      )

  -- m numbers of row i, from number k on
  pub rows_paste : (n : ℕ) (ws : List ℕ) (i k m : ℕ) (row : List ℕ) → i < n → k + m ≤ w → length ws ≡ n * w → length row ≡ m
      → rows_from f w n (paste ws (i * w + k) row m) ≡ set (rows_from f w n ws) i (f (paste (row_at w ws i) k row m))
  unfolding rows_from
  rows_paste zero ws i k m row h b l r = absurd (not-suc-le-zero h)
  rows_paste (suc n) ws zero k m row h b l r =
      let p = take w ws in
      let q = drop w ws in
      let e : length p ≡ w = length-take-le w ws (enough w n (length ws) l) in
      let fits : k + m ≤ length p = omega arith in
      let all : m ≤ length row = omega arith in
      ap (λ (x : ℕ). rows_from f w (suc n) (paste ws x row m)) (first w k)
      ∙ ap (λ (v : List ℕ). rows_from f w (suc n) (paste v k row m)) (sym (take-append-drop w ws))
      ∙ ap (rows_from f w (suc n)) (paste_front p q row k m fits)
      ∙ rows_cons n (paste p k row m) q (length-paste p k row m fits all ∙ e)
      ∙ ap (λ (v : List ℕ). f (paste v k row m) ∷ rows_from f w n q) (sym (row_first w ws))
  rows_paste (suc n) ws (suc i) k m row h b l r =
      let e : length (take w ws) ≡ w = length-take-le w ws (enough w n (length ws) l) in
      let q = drop w ws in
      ap (λ (x : ℕ). rows_from f w (suc n) (paste ws x row m)) (step w i k)
      ∙ ap (rows_from f w (suc n)) (paste_add ws row w (i * w + k) m)
      ∙ rows_cons n (take w ws) (paste q (i * w + k) row m) e
      ∙ ap (λ (xs : List A). f (take w ws) ∷ xs) (rows_paste n q i k m row (le_of_suc-le-suc h) b (rest_length w n ws l) r)
      ∙ ap (λ (v : List ℕ). f (take w ws) ∷ set (rows_from f w n q) i (f (paste v k row m))) (row_next w ws i)

  -- row i whole
  pub rows_put : (n : ℕ) (ws : List ℕ) (i : ℕ) (part : List ℕ) → i < n → length ws ≡ n * w → length part ≡ w
      → rows_from f w n (paste ws (i * w) part w) ≡ set (rows_from f w n ws) i (f part)
  rows_put n ws i part h l r =
      let z : 0 + w ≤ w = omega arith in
      let p : length part ≤ w = omega arith in
      ap (λ (x : ℕ). rows_from f w n (paste ws x part w)) (sym (add-zero (i * w)))
      ∙ rows_paste n ws i 0 w part h z l r
      ∙ ap (λ (l : List ℕ). set (rows_from f w n ws) i (f l)) (paste_over (row_at w ws i) part w (row_length w n ws i h l) ∙ take_all w part p)
