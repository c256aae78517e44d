-- Runs of stores: a store at the end, a store before, a cell past; and what a run of stores makes of the first n cells.
-- The argument: by induction on the run; then `sets-eq` and the laws of take and drop.
use Prim.Native.Nat.{ℕ, zero, suc, ◌+◌, ◌-◌, ◌≤◌, ◌<◌, min}
use mathlib.Core.Path.{◌≡◌, refl, ap, sym, ◌∙◌}
use mathlib.Core.List.{List, [], ◌∷◌, ◌++◌}
use native.Mathlib.Numerals.{add-one}
use native.Mathlib.Nat.{add-zero, zero-sub, sub-zero, suc-sub-suc, zero-min, min-zero, suc-min-suc}
use native.Mathlib.Omega.{arith}
use lib.ListN.{length, take, drop, get_or, set, length-append, length-take, take-append-drop}
use lib.Seq.{sets, sets-eq, set_comm, get_or-set_other, take-suc, take-nil, take_all, length-take-le}
use Rattle.cells.specs.Runs.{over}

-- a store at the end of a run
pub sets_snoc : (vs l : List ℕ) (i a : ℕ) → sets l i (vs ++ (a ∷ [])) ≡ set (sets l i vs) (i + length vs) a
sets_snoc [] l i a = rw add-zero
sets_snoc (v ∷ vs) l i a = sets_snoc vs (set l i v) (suc i) a ∙ ap (λ (k : ℕ). set (sets (set l i v) (suc i) vs) k a) (omega arith)

-- a store before a run
pub sets_before : (vs l : List ℕ) (i j a : ℕ) → i < j → set (sets l j vs) i a ≡ sets (set l i a) j vs
sets_before [] l i j a h = refl
sets_before (v ∷ vs) l i j a h =
    sets_before vs (set l j v) i (suc j) a (omega arith) ∙ ap (λ (m : List ℕ). sets m (suc j) vs) (set_comm l j i v a (λ e. omega arith))

-- a cell outside of a run is as it was
pub sets_past : (vs l : List ℕ) (i j : ℕ) → i + length vs ≤ j → get_or (sets l i vs) j 0 ≡ get_or l j 0
sets_past [] l i j h = refl
sets_past (v ∷ vs) l i j h =
    sets_past vs (set l i v) (suc i) j (omega arith) ∙ get_or-set_other l i j v 0 (λ e. omega arith)

pub sets_below : (vs l : List ℕ) (i j : ℕ) → j < i → get_or (sets l i vs) j 0 ≡ get_or l j 0
sets_below [] l i j h = refl
sets_below (v ∷ vs) l i j h =
    sets_below vs (set l i v) (suc i) j (omega arith) ∙ get_or-set_other l i j v 0 (λ e. omega arith)

pub drop-take : (i n : ℕ) (l : List ℕ) → drop i (take n l) ≡ take (n - i) (drop i l)
drop-take zero n l = rw sub-zero
drop-take (suc i) zero l = rw zero-sub
drop-take (suc i) (suc n) [] = sym (take-nil (suc n - suc i))
drop-take (suc i) (suc n) (x ∷ xs) = rw suc-sub-suc (drop-take i n xs)

-- the first k of the first n
pub take_least : (k n : ℕ) (l : List ℕ) → take (min k n) l ≡ take k (take n l)
take_least zero n l = rw zero-min
take_least (suc k) zero l = rw min-zero
take_least (suc k) (suc n) [] = rw suc-min-suc
take_least (suc k) (suc n) (x ∷ xs) = rw suc-min-suc (ap (λ (r : List ℕ). x ∷ r) (take_least k n xs))

drop_least : (k : ℕ) (l : List ℕ) → drop (min k (length l)) l ≡ drop k l
drop_least zero l = rw zero-min
drop_least (suc k) [] = rw min-zero
drop_least (suc k) (x ∷ xs) = rw suc-min-suc (drop_least k xs)

-- m of the cells are all that n means: the first n, or all
module _ (l : List ℕ) (n m : ℕ) (e : m ≡ min n (length l)) where
  pub clip : take n l ≡ take m l
  clip = rw (e, take_least n (length l) l, take_all (length l) l (omega arith))

  pub clip_low : m ≤ length l
  clip_low = omega arith

  pub clip_drop : (k h : ℕ) → h ≡ min k m → drop k (take n l) ≡ drop h (take m l)
  clip_drop k h q =
      let v : length (take m l) ≡ m = length-take-le m l clip_low in
      let w : h ≡ min k (length (take m l)) = rw v q in
      rw (clip, w, drop_least k (take m l))

-- one turn of a loop that lays a run: c are the cells so far
pub lay_turn : (l run c : List ℕ) (at j : ℕ) → j < length run → c ≡ sets l at (take j run)
    → set c (at + j) (get_or run j 0) ≡ sets l at (take (j + 1) run)
lay_turn l run c at j h p =
    let e : length (take j run) ≡ j = length-take-le j run (omega arith) in
    rw (p, add-one j, take-suc run j 0, sets_snoc (take j run) l at (get_or run j 0), e)

-- the first n cells, laid over the cells that they are
pub over_view : (l : List ℕ) (n : ℕ) → n ≤ length l → l ≡ over (take n l) l
over_view l n h = rw (length-take-le n l h, take-append-drop)

pub sets_over : (l vs : List ℕ) (i : ℕ) → i + length vs ≤ length l → sets l i vs ≡ over (take i l ++ vs) l
sets_over l vs i h =
    let e : length (take i l ++ vs) ≡ i + length vs = simp (length-append, length-take) (omega arith) in
    rw (e) (sets-eq vs l i h)
