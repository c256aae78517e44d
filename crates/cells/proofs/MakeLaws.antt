-- What each operation on cells makes of the first n: `Makes`, from the stores that its code does.
-- The argument: a run of stores at i lays the first i cells and the run over the rest, and those are what the definition says.
use Prim.Native.Nat.{ℕ, suc, ◌+◌, ◌-◌, ◌≤◌, ◌<◌}
use mathlib.Core.Path.{◌≡◌, ap, sym, ◌∙◌}
use mathlib.Core.List.{List, ◌∷◌, ◌++◌}
use native.Mathlib.Numerals.{add-one}
use native.Mathlib.Omega.{arith}
use lib.ListN.{length, take, drop, set, length-append, length-take, length-drop}
use lib.Seq.{paste, sets, sets-eq, take-take, length-take-le}
use borrow.Author.Tests.{lt-ltb}
use Rattle.cells.specs.Runs.{over, inserted, Makes}
use Rattle.cells.proofs.CellLaws.{sets_before, drop-take, over_view, sets_over}

-- nothing is stored
pub make_same : (l : List ℕ) (n : ℕ) → n ≤ length l → Makes l (take n l) n l
make_same l n h = record { count = sym (length-take-le n l h); fits = h; cells = over_view l n h }

-- a run is stored at i
pub make_sets : (l vs xs : List ℕ) (i r : ℕ) → i + length vs ≤ length l → r ≡ i + length vs → take i l ++ vs ≡ xs → Makes l xs r (sets l i vs)
make_sets l vs xs i r h e p =
    let k : length (take i l ++ vs) ≡ i + length vs = simp (length-append, length-take) (omega arith) in
    record {
      count = e ∙ sym k ∙ ap length p;
      fits = omega arith;
      cells = sets_over l vs i h ∙ ap (λ (x : List ℕ). over x l) p;
    }

-- a copy of k numbers to place i is a run of stores
paste_sets : (l vs : List ℕ) (i k : ℕ) → i + k ≤ length l → k ≤ length vs → paste l i vs k ≡ sets l i (take k vs)
paste_sets l vs i k h q =
    let e : length (take k vs) ≡ k = length-take-le k vs q in
    sym (sets-eq (take k vs) l i (omega (arith, e)) ∙ rw e)

module _ (l : List ℕ) (n : ℕ) (h : n ≤ length l) where
  view_length : length (take n l) ≡ n
  view_length = length-take-le n l h

  pub insert_room : (y : List ℕ) (i s : ℕ) → n < length l → i < n → y ≡ paste l (i + 1) (drop i l) (n - i)
      → Makes l (inserted (length l) (take n l) i s) (n + 1) (set y i s)
  insert_room y i s q p e =
      let k : length (take (n - i) (drop i l)) ≡ n - i = simp (length-take, length-drop) (omega arith) in
      rw (
        lt-ltb (length (take n l)) (length l) (omega (arith, view_length)),
        e,
        paste_sets l (drop i l) (i + 1) (n - i) (omega arith) (rw length-drop (omega arith)),
        add-one i,
        sets_before (take (n - i) (drop i l)) l i (suc i) s (omega arith),
      )
      (make_sets l (s ∷ take (n - i) (drop i l)) (take i (take n l) ++ (s ∷ drop i (take n l))) i (n + 1) (omega arith) (omega arith)
      (rw (take-take i n l (omega arith), drop-take i n l)))

  pub cut_makes : (y : List ℕ) (k : ℕ) → k ≤ n → y ≡ paste l 0 (drop k l) (n - k) → Makes l (drop k (take n l)) (n - k) y
  cut_makes y k p e =
      let f : length (take (n - k) (drop k l)) ≡ n - k = simp (length-take, length-drop) (omega arith) in
      rw (e, paste_sets l (drop k l) 0 (n - k) (omega arith) (rw length-drop (omega arith)))
      (make_sets l (take (n - k) (drop k l)) (drop k (take n l)) 0 (n - k) (omega arith) (omega arith) (rw (drop-take k n l)))
