-- What an operation on the cells of a list, and its new length written before them, keeps: `Keeps`, one law for all operations.
-- The argument: a write goes past the numbers before it, one at a time; the row is the new length and the new cells, and reading goes past the operation.
use Prim.Native.Nat.{ℕ, zero, suc, ◌+◌, ◌≤◌, ◌<◌}
use mathlib.Core.Path.{◌≡◌, ap, sym, subst, ◌∙◌}
use mathlib.Core.List.{List, [], ◌∷◌, ◌++◌, map}
use native.Mathlib.Nat.{zero-add}
use native.Mathlib.Numerals.{add-one}
use native.Mathlib.Omega.{arith}
use lib.ListN.{length, get_or, set, take, drop, length-drop, length-append, length-map}
use lib.Seq.{paste, take_all}
use borrow.Rule.Slice.PartMut.{put_mid}
use Rattle.cells.specs.Runs.{pushed, inserted, without, prepended, moved_to, over, Makes}
use Rattle.lists.specs.Rows.{low, section, row_at, cells_of, items_of, Keeps}
use Rattle.lists.proofs.Mapped.{map-drop, map-over, map-pushed, map-inserted, map-without, map-prepended, map_moved}
use Rattle.lists.proofs.Placed.{low_small, row_is, cells_length, items_of_lem}

-- the cells, then the length
pub list_put : (ws : List ℕ) (at n : ℕ) (c : List ℕ) (m : ℕ) → length c ≡ n → at + n + 1 ≤ length ws
    → set (put_mid (at + 1) n ws c) at m ≡ paste ws at (m ∷ c) (n + 1)
list_put [] at n c m l h = absurd (omega arith)
list_put (w ∷ ws) zero n c m l h =
    rw (zero-add, add-one n) (ap (λ (x : List ℕ). m ∷ (x ++ drop n ws)) (sym (take_all n c (omega arith))))
list_put (w ∷ ws) (suc at) n c m l h =
    let p : suc at + 1 ≡ suc (at + 1) = omega arith in
    let q : suc at + (n + 1) ≡ suc (at + (n + 1)) = omega arith in
    rw (p, q) (ap (λ (x : List ℕ). w ∷ x) (list_put ws at n c m l (omega arith)))

length_over : (xs b : List ℕ) → length xs ≤ length b → length (over xs b) ≡ length b
length_over xs b h = rw (length-append, length-drop) (omega arith)

module _ (ws : List ℕ) (at n : ℕ) (h : at + n + 1 ≤ length ws) (small : n < 65536) where
  -- an operation on the cells makes ys, which is read as the rule says
  list_made : (c ys xs : List ℕ) (m : ℕ) → map low ys ≡ xs → Makes (section (at + 1) n ws) ys m c → Keeps at n ws xs (set (put_mid (at + 1) n ws c) at m)
  list_made c ys xs m q z =
      let s = section (at + 1) n ws in
      let l : length s ≡ n = cells_length ws at n h in
      let long : length c ≡ n = ap length z.cells ∙ length_over ys s (omega (arith, z.fits, z.count)) ∙ l in
      let low-m : low m ≡ m = low_small m (omega (arith, z.fits)) in
      record {
        row = m ∷ c;
        is = list_put ws at n c m long h;
        long = rw (long, add-one n);
        len = low-m ∙ z.count ∙ sym (length-map ys low) ∙ ap length q;
        cells = ap (map low) z.cells ∙ map-over low ys s ∙ rw q (ap (λ (r : List ℕ). over xs (cells_of r)) (sym (row_is ws at n h)));
      }

  -- an operation on the first cells, in room for as many as there are cells; read, it is the rule on what the list names
  module _ (v k m : ℕ) (e : k ≡ n) (q : v ≡ low (get_or ws at 0)) (c : List ℕ) where
    op_kept : (op : ℕ → List ℕ → List ℕ) (rule : List ℕ → List ℕ) → ((xs : List ℕ) → map low (op n xs) ≡ rule (map low xs))
        → Makes (section (at + 1) k ws) (op (length (section (at + 1) k ws)) (take v (section (at + 1) k ws))) m c
        → Keeps at n ws (rule (items_of (row_at at n ws))) (set (put_mid (at + 1) k ws c) at m)
    op_kept op rule same =
        subst
        (λ (j : ℕ). Makes (section (at + 1) j ws) (op (length (section (at + 1) j ws)) (take v (section (at + 1) j ws))) m c
        → Keeps at n ws (rule (items_of (row_at at n ws))) (set (put_mid (at + 1) j ws c) at m))
        (sym e)
        (list_made c (op (length s) (take v s)) (rule (items_of (row_at at n ws))) m
        (ap (λ (r : ℕ). map low (op r (take v s))) (cells_length ws at n h) ∙ same (take v s) ∙ ap rule (items_of_lem ws at n h v q)))
      where
        s : List ℕ
        s = section (at + 1) n ws

    pub push_kept : (s : ℕ) → s < 65536 → Makes (section (at + 1) k ws) (pushed (length (section (at + 1) k ws)) (take v (section (at + 1) k ws)) s) m c
        → Keeps at n ws (pushed n (items_of (row_at at n ws)) s) (set (put_mid (at + 1) k ws c) at m)
    push_kept s b =
        op_kept (λ r xs. pushed r xs s) (λ xs. pushed n xs s)
        (λ xs. map-pushed low n xs s ∙ ap (λ (x : ℕ). pushed n (map low xs) x) (low_small s b))

    pub insert_kept : (i s : ℕ) → s < 65536 → Makes (section (at + 1) k ws) (inserted (length (section (at + 1) k ws)) (take v (section (at + 1) k ws)) i s) m c
        → Keeps at n ws (inserted n (items_of (row_at at n ws)) i s) (set (put_mid (at + 1) k ws c) at m)
    insert_kept i s b =
        op_kept (λ r xs. inserted r xs i s) (λ xs. inserted n xs i s)
        (λ xs. map-inserted low n xs i s ∙ ap (λ (x : ℕ). inserted n (map low xs) i x) (low_small s b))

    pub remove_kept : (i : ℕ) → Makes (section (at + 1) k ws) (without (take v (section (at + 1) k ws)) i) m c
        → Keeps at n ws (without (items_of (row_at at n ws)) i) (set (put_mid (at + 1) k ws c) at m)
    remove_kept i = op_kept (λ r xs. without xs i) (λ xs. without xs i) (λ xs. map-without low xs i)

    pub cut_kept : (i : ℕ) → Makes (section (at + 1) k ws) (drop i (take v (section (at + 1) k ws))) m c
        → Keeps at n ws (drop i (items_of (row_at at n ws))) (set (put_mid (at + 1) k ws c) at m)
    cut_kept i = op_kept (λ r xs. drop i xs) (λ xs. drop i xs) (λ xs. map-drop low i xs)

    pub prepend_kept : (run : List ℕ) → Makes (section (at + 1) k ws) (prepended (length (section (at + 1) k ws)) run (take v (section (at + 1) k ws))) m c
        → Keeps at n ws (prepended n (map low run) (items_of (row_at at n ws))) (set (put_mid (at + 1) k ws c) at m)
    prepend_kept run = op_kept (λ r xs. prepended r run xs) (λ xs. prepended n (map low run) xs) (λ xs. map-prepended low n run xs)

    -- a run of which all are offered
    pub append_kept : (i : ℕ) (run : List ℕ)
        → Makes (section (at + 1) k ws) (moved_to (length (section (at + 1) k ws)) i (take (length run) run) (take v (section (at + 1) k ws))) m c
        → Keeps at n ws (moved_to n i (map low run) (items_of (row_at at n ws))) (set (put_mid (at + 1) k ws c) at m)
    append_kept i run =
        op_kept (λ r xs. moved_to r i (take (length run) run) xs) (λ xs. moved_to n i (map low run) xs)
        (λ xs. ap (λ (l : List ℕ). map low (moved_to n i l xs)) (take_all (length run) run (omega arith)) ∙ map_moved low n i run xs)
