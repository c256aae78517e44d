-- The lists of the record by name: where each stands among the numbers, and the record after its row was altered there, one law for every operation.
-- The argument: the parts computed; a row written is `row_put`, and what it keeps is a list by its two fields.
use Prim.Native.Nat.{ℕ, ◌+◌, ◌≤◌, min}
use mathlib.Core.Path.{◌≡◌, refl, ap, sym, ◌∙◌}
use mathlib.Core.Bool.{Bool}
use mathlib.Core.List.{List, [], ◌++◌, map}
use native.Mathlib.Omega.{arith}
use lib.ListN.{length, get_or, take, drop, length-take}
use lib.Seq.{paste}
use borrow.Author.Tests.{le-leb}
use Rattle.numbers.specs.Pick.{pick}
use Rattle.cells.specs.Runs.{moved_to, over}
use Rattle.cells.specs.Free.{marked_all}
use Rattle.cells.proofs.Views.{rest_end}
use Rattle.cells.proofs.Marked.{marked_append}
use Rattle.record.specs.Lists.{out_items, out_keep, in_items, in_keep}
use Rattle.record.specs.declared.outgoing.OutList.{OutList}
use Rattle.record.specs.declared.incoming.InList.{InList}
use Rattle.lists.specs.Rows.{low, len_of, cells_of, row_at, items_of, Keeps}
use Rattle.lists.proofs.Mapped.{map-take}
use Rattle.lists.proofs.Placed.{items_length}
use Rattle.record.specs.Damage.{used_out}
use Rattle.peer.specs.declared.Peer.{Peer}
use Rattle.places.specs.Whole.{out_list_from, in_list_from, sizes, numbers, parts, made, whole}
use Rattle.places.proofs.Written.{place, row_put}
use Rattle.queues.specs.declared.Out.{Out}
use Rattle.queues.specs.declared.Out.TheVariants as out
use Rattle.queues.specs.Queues.{out_of, place_of, put_out, put_dispatched}

-- ---- any list
-- the record after an operation: where a row written is a list put, the list that names xs is put
kept : (L : Type 0) (list : ℕ → List ℕ → L) (put : L → Peer) (ws : List ℕ) (at n : ℕ)
    → ((r : List ℕ) → length r ≡ n + 1 → whole (paste ws at r (n + 1)) ≡ put (list (len_of r) (cells_of r)))
    → (xs after : List ℕ) → Keeps at n ws xs after → whole after ≡ put (list (length xs) (over xs (cells_of (row_at at n ws))))
kept L list put ws at n law xs after k = ap whole k.is ∙ law k.row k.long ∙ rw (k.len, k.cells)

pub in_kept : (ws : List ℕ) (at : ℕ) (held : InList) (put : InList → Peer) → in_list_from (row_at at 12 ws) ≡ held
    → ((r : List ℕ) → length r ≡ 13 → whole (paste ws at r 13) ≡ put (in_list_from r))
    → (rule : List ℕ → List ℕ) (after : List ℕ) → Keeps at 12 ws (rule (items_of (row_at at 12 ws))) after → whole after ≡ put (in_keep held (rule (in_items held)))
in_kept ws at held put e law rule after k =
    kept InList (λ (n : ℕ) (c : List ℕ). record { len = n; slots = c }) put ws at 12 law (rule (items_of (row_at at 12 ws))) after k
    ∙ ap (λ (x : InList). put (in_keep x (rule (in_items x)))) e

-- ---- a list of the outgoing pool
place_low : (o : Out) → place_of o ≤ 109
place_low out.Sent = omega arith
place_low out.Reliable = omega arith
place_low out.Outgoing = omega arith

-- its row is among the numbers
pub place_fits : (o : Out) (at n : ℕ) → at ≡ place_of o → n ≡ 1236 → at + 32 + 1 ≤ n
place_fits o at n e l = omega (arith, place_low o)

pub out_is : (ws : List ℕ) (o : Out) → out_list_from (row_at (place_of o) 32 ws) ≡ out_of o (whole ws).lists
unfolding made parts numbers sizes
out_is ws out.Sent = refl
out_is ws out.Reliable = refl
out_is ws out.Outgoing = refl

put_out_lem : (ws : List ℕ) → length ws ≡ 1236 → (o : Out) (r : List ℕ) → length r ≡ 33 → whole (paste ws (place_of o) r 33) ≡ put_out o (whole ws) (out_list_from r)
unfolding made parts numbers sizes place
put_out_lem ws l out.Sent r h = row_put ws 1 43 33 r l (omega arith) refl refl (omega arith) h
put_out_lem ws l out.Reliable r h = row_put ws 2 76 33 r l (omega arith) refl refl (omega arith) h
put_out_lem ws l out.Outgoing r h = row_put ws 3 109 33 r l (omega arith) refl refl (omega arith) h

module _ (o : Out) (at : ℕ) (e : at ≡ place_of o) where
  -- what it names
  pub out_items_lem : (ws : List ℕ) → items_of (row_at at 32 ws) ≡ out_items (out_of o (whole ws).lists)
  out_items_lem ws = rw e (ap out_items (out_is ws o))

  -- after any operation on it
  pub out_kept : (ws : List ℕ) → length ws ≡ 1236 → (rule : List ℕ → List ℕ) (after : List ℕ) → Keeps at 32 ws (rule (items_of (row_at at 32 ws))) after
      → whole after ≡ put_out o (whole ws) (out_keep (out_of o (whole ws).lists) (rule (out_items (out_of o (whole ws).lists))))
  out_kept ws l rule after k =
      kept OutList (λ (n : ℕ) (c : List ℕ). record { len = n; slots = c }) (put_out o (whole ws)) ws at 32
      (λ (r : List ℕ) (h : length r ≡ 33). ap (λ (j : ℕ). whole (paste ws j r 33)) e ∙ put_out_lem ws l o r h) (rule (items_of (row_at at 32 ws))) after k
      ∙ ap (λ (x : OutList). put_out o (whole ws) (out_keep x (rule (out_items x)))) (ap (λ (j : ℕ). out_list_from (row_at j 32 ws)) e ∙ out_is ws o)

  -- cut short of all its slots it names none; then it is filled
  emptied : (ws : List ℕ) → length ws ≡ 1236 → (mid : List ℕ) → Keeps at 32 ws (drop 32 (items_of (row_at at 32 ws))) mid
      → whole mid ≡ put_out o (whole ws) (out_keep (out_of o (whole ws).lists) [])
  emptied ws l mid k =
      let n : length (items_of (row_at at 32 ws)) ≡ min (low (get_or ws at 0)) 32 = items_length ws at 32 (place_fits o at (length ws) e l) in
      let none : drop 32 (out_items (out_of o (whole ws).lists)) ≡ [] = ap (drop 32) (sym (out_items_lem ws)) ∙ rest_end (items_of (row_at at 32 ws)) 32 (omega (arith, n)) in
      out_kept ws l (drop 32) mid k ∙ ap (λ (xs : List ℕ). put_out o (whole ws) (out_keep (out_of o (whole ws).lists) xs)) none

  pub replaced : (ws mid after : List ℕ) → length ws ≡ 1236 → length mid ≡ 1236 → (k : ℕ) (run : List ℕ) → k ≤ 32
      → Keeps at 32 ws (drop 32 (items_of (row_at at 32 ws))) mid → Keeps at 32 mid (moved_to 32 k (map low run) (items_of (row_at at 32 mid))) after
      → whole after ≡ put_out o (whole ws) (out_keep (out_of o (whole ws).lists) (map low (take k run)))
  replaced ws mid after l m k run h cut app =
      out_kept mid m (moved_to 32 k (map low run)) after app
      ∙ filled o (whole ws) (whole mid) (emptied ws l mid cut)
      ∙ ap (λ (xs : List ℕ). put_out o (whole ws) (out_keep (out_of o (whole ws).lists) xs)) all
    where
      filled : (o : Out) (p q : Peer) → q ≡ put_out o p (out_keep (out_of o p.lists) [])
          → put_out o q (out_keep (out_of o q.lists) (moved_to 32 k (map low run) (out_items (out_of o q.lists)))) ≡ put_out o p (out_keep (out_of o p.lists) (moved_to 32 k (map low run) []))
      filled out.Sent p q e = rw e
      filled out.Reliable p q e = rw e
      filled out.Outgoing p q e = rw e

      all : moved_to 32 k (map low run) [] ≡ map low (take k run)
      all =
          let t : 0 + length (take k (map low run)) ≤ 32 = rw length-take (omega arith) in
          ap (λ (b : Bool). pick b (take k (map low run)) []) (le-leb (0 + length (take k (map low run))) 32 t) ∙ sym (map-take low k run)

-- the marks of the three
pub marked_out : (ws m a b c : List ℕ) → a ≡ marked_all m (items_of (row_at 43 32 ws)) → b ≡ marked_all a (items_of (row_at 76 32 ws)) → c ≡ marked_all b (items_of (row_at 109 32 ws))
    → c ≡ marked_all m (used_out (whole ws).lists)
marked_out ws m a b c x y z =
    let sent = out_items (whole ws).lists.sent in
    let reliable = out_items (whole ws).lists.send_reliable in
    let waiting = out_items (whole ws).lists.outgoing in
    rw (marked_append m sent (reliable ++ waiting), marked_append (marked_all m sent) reliable waiting, ← out_items_lem out.Sent 43 refl ws, ← out_items_lem out.Reliable 76 refl ws, ← out_items_lem out.Outgoing 109 refl ws, ← x, ← y) z

-- ---- the dispatched
module _ (ws : List ℕ) where
  pub dispatched_is : in_list_from (row_at 142 12 ws) ≡ (whole ws).lists.dispatched
  unfolding made parts numbers sizes
  dispatched_is = refl

  pub dispatched_items_lem : items_of (row_at 142 12 ws) ≡ in_items (whole ws).lists.dispatched
  dispatched_items_lem = ap in_items dispatched_is

  module _ (l : length ws ≡ 1236) where
    put_dispatched_lem : (r : List ℕ) → length r ≡ 13 → whole (paste ws 142 r 13) ≡ put_dispatched (whole ws) (in_list_from r)
    unfolding made parts numbers sizes place
    put_dispatched_lem r h = row_put ws 4 142 13 r l (omega arith) refl refl (omega arith) h

    pub dispatched_kept : (rule : List ℕ → List ℕ) (after : List ℕ) → Keeps 142 12 ws (rule (items_of (row_at 142 12 ws))) after
        → whole after ≡ put_dispatched (whole ws) (in_keep (whole ws).lists.dispatched (rule (in_items (whole ws).lists.dispatched)))
    dispatched_kept = in_kept ws 142 (whole ws).lists.dispatched (put_dispatched (whole ws)) dispatched_is put_dispatched_lem
