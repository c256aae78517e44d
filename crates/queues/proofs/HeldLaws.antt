-- The list that a channel holds: what it names, its cells, and the record after any operation on it.
-- The argument: where it stands among the numbers, by the channels' laws; the rest is as for every list of the incoming pool.
use Prim.Native.Nat.{ℕ, ◌+◌, ◌<◌}
use mathlib.Core.Path.{◌≡◌, ap, sym, ◌∙◌}
use mathlib.Core.List.{List, map}
use native.Mathlib.Omega.{arith}
use lib.ListN.{length, drop}
use lib.Seq.{paste}
use Rattle.record.specs.Lists.{in_items, in_keep}
use Rattle.record.specs.declared.incoming.InList.{InList}
use Rattle.lists.specs.Rows.{low, cells_of, row_at, items_of, Keeps}
use Rattle.lists.proofs.Placed.{row_is}
use Rattle.pool.proofs.Copies.{paste_over}
use Rattle.places.specs.Whole.{in_list_from, whole}
use Rattle.places.proofs.ChannelLaws.{held_is, put_held_lem}
use Rattle.queues.specs.Queues.{held_of, held_place, put_held}
use Rattle.queues.proofs.QueueLaws.{in_kept}

module _ (ws : List ℕ) (l : length ws ≡ 1236) (i : ℕ) (h : i < 8) (at : ℕ) (e : at ≡ held_place i) where
  list_is : in_list_from (row_at at 12 ws) ≡ held_of (whole ws) i
  list_is = ap (λ (j : ℕ). in_list_from (row_at j 12 ws)) e ∙ sym (held_is ws i h l)

  pub held_items : items_of (row_at at 12 ws) ≡ in_items (held_of (whole ws) i)
  held_items = ap in_items list_is

  pub held_kept : (rule : List ℕ → List ℕ) (after : List ℕ) → Keeps at 12 ws (rule (items_of (row_at at 12 ws))) after
      → whole after ≡ put_held (whole ws) i (in_keep (held_of (whole ws) i) (rule (in_items (held_of (whole ws) i))))
  held_kept =
      in_kept ws at (held_of (whole ws) i) (put_held (whole ws) i) list_is
      (λ (r : List ℕ) (m : length r ≡ 13). ap (λ (j : ℕ). whole (paste ws j r 13)) e ∙ put_held_lem ws i r h m l)

  -- its cells, copied over so many numbers
  pub held_cells : (old got : List ℕ) → length old ≡ 12 → got ≡ paste old 0 (drop (at + 1) ws) 12 → map low got ≡ (held_of (whole ws) i).slots
  held_cells old got m q =
      ap (map low) (q ∙ paste_over old (drop (at + 1) ws) 12 m)
      ∙ ap cells_of (sym (row_is ws at 12 (omega arith)))
      ∙ ap (λ (x : InList). x.slots) list_is
