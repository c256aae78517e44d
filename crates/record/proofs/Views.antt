-- A list is what its cells became; one that was kept names what it was given, and its cells stay as many.
-- The argument: `over xs cells` begins with xs and goes on with what is past them.
use Prim.Native.Nat.{ℕ, ◌≤◌}
use mathlib.Core.Path.{◌≡◌}
use mathlib.Core.List.{List}
use native.Mathlib.Omega.{arith}
use lib.ListN.{length, take, drop, length-append, length-take, length-drop}
use lib.Seq.{take-append_seam, length-take-le}
use Rattle.cells.specs.Runs.{over}
use Rattle.record.specs.Lists.{out_items, out_keep, in_items, in_keep}
use Rattle.record.specs.declared.outgoing.OutList.{OutList}
use Rattle.record.specs.declared.incoming.InList.{InList}
use Rattle.cells.proofs.CellLaws.{over_view}

pub view_over : (xs cells : List ℕ) → take (length xs) (over xs cells) ≡ xs
view_over xs cells = take-append_seam xs (drop (length xs) cells)

pub length_over : (xs cells : List ℕ) → length xs ≤ length cells → length (over xs cells) ≡ length cells
length_over xs cells h = simp (length-append, length-drop) (omega arith)

pub in_fits : (l : InList) → length (in_items l) ≤ length l.slots
in_fits l = simp length-take (omega arith)

pub out_items_keep : (l : OutList) (xs : List ℕ) → out_items (out_keep l xs) ≡ xs
out_items_keep l xs = view_over xs l.slots

pub in_items_keep : (l : InList) (xs : List ℕ) → in_items (in_keep l xs) ≡ xs
in_items_keep l xs = view_over xs l.slots

-- to keep what a list names is to change nothing, where it is not longer than its cells
pub out_keep_items : (l : OutList) → l.len ≤ length l.slots → out_keep l (out_items l) ≡ l
out_keep_items l h = rw (← over_view l.slots l.len h, length-take-le l.len l.slots h)

pub in_keep_items : (l : InList) → l.len ≤ length l.slots → in_keep l (in_items l) ≡ l
in_keep_items l h = rw (← over_view l.slots l.len h, length-take-le l.len l.slots h)
