-- `mark` meets its contract: the marks of the whole list are those so far and those of what is left of it, a turn at a time; a slot that does not exist leaves none.
use mathlib.Core.Path.{◌≡◌}
use lib.ListN.{drop}
use Rattle.cells.specs.Free.{marked_all}
use Rattle.lists.specs.Rows.{row_at, items_of}
use Rattle.lists.proofs.mark.Given as goal

abbrev pub invariant-loop-k : goal.invariant-loop-k
invariant-loop-k l =
    marked_all l.initial.marks (items_of (row_at l.at l.size l.words))
    ≡ marked_all l.marks (drop l.k (items_of (row_at l.at l.size l.words)))
