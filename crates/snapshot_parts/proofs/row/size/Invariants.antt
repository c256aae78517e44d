-- `size` meets its contract: the bytes of the places that are done, and those of the places that are left, are all.
use Rattle.places.specs.Whole.{whole}
use Rattle.order.specs.Table.{table}
use Rattle.snapshot_parts.proofs.RowLaws.{Sizing}
use Rattle.snapshot_parts.proofs.row.size.Given as goal

abbrev pub invariant-loop-i : goal.invariant-loop-i
invariant-loop-i l = Sizing (table (whole l.words)) l.total l.i
