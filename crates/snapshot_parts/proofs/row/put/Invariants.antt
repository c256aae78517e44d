-- `put` meets its contract: what all groups make of the buffer is what those that are left make of it, once those before are set.
use Rattle.places.specs.Whole.{whole}
use Rattle.order.specs.Table.{table}
use Rattle.snapshot_parts.proofs.RowLaws.{Writing}
use Rattle.snapshot_parts.proofs.row.put.Given as goal

abbrev pub invariant-loop-i : goal.invariant-loop-i
invariant-loop-i l = Writing (table (whole l.words)) l.initial.buffer l.at l.buffer l.end l.i
