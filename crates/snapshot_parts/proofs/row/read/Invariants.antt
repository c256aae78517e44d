-- `read` meets its contract: all numbers are read as those that are left are, with those before in their places.
use Rattle.snapshot_parts.proofs.ReadLaws.{Reading}
use Rattle.snapshot_parts.proofs.row.read.Given as goal

abbrev pub invariant-loop-i : goal.invariant-loop-i
invariant-loop-i l = Reading l.bytes l.at l.initial.words l.words l.end l.i
