-- `size` meets its contract: the bytes of the slots that are done, and those of the slots that are left, are all.
use Rattle.places.specs.Whole.{whole}
use Rattle.snapshot_parts.proofs.StoredLaws.{Sizing}
use Rattle.snapshot_parts.proofs.stored.size.Given as goal

abbrev pub invariant-loop-s : goal.invariant-loop-s
invariant-loop-s l = Sizing (whole l.words) l.total l.s
