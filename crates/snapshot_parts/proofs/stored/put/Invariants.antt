-- `put` meets its contract: what all slots make of the buffer is what those that are left make of it, once those before are written.
use Rattle.places.specs.Whole.{whole}
use Rattle.snapshot_parts.proofs.StoredLaws.{Putting}
use Rattle.snapshot_parts.proofs.stored.put.Given as goal

abbrev pub invariant-loop-s : goal.invariant-loop-s
invariant-loop-s l = Putting (whole l.words) l.store l.second l.initial.buffer l.at l.buffer l.end l.s
