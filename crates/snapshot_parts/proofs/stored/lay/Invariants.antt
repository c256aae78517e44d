-- `lay` meets its contract: what all slots make of both stores is what those that are left make of them, once those before are laid.
use Rattle.places.specs.Whole.{whole}
use Rattle.snapshot_parts.specs.Stored.{stores}
use Rattle.snapshot_parts.proofs.StoredLaws.{Laying}
use Rattle.snapshot_parts.proofs.stored.lay.Given as goal

abbrev pub invariant-loop-s : goal.invariant-loop-s
invariant-loop-s l = Laying (whole l.words) l.bytes l.at (stores l.initial.store l.initial.second) (stores l.store l.second) l.end l.s
