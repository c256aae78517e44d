-- `mark_held` meets its contract: the marks of all are those so far and those of the channels that are left, a channel at a time.
use Rattle.std.proofs.Common.{◌≡◌, take, drop}
use Rattle.cells.specs.Free.{marked_all}
use Rattle.record.specs.Damage.{held}
use Rattle.places.specs.Whole.{whole}
use Rattle.arrival.proofs.storing.mark_held.Given as goal

abbrev pub invariant-loop-k : goal.invariant-loop-k
invariant-loop-k l =
    marked_all l.initial.marks (held (take l.count (whole l.words).channels)) ≡ marked_all l.marks (held (drop l.k (take l.count (whole l.words).channels)))
