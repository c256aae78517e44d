-- Whether the whole list holds the number is whether what is left of it does, a turn at a time.
use Rattle.std.proofs.Common.{◌≡◌, take, drop}
use Rattle.record.specs.Lists.{in_items}
use Rattle.places.specs.Whole.{whole}
use Rattle.queues.specs.Queues.{held_of}
use Rattle.arrive_reliable.specs.Holding.{holds}
use Rattle.arrive_reliable.proofs.holding.holds.Given as goal

abbrev pub invariant-loop-k : goal.invariant-loop-k
invariant-loop-k l =
    let slots = (whole l.words).incoming in
    let xs = take l.k-end (in_items (held_of (whole l.words) l.i)) in
    holds slots xs l.number.0 ≡ holds slots (drop l.k xs) l.number.0
