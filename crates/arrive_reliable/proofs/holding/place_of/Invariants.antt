-- How many of the whole list stand before the first that is farther is k and how many of what is left, a turn at a time.
use Rattle.std.proofs.Common.{◌≡◌, ◌+◌, take, drop}
use Rattle.record.specs.Lists.{in_items}
use Rattle.places.specs.Whole.{whole}
use Rattle.queues.specs.Queues.{held_of}
use Rattle.arrive_reliable.specs.Holding.{place_of}
use Rattle.arrive_reliable.proofs.holding.place_of.Given as goal

abbrev pub invariant-loop-k : goal.invariant-loop-k
invariant-loop-k l =
    let slots = (whole l.words).incoming in
    let xs = take l.n (in_items (held_of (whole l.words) l.i)) in
    place_of slots xs l.last.0 l.d ≡ l.k + place_of slots (drop l.k xs) l.last.0 l.d
