-- What may go of the whole list is what went so far and what may go of the rest, from the number that is the last then, a turn at a time.
use Rattle.std.proofs.Common.{◌≡◌, ◌+◌, take, drop}
use Rattle.record.specs.Lists.{in_items}
use Rattle.places.specs.Whole.{whole}
use Rattle.queues.specs.Queues.{held_of}
use Rattle.dispatch.specs.Dispatching.{ready_count, ready_last}
use Rattle.dispatch.proofs.dispatching.ready.Given as goal

abbrev pub invariant-loop-k : goal.invariant-loop-k
invariant-loop-k l =
    let slots = (whole l.words).incoming in
    let xs = take l.n (in_items (held_of (whole l.words) l.i)) in
    (ready_count slots xs l.initial.now.0 ≡ l.k + ready_count slots (drop l.k xs) l.now.0)
    × (ready_last slots xs l.initial.now.0 ≡ ready_last slots (drop l.k xs) l.now.0)
