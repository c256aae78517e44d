-- What the whole list holds of that start is what is left of it holds, a turn at a time.
use mathlib.Core.Path.{◌≡◌}
use lib.ListN.{take, drop}
use Rattle.record.specs.Lists.{in_items}
use Rattle.places.specs.Whole.{whole}
use Rattle.queues.specs.Queues.{held_of}
use Rattle.arrive_fragment.specs.Pieces.{unfinished}
use Rattle.arrive_fragment.proofs.searching.unfinished.Given as goal

abbrev pub invariant-loop-k : goal.invariant-loop-k
invariant-loop-k l =
    let slots = (whole l.words).incoming in
    let xs = take l.k-end (in_items (held_of (whole l.words) l.i)) in
    unfinished slots xs l.start.0 ≡ unfinished slots (drop l.k xs) l.start.0
