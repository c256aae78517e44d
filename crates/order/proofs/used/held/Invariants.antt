-- `held` meets its contract: what the channels below the count hold is what those from channel c on hold, a channel at a time.
use Prim.Native.Nat.{min}
use mathlib.Core.Path.{◌≡◌}
use lib.ListN.{get_or, take, drop}
use Rattle.cells.specs.Runs.{has}
use Rattle.record.specs.Damage.{held}
use Rattle.places.specs.Whole.{whole}
use Rattle.order.proofs.used.held.Given as goal

abbrev pub invariant-loop-c : goal.invariant-loop-c
invariant-loop-c l =
    (l.count ≡ min (get_or l.words 6 0) 8)
    × (has (held (take (whole l.words).standing.channels (whole l.words).channels)) l.s ≡ has (held (drop l.c (take (whole l.words).standing.channels (whole l.words).channels))) l.s)
