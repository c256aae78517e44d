-- Whether the channels below the count hold a block is whether those that are left do, a channel at a time.
use mathlib.Core.Path.{◌≡◌}
use lib.ListN.{take, drop}
use Rattle.record.specs.Damage.{held, blocks}
use Rattle.places.specs.Whole.{whole}
use Rattle.arrive_fragment.proofs.searching.block_held.Given as goal

abbrev pub invariant-loop-k : goal.invariant-loop-k
invariant-loop-k l =
    let slots = (whole l.words).incoming in
    let cs = take l.count (whole l.words).channels in
    blocks slots (held cs) ≡ blocks slots (held (drop l.k cs))
