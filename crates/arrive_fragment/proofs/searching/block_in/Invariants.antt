-- Whether the whole list names a block is whether what is left of it does, a turn at a time.
use mathlib.Core.Path.{◌≡◌}
use lib.ListN.{take, drop}
use Rattle.lists.specs.Rows.{row_at, items_of}
use Rattle.record.specs.Damage.{blocks}
use Rattle.places.specs.Whole.{whole}
use Rattle.arrive_fragment.proofs.searching.block_in.Given as goal

abbrev pub invariant-loop-k : goal.invariant-loop-k
invariant-loop-k l =
    let slots = (whole l.words).incoming in
    let xs = take l.k-end (items_of (row_at l.at 12 l.words)) in
    blocks slots xs ≡ blocks slots (drop l.k xs)
