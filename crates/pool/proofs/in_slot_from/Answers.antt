-- Each number from its place.
use Rattle.pool.specs.Slots.{in_slot_from}
use Rattle.pool.proofs.in_slot_from.Goals as goal

pub returns : goal.returns
unfolding in_slot_from
returns c =
    rw (c.low8.ensures, c.low8-2.ensures, c.low16.ensures)
