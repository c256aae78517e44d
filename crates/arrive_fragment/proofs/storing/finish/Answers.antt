-- `finish` asks what remains in the slot: none, and the channel is dispatched; else nothing changes.
use borrow.Author.Tests.{eq-eqb, ne_eqb}
use Rattle.arrive_fragment.proofs.storing.finish.Goals as goal

pub returns-then-slot-eq0 : goal.returns-then-slot-eq0
returns-then-slot-eq0 c =
    let slot = c.incoming_at-slot in
    rw (← slot.ensures, eq-eqb _ 0 c.if-slot-eq0.true) c.dispatch.ensures

pub returns-else-slot-eq0 : goal.returns-else-slot-eq0
returns-else-slot-eq0 c = rw (← c.incoming_at-slot.ensures, ne_eqb _ 0 c.if-slot-eq0.false)
