-- `slot_passes` asks for the kind's rule, the channel below the count, and that of the list: the answers pick the rule's case.
use borrow.Author.Tests.{le-ltb}
use Rattle.gate.proofs.incoming.slot_passes.Goals as goal

pub returns-then-not-kind_fit : goal.returns-then-not-kind_fit
returns-then-not-kind_fit c =
    rw (← c.marks-marks.ensures, ← c.incoming_at-slot.ensures, ← c.kind_fit.ensures, c.if-not-kind_fit.true)

pub returns-then-count-channel : goal.returns-then-count-channel
returns-then-count-channel c =
    rw (← c.marks-marks.ensures, ← c.incoming_at-slot.ensures, ← c.kind_fit.ensures, c.if-not-kind_fit.false, le-ltb _ _ c.if-count-channel.true)
