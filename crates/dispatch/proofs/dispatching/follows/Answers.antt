-- `follows` asks both tests of the rule in turn: the answer of the first picks the case.
use Rattle.std.proofs.Common.{eq-eqb, ne_eqb}
use Rattle.dispatch.proofs.dispatching.follows.Goals as goal

pub returns-then-slot-ne0 : goal.returns-then-slot-ne0
returns-then-slot-ne0 c = rw (ne_eqb _ _ c.if-slot-ne0.true)

pub returns : goal.returns
returns c =
    rw (eq-eqb _ _ c.if-slot-ne0.false, c.next-next.ensures)
