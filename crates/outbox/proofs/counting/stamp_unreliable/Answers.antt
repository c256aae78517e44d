-- `stamp_unreliable` meets its contract: offset 0 decides whether the unreliable number steps.
use Rattle.std.proofs.Common.{eq-eqb, ne_eqb}
use Rattle.outbox.proofs.counting.stamp_unreliable.Goals as goal

pub returns-then-offset-ne0 : goal.returns-then-offset-ne0
returns-then-offset-ne0 c = rw (ne_eqb _ _ c.if-offset-ne0.true)

pub returns : goal.returns
returns c = rw (eq-eqb _ _ c.if-offset-ne0.false, ← c.next-next.ensures)
