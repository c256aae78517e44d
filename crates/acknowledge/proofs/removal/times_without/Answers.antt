-- `times_without` meets its contract, by the two tests of the rule.
use Rattle.acknowledge.proofs.removal.times_without.Goals as goal

pub returns-then-left : goal.returns-then-left
returns-then-left c = rw (c.if-removed.true, c.if-left.true, c.wrapping_add_u32.ensures.value)

pub returns-else-left : goal.returns-else-left
returns-else-left c = rw (c.if-removed.true, c.if-left.false)

pub returns-else-removed : goal.returns-else-removed
returns-else-removed c = rw c.if-removed.false
