-- `opens` by the room that there is: the rule's cases.
use Rattle.arrive_fragment.proofs.opens.Goals as goal

pub returns-else-another : goal.returns-else-another
returns-else-another c = rw (c.in-Stored.is, c.if-another.false)
