-- `plain` meets its contract: the most is as required.
use Rattle.order.proofs.kinds.plain.Goals as goal

pub returns : goal.returns
returns c = rw c.requires
