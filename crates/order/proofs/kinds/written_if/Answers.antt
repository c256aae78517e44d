-- `written_if` meets its contract, by its two cases.
use Rattle.order.proofs.kinds.written_if.Goals as goal

pub returns : goal.returns
returns c = rw c.if-when.false
