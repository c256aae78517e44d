-- `length_of` meets its contract: the number's low 16 bits.
use Rattle.order.proofs.kinds.length_of.Goals as goal

pub returns : goal.returns
returns c = rw (c.wide16.ensures.is, c.low16.ensures)
