-- `awaiting` meets its contract: the new total is the wrapping sum of the old one and the length, the rest is copied.
use Rattle.arrival.proofs.storing.awaiting.Goals as goal

pub returns : goal.returns
returns c = rw c.wrapping_add_u32.ensures.value
