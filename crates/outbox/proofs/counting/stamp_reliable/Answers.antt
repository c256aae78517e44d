-- `stamp_reliable` meets its contract: the reliable number steps, and the unreliable one begins anew.
use Rattle.outbox.proofs.counting.stamp_reliable.Goals as goal

pub returns : goal.returns
returns c = rw (← c.next-next.ensures)
