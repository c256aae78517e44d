-- `stamp_own` meets its contract: the peer's own number steps, and no other.
use Rattle.outbox.proofs.counting.stamp_own.Goals as goal

pub returns : goal.returns
returns c = rw (← c.next-next.ensures)
