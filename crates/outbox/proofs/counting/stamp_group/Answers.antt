-- `stamp_group` meets its contract: the group steps, and no other.
use Rattle.outbox.proofs.counting.stamp_group.Goals as goal

pub returns : goal.returns
returns c = rw (← c.next-next.ensures)
