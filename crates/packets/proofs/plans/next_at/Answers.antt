-- `next_at` meets its contract: the packet itself picks the case; a piece ends within its packet.
use Rattle.packets.proofs.plans.next_at.Goals as goal

pub returns-in-One : goal.returns-in-One
returns-in-One c = rw c.in-One.is

pub returns-in-Pieces : goal.returns-in-Pieces
returns-in-Pieces c = rw (c.in-Pieces.is, c.length_at.ensures)
