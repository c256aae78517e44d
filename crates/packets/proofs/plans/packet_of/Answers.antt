-- `packet_of` meets its contract: the length picks one command or the pieces.
use borrow.Author.Tests.{le-leb, lt-leb}
use Rattle.packets.proofs.plans.packet_of.Goals as goal

pub returns-then-length-fragment : goal.returns-then-length-fragment
returns-then-length-fragment c = rw (le-leb _ _ c.if-length-fragment.true, c.whole.ensures)

pub returns : goal.returns
returns c = rw (lt-leb _ _ c.if-length-fragment.false, c.start_of-start.ensures, c.piece_count-count.ensures)
