-- `piece_at` meets its contract: the packet itself picks the case.
use Rattle.packets.proofs.plans.piece_at.Goals as goal

pub returns-in-One : goal.returns-in-One
returns-in-One c = rw c.in-One.is

pub returns-in-Pieces : goal.returns-in-Pieces
returns-in-Pieces c = rw c.in-Pieces.is c.cut_piece.ensures
