-- `cut_piece` meets its contract: its command is cut by the length at its offset.
use Rattle.packets.proofs.cut_piece.Goals as goal

pub returns : goal.returns
returns c = rw (c.cut_command-command.ensures, c.length_at-length.ensures)
