-- `whole` meets its contract: its command is the one that the tests pick.
use Rattle.packets.proofs.whole.Goals as goal

pub returns : goal.returns
returns c = rw c.whole_command-command.ensures
