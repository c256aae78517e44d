-- `fresh` patches a constant, which is the reset record but for what is kept and the MTU.
use mathlib.Core.Path.{refl}
use Rattle.record.specs.Fresh.{no_lists, no_channel, no_outgoing, no_incoming}
use Rattle.peer.specs.Fresh.{fresh_peer}
use Rattle.peer.proofs.Peer.fresh.Goals as goal

pub returns : goal.returns
unfolding fresh_peer no_lists no_channel no_outgoing no_incoming
returns c = refl
