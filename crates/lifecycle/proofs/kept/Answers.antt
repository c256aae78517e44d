-- The numbers from their places, the narrow ones cut.
use mathlib.Core.Path.{sym}
use Rattle.lifecycle.proofs.Places.{kept_is}
use Rattle.lifecycle.proofs.kept.Goals as goal

pub returns : goal.returns
returns c =
    sym (kept_is c.args.words.now c.low16-incoming_peer.result c.low8-outgoing_session.result c.low8-incoming_session.result c.low16-reserved.result
    c.low16-incoming_peer.ensures c.low8-outgoing_session.ensures c.low8-incoming_session.ensures c.low16-reserved.ensures)
