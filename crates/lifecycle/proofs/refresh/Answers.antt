-- The groups one after the other, over zeros, are the reset record.
use Rattle.peer.specs.Fresh.{fresh_peer}
use Rattle.places.specs.Whole.{whole}
use Rattle.lifecycle.proofs.Places.{refreshes}
use Rattle.lifecycle.proofs.refresh.Goals as goal

pub returns : goal.returns
unfolding fresh_peer
returns c =
    refreshes c.args.mtu c.args.keep c.args.words.now (whole c.put_ids.new.words) (whole c.put_throttling.new.words) (whole c.put_limits.new.words)
    (whole c.put_trips.new.words) (whole c.put_flow.new.words) (whole c.put_reserved.new.words) (whole c.put_waiting.new.words)
    c.requires c.put_ids.ensures c.put_throttling.ensures c.put_limits.ensures c.put_trips.ensures c.put_flow.ensures c.put_reserved.ensures c.put_waiting.ensures
