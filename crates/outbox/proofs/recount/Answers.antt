-- `recount` writes the own number and the group; past the channels there is no place for the other two.
use Rattle.places.specs.Whole.{whole}
use Rattle.places.proofs.Sized.{sized}
use Rattle.outbox.proofs.PlaceLaws.{recounted_past, recounted_here}
use Rattle.outbox.proofs.recount.Goals as goal

pub returns-then-channel-ge-CHANNELS : goal.returns-then-channel-ge-CHANNELS
returns-then-channel-ge-CHANNELS c =
    let a = c.args in
    recounted_past (whole a.words.now) (whole c.put_flow.new.words) (whole c.put_outgoing_group.new.words) c.flow-flow.result a.k c.flow-flow.ensures
    c.put_flow.ensures c.put_outgoing_group.ensures (sized a.words.now) a.channel c.if-channel-ge-CHANNELS.true

pub returns : goal.returns
returns c =
    let a = c.args in
    recounted_here (whole a.words.now) (whole c.put_flow.new.words) (whole c.put_outgoing_group.new.words) c.flow-flow.result a.k c.flow-flow.ensures
    c.put_flow.ensures c.put_outgoing_group.ensures a.channel (whole c.put_outgoing.new.words) c.put_outgoing.ensures
