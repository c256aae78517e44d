-- `counters_at` reads each number off its group; past the channels there is none, and its numbers are 0.
use Rattle.record.specs.Fresh.{no_channel}
use Rattle.places.specs.Whole.{whole}
use Rattle.places.proofs.Sized.{sized}
use Rattle.outbox.proofs.PlaceLaws.{none_there}
use Rattle.outbox.proofs.counters_at.Goals as goal

pub returns-then-channel-ge-CHANNELS : goal.returns-then-channel-ge-CHANNELS
unfolding no_channel
returns-then-channel-ge-CHANNELS c =
    let a = c.args in
    rw (c.flow-flow.ensures, c.outgoing_group-group.ensures, none_there (whole a.words.now) (sized a.words.now) a.channel c.if-channel-ge-CHANNELS.true)

pub returns : goal.returns
returns c =
    rw (c.flow-flow.ensures, c.outgoing_group-group.ensures, c.numbers_of-numbers.ensures)
