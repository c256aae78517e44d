-- `on_channel` meets its contract: the test on the count decides whether 255 is asked for.
use borrow.Author.Tests.{lt-ltb, le-ltb}
use Rattle.record.proofs.channels.on_channel.Goals as goal

pub returns-then-channel-count : goal.returns-then-channel-count
returns-then-channel-count c = rw (lt-ltb _ _ c.if-channel-count.true)

pub returns : goal.returns
returns c = rw (le-ltb _ _ c.if-channel-count.false)
