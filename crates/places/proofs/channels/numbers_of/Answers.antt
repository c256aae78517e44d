-- The channel's four numbers, from their places, each cut to its width.
use mathlib.Core.Path.{sym}
use Rattle.places.proofs.ChannelLaws.{numbers_is}
use Rattle.places.proofs.channels.numbers_of.Goals as goal

pub returns : goal.returns
returns c =
    sym
    (numbers_is
    c.args.words.now
    c.args.i
    c.low16.result
    c.low16-2.result
    c.low16-3.result
    c.low16-4.result
    c.requires
    c.told-words
    c.low16.ensures
    c.low16-2.ensures
    c.low16-3.ensures
    c.low16-4.ensures)
