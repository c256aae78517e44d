-- The four numbers, to their places, then the words.
use Rattle.places.specs.Whole.{whole}
use Rattle.places.proofs.WindowLaws.{put_unsequenced_lem}
use Rattle.places.proofs.window.put_unsequenced.Goals as goal

pub returns : goal.returns
returns c =
    put_unsequenced_lem
    c.args.words.now
    c.told-words
    c.args.x
    c.wide16-flags.result
    c.wide16-reserved.result
    c.wide16-incoming.result
    c.wide16-outgoing.result
    c.wide16-flags.ensures.is
    c.wide16-flags.ensures.low
    c.wide16-reserved.ensures.is
    c.wide16-reserved.ensures.low
    c.wide16-incoming.ensures.is
    c.wide16-incoming.ensures.low
    c.wide16-outgoing.ensures.is
    c.wide16-outgoing.ensures.low
    (whole c.put_words.new.words)
    c.put_words.ensures
