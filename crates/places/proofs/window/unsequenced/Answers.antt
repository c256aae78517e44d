-- The four numbers from their places, each cut to its width, and the words as they stand.
use mathlib.Core.Path.{sym}
use Rattle.places.proofs.GroupLaws.{unsequenced_is}
use Rattle.places.proofs.WindowLaws.{words_are}
use Rattle.places.proofs.window.unsequenced.Goals as goal

pub returns : goal.returns
returns c =
    let ws = c.args.words.now in
    sym
    (unsequenced_is
    ws
    c.low16-3.result
    c.low16-4.result
    c.low16.result
    c.low16-2.result
    c.copy.new.to
    c.low16-3.ensures
    c.low16-4.ensures
    c.low16.ensures
    c.low16-2.ensures
    (words_are ws c.copy.new.to c.copy.ensures))
