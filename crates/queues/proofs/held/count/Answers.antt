-- `count` meets its contract: the list at its place is the channel's.
use mathlib.Core.Path.{ap, ◌∙◌}
use lib.ListN.{length}
use Rattle.queues.proofs.HeldLaws.{held_items}
use Rattle.queues.proofs.held.count.Goals as goal

pub returns : goal.returns
returns c =
    let a = c.args in
    let at = c.place_of in
    c.count.ensures ∙ ap length (held_items a.words.now c.told-words a.i c.requires at.result at.ensures)
