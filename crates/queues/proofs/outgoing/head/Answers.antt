-- `head` meets its contract: the list at its place is the record's by that name.
use mathlib.Core.Path.{ap, ◌∙◌}
use Rattle.cells.specs.Runs.{first}
use Rattle.queues.proofs.QueueLaws.{place_fits, out_items_lem}
use Rattle.queues.proofs.outgoing.head.Goals as goal

pub head-requires : goal.head-requires
head-requires c =
    place_fits c.args.list c.place_of.result _ c.place_of.ensures c.told-words

pub returns : goal.returns
returns c =
    let a = c.args in
    c.head.ensures ∙ ap first (out_items_lem a.list c.place_of.result c.place_of.ensures a.words.now)
