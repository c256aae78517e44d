-- `count` meets its contract: the list at its place is the record's by that name.
use mathlib.Core.Path.{ap, ◌∙◌}
use lib.ListN.{length}
use Rattle.queues.proofs.QueueLaws.{place_fits, out_items_lem}
use Rattle.queues.proofs.outgoing.count.Goals as goal

pub count-requires : goal.count-requires
count-requires c =
    place_fits c.args.list c.place_of.result _ c.place_of.ensures c.told-words

pub returns : goal.returns
returns c =
    let a = c.args in
    c.count.ensures ∙ ap length (out_items_lem a.list c.place_of.result c.place_of.ensures a.words.now)
