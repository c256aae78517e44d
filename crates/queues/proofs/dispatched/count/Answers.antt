-- `count` meets its contract: the list at its place is the record's.
use mathlib.Core.Path.{ap, ◌∙◌}
use lib.ListN.{length}
use Rattle.queues.proofs.QueueLaws.{dispatched_items_lem}
use Rattle.queues.proofs.dispatched.count.Goals as goal

pub returns : goal.returns
returns c = c.count.ensures ∙ ap length (dispatched_items_lem c.args.words.now)
