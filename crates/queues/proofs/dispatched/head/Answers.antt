-- `head` meets its contract: the list at its place is the record's.
use mathlib.Core.Path.{ap, ◌∙◌}
use Rattle.cells.specs.Runs.{first}
use Rattle.queues.proofs.QueueLaws.{dispatched_items_lem}
use Rattle.queues.proofs.dispatched.head.Goals as goal

pub returns : goal.returns
returns c = c.head.ensures ∙ ap first (dispatched_items_lem c.args.words.now)
