-- `append` meets its contract: the list at its place, altered there, by `dispatched_kept`.
use mathlib.Core.List.{map}
use Rattle.cells.specs.Runs.{moved_to}
use Rattle.record.specs.Lists.{incoming}
use Rattle.lists.specs.Rows.{low}
use Rattle.queues.proofs.QueueLaws.{dispatched_kept}
use Rattle.queues.proofs.dispatched.append.Goals as goal

pub returns : goal.returns
returns c =
    let a = c.args in
    let o = c.append in
    dispatched_kept a.words.now c.told-words (moved_to incoming a.k (map low a.run.now)) o.new.words o.ensures
