-- `push` meets its contract: the list at its place, altered there, by `dispatched_kept`.
use Rattle.cells.specs.Runs.{pushed}
use Rattle.record.specs.Lists.{incoming}
use Rattle.queues.proofs.QueueLaws.{dispatched_kept}
use Rattle.queues.proofs.dispatched.push.Goals as goal

pub returns : goal.returns
returns c =
    let a = c.args in
    let o = c.push in
    dispatched_kept a.words.now c.told-words (λ xs. pushed incoming xs a.s) o.new.words o.ensures
