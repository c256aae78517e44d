-- `leave` meets its contract: the list at its place, altered there, by `dispatched_kept`.
use Rattle.cells.specs.Runs.{without}
use Rattle.queues.proofs.QueueLaws.{dispatched_kept}
use Rattle.queues.proofs.dispatched.leave.Goals as goal

pub returns : goal.returns
returns c =
    let a = c.args in
    let o = c.remove in
    dispatched_kept a.words.now c.told-words (λ xs. without xs 0) o.new.words o.ensures
