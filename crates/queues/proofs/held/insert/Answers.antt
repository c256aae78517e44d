-- `insert` meets its contract: the list at its place, altered there, by `held_kept`.
use Rattle.cells.specs.Runs.{inserted}
use Rattle.record.specs.Lists.{incoming}
use Rattle.queues.proofs.HeldLaws.{held_kept}
use Rattle.queues.proofs.held.insert.Goals as goal

pub returns : goal.returns
returns c =
    let a = c.args in
    let o = c.insert in
    let at = c.place_of in
    held_kept a.words.now c.told-words a.i c.requires at.result at.ensures (λ xs. inserted incoming xs a.k a.s) o.new.words o.ensures
