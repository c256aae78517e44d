-- `mark` meets its contract: the marks of the three lists, one after the other, by `marked_out`.
use Rattle.queues.proofs.QueueLaws.{marked_out}
use Rattle.queues.proofs.outgoing.mark.Goals as goal

pub returns : goal.returns
returns c =
    let a = c.args in
    let x = c.mark in
    let y = c.mark-2 in
    let z = c.mark-3 in
    marked_out a.words.now a.marks.now x.new.marks y.new.marks z.new.marks x.ensures y.ensures z.ensures
