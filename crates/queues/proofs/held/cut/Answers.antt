-- `cut` meets its contract: the list at its place, altered there, by `held_kept`.
use lib.ListN.{drop}
use Rattle.queues.proofs.HeldLaws.{held_kept}
use Rattle.queues.proofs.held.cut.Goals as goal

pub returns : goal.returns
returns c =
    let a = c.args in
    let o = c.cut in
    let at = c.place_of in
    held_kept a.words.now c.told-words a.i c.requires at.result at.ensures (drop a.k) o.new.words o.ensures
