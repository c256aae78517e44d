-- `cells` meets its contract: the cells copied are those of the channel's list.
use mathlib.Core.Path.{refl}
use lib.ListN.{replicate}
use Rattle.queues.proofs.HeldLaws.{held_cells}
use Rattle.queues.proofs.held.cells.Goals as goal

pub returns : goal.returns
returns c =
    let a = c.args in
    let at = c.place_of in
    let o = c.copy in
    held_cells a.words.now c.told-words a.i c.requires at.result at.ensures (replicate 12 0) o.new.to refl o.ensures
