-- `cut` meets its contract: the cells from k on are copied to the head.
use native.Mathlib.Omega.{arith}
use Rattle.cells.proofs.CellLaws.{clip_drop}
use Rattle.cells.proofs.MakeLaws.{cut_makes}
use Rattle.cells.proofs.cut.Goals as goal

pub returns : goal.returns
returns c =
    let a = c.args in
    let m = c.min-m in
    let h = c.min-h in
    let down = c.copy_within in
    rw (clip_drop a.cells.now a.n m.result m.ensures a.k h.result h.ensures)
    (cut_makes a.cells.now m.result (omega arith) down.new.self h.result (omega arith) down.ensures.after)
