-- `insert` meets its contract: the cells from i on are copied one up and s goes to i.
use native.Mathlib.Omega.{arith}
use Rattle.cells.proofs.MakeLaws.{insert_room}
use Rattle.cells.proofs.insert.Goals as goal

pub returns : goal.returns
returns c =
    let a = c.args in
    let up = c.copy_within in
    insert_room a.cells.now a.n (omega arith) up.new.self a.i a.s (omega arith) (omega arith) up.ensures.after
