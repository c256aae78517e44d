-- `insert` meets its contract: the cells' operation, and the new length before them, by `insert_kept`.
use Prim.Native.Nat.{◌+◌, ◌-◌}
use native.Mathlib.Omega.{arith}
use Rattle.lists.proofs.Kept.{insert_kept}
use Rattle.lists.proofs.insert.Goals as goal

pub returns : goal.returns
returns c =
    let o = c.insert-m in
    let v = c.low16-n in
    let a = c.args in
    insert_kept a.words.now a.at a.size c.requires.size_in_bounds c.requires.size_bound v.result (a.at + 1 + a.size - (a.at + 1)) o.result (omega arith) v.ensures
    o.new.cells a.i a.s (omega arith) o.ensures
