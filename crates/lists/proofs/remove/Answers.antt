-- `remove` meets its contract: the cells' operation, and the new length before them, by `remove_kept`.
use Prim.Native.Nat.{◌+◌, ◌-◌}
use native.Mathlib.Omega.{arith}
use Rattle.lists.proofs.Kept.{remove_kept}
use Rattle.lists.proofs.remove.Goals as goal

pub returns : goal.returns
returns c =
    let o = c.remove-m in
    let v = c.low16-n in
    let a = c.args in
    remove_kept a.words.now a.at a.size c.requires.size_in_bounds c.requires.size_bound v.result (a.at + 1 + a.size - (a.at + 1)) o.result (omega arith) v.ensures
    o.new.cells a.i o.ensures
