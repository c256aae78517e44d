-- `append` meets its contract: the cells' operation, and the new length before them, by `append_kept`.
use Prim.Native.Nat.{◌+◌, ◌-◌}
use native.Mathlib.Omega.{arith}
use Rattle.lists.proofs.Kept.{append_kept}
use Rattle.lists.proofs.append.Goals as goal

pub returns : goal.returns
returns c =
    let o = c.append-m in
    let v = c.low16-n in
    let a = c.args in
    append_kept a.words.now a.at a.size c.requires.size_in_bounds c.requires.size_bound v.result (a.at + 1 + a.size - (a.at + 1)) o.result (omega arith) v.ensures
    o.new.cells a.k a.run.now o.ensures
