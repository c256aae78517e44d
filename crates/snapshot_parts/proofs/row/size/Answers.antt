-- `size` meets its contract: the bytes of the places that are done, and those of the places that are left, are all.
use Prim.Native.Nat.{◌<◌}
use native.Mathlib.Omega.{arith}
use Rattle.places.specs.Whole.{whole}
use Rattle.order.specs.Table.{table}
use Rattle.order.proofs.WholeLaws.{table-length}
use Rattle.snapshot_parts.proofs.RowLaws.{size_few, size_turn, size_end}
use Rattle.snapshot_parts.proofs.row.size.Goals as goal

pub overflow_add-total : goal.overflow_add-total
overflow_add-total c =
    let l = c.loop-i in
    let a = c.args in
    let e = c.place_at in
    omega (arith, l.invariant.few, size_few (table (whole a.words.now)) l.total l.i l.invariant e.result c.size_at-total.result (rw (table-length a.words.now c.told-words) (omega arith)) e.ensures c.size_at-total.ensures)

pub loop-i-preserved : goal.loop-i-preserved
loop-i-preserved c =
    let l = c.loop-i in
    let a = c.args in
    let e = c.place_at in
    let h : c.loop-i.i < 1236 = omega arith in
    size_turn (table (whole a.words.now)) l.total l.i l.invariant e.result c.size_at-total.result (rw (table-length a.words.now c.told-words) h) e.ensures c.size_at-total.ensures

pub returns : goal.returns
returns c =
    let l = c.loop-i in
    let ws = c.args.words.now in
    size_end (table (whole ws)) l.total l.i l.invariant (rw (table-length ws c.told-words) (omega arith))
