-- `put` meets its contract: what all groups make of the buffer is what those that are left make of it, once those before are set.
use native.Mathlib.Omega.{arith}
use borrow.Author.Rules.{rules}
use Rattle.places.specs.Whole.{whole}
use Rattle.order.specs.Table.{table}
use Rattle.order.proofs.WholeLaws.{table-length}
use Rattle.snapshot_parts.proofs.RowLaws.{write_room, write_turn, write_end, write_same}
use Rattle.snapshot_parts.proofs.row.put.Goals as goal

pub put_at-end-requires : goal.put_at-end-requires
put_at-end-requires c =
    let e = c.place_at in
    let l = c.loop-i in
    let a = c.args in
    write_room (table (whole a.words.now)) a.buffer.now a.at l.buffer l.end l.i l.invariant e.result
    (rw (table-length a.words.now c.told-words) (omega arith)) e.ensures c.requires

pub loop-i-preserved : goal.loop-i-preserved
loop-i-preserved c =
    let e = c.place_at in
    let l = c.loop-i in
    let a = c.args in
    write_turn (table (whole a.words.now)) a.buffer.now a.at l.buffer l.end l.i l.invariant e.result
    (rw (table-length a.words.now c.told-words) (omega arith)) e.ensures _ c.put_at-end.result
    (search rules) c.put_at-end.ensures.bytes c.put_at-end.ensures.end

pub returns-clause-bytes : goal.returns-clause-bytes
returns-clause-bytes c =
    let l = c.loop-i in
    let a = c.args in
    write_same (table (whole a.words.now)) a.buffer.now a.at l.buffer l.end l.i l.invariant (rw (table-length a.words.now c.told-words) (omega arith))

pub returns-clause-end : goal.returns-clause-end
returns-clause-end c =
    let l = c.loop-i in
    let a = c.args in
    write_end (table (whole a.words.now)) a.buffer.now a.at l.buffer l.end l.i l.invariant (rw (table-length a.words.now c.told-words) (omega arith))
