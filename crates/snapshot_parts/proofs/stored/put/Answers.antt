-- `put` meets its contract: what all slots make of the buffer is what those that are left make of it, once those before are written.
use native.Mathlib.Omega.{arith}
use borrow.Author.Rules.{rules}
use Rattle.places.specs.Whole.{whole}
use Rattle.places.proofs.Sized.{sized}
use Rattle.snapshot_parts.proofs.StoredLaws.{put_room, put_turn, put-end, put_same}
use Rattle.snapshot_parts.proofs.stored.put.Goals as goal

pub put_slot-requires-clause-slot_in_bounds : goal.put_slot-requires-clause-slot_in_bounds
put_slot-requires-clause-slot_in_bounds c =
    let slot = c.used_slot-slot in
    let l = c.loop-s in
    let a = c.args in
    put_room (whole a.words.now) (sized a.words.now).incoming a.store.now a.second.now a.buffer.now a.at
    l.buffer l.end l.s l.invariant slot.result slot.ensures (omega arith) c.requires.words_in_bounds

pub loop-s-preserved : goal.loop-s-preserved
loop-s-preserved c =
    let slot = c.used_slot-slot in
    let l = c.loop-s in
    let a = c.args in
    put_turn (whole a.words.now) (sized a.words.now).incoming a.store.now a.second.now a.buffer.now a.at l.buffer l.end l.s l.invariant
    slot.result slot.ensures (omega arith) c.requires.store_len.0 c.requires.store_len.1
    _ c.stored_length-end.result (search rules) c.put_slot.ensures c.stored_length-end.ensures

pub returns-clause-bytes : goal.returns-clause-bytes
returns-clause-bytes c =
    let l = c.loop-s in
    let a = c.args in
    put_same (whole a.words.now) (sized a.words.now).incoming a.store.now a.second.now a.buffer.now a.at l.buffer l.end l.s l.invariant (omega arith)

pub returns-clause-end : goal.returns-clause-end
returns-clause-end c =
    let l = c.loop-s in
    let a = c.args in
    put-end (whole a.words.now) (sized a.words.now).incoming a.store.now a.second.now a.buffer.now a.at l.buffer l.end l.s l.invariant (omega arith)
