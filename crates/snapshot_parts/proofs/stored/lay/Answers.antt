-- `lay` meets its contract: what all slots make of both stores is what those that are left make of them, once those before are laid.
use native.Mathlib.Omega.{arith}
use borrow.Author.Rules.{rules}
use Rattle.places.specs.Whole.{whole}
use Rattle.places.proofs.Sized.{sized}
use Rattle.snapshot_parts.specs.Stored.{stores}
use Rattle.snapshot_parts.proofs.StoredLaws.{lay_room, lay_turn, lay_end}
use Rattle.snapshot_parts.proofs.stored.lay.Goals as goal

pub lay_slot-requires-clause-slot_in_bounds : goal.lay_slot-requires-clause-slot_in_bounds
lay_slot-requires-clause-slot_in_bounds c =
    let slot = c.used_slot-slot in
    let l = c.loop-s in
    let a = c.args in
    lay_room (whole a.words.now) (sized a.words.now).incoming a.bytes.now a.at (stores a.store.now a.second.now) (stores l.store l.second)
    l.end l.s l.invariant slot.result slot.ensures (omega arith) c.requires.words_in_bounds

pub loop-s-preserved : goal.loop-s-preserved
loop-s-preserved c =
    let slot = c.used_slot-slot in
    let l = c.loop-s in
    let a = c.args in
    lay_turn (whole a.words.now) (sized a.words.now).incoming a.bytes.now a.at (stores a.store.now a.second.now) (stores l.store l.second)
    l.end l.s l.invariant slot.result slot.ensures (omega arith)
    (stores _ _) c.stored_length-end.result (search rules) (search rules) c.lay_slot.ensures c.stored_length-end.ensures

pub returns : goal.returns
returns c =
    let l = c.loop-s in
    let a = c.args in
    lay_end (whole a.words.now) (sized a.words.now).incoming a.bytes.now a.at (stores a.store.now a.second.now) (stores l.store l.second)
    l.end l.s l.invariant (omega arith)
