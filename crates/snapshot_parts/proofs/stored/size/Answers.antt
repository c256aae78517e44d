-- `size` meets its contract: the bytes of the slots that are done, and those of the slots that are left, are all.
use native.Mathlib.Omega.{arith}
use Rattle.places.specs.Whole.{whole}
use Rattle.places.proofs.Sized.{sized}
use Rattle.snapshot_parts.proofs.StoredLaws.{size_turn, size_end}
use Rattle.snapshot_parts.proofs.stored.size.Goals as goal

pub loop-s-preserved : goal.loop-s-preserved
loop-s-preserved c =
    let slot = c.used_slot in
    let l = c.loop-s in
    let ws = c.args.words.now in
    size_turn (whole ws) (sized ws).incoming l.total l.s l.invariant slot.result slot.ensures c.stored_length-total.result c.stored_length-total.ensures
    (omega arith)

pub returns : goal.returns
returns c =
    let l = c.loop-s in
    let ws = c.args.words.now in
    size_end (whole ws) (sized ws).incoming l.total l.s l.invariant (omega arith)
