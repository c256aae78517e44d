-- `queue` asks the marks for the lowest free slot: with none, nothing changes; else the piece's list, its slot and its mark do, and the outbox.
-- The argument: the slot that was found exists, so its mark has a place; what the code made is what the laws of PlaceLaws take.
use Rattle.std.proofs.Common.{rules}
use Rattle.places.specs.Whole.{whole}
use Rattle.places.proofs.Sized.{sized}
use Rattle.outbox.proofs.PlaceLaws.{found_exists, sets_none, sets_one}
use Rattle.outbox.proofs.queue.Goals as goal

pub returns-in_default : goal.returns-in_default
returns-in_default c =
    let a = c.args in
    let it = sets_none a.marks.now c.requires c.lowest-free.result c.lowest-free.ensures (whole a.words.now) a.o a.x (sized a.words.now) c.in_default.is in
    record { out = it.0; kept = it.1 }

pub join-requires : goal.join-requires
join-requires c = let h = c.told-words in search rules

pub put_outgoing-requires : goal.put_outgoing-requires
put_outgoing-requires c =
    let h = c.told-words in
    search rules

pub bounds-marks-s : goal.bounds-marks-s
bounds-marks-s c =
    found_exists c.args.marks.now c.requires c.lowest-free.result c.lowest-free.ensures c.in-Some.s c.in-Some.is

pub returns : goal.returns
returns c =
    let a = c.args in
    let it = sets_one a.marks.now c.requires c.lowest-free.result c.lowest-free.ensures (whole a.words.now) a.o a.x c.in-Some.s c.in-Some.is
    c.stamp-stamped.result c.stamp-stamped.ensures c.wrapping_add_u32.result c.wrapping_add_u32.ensures.value
    c.slot_of-slot.result c.slot_of-slot.ensures (whole c.join.new.words) (whole c.put_outgoing.new.words) c.join.ensures c.put_outgoing.ensures
    c.placed.result c.placed.ensures in
    record { out = it.0; kept = it.1 }
