-- `first_fate` asks for its start, then for the fields, then for room and another block: the answers pick the rule's case.
use borrow.Author.Tests.{not-true, not-false}
use Rattle.places.specs.Whole.{whole}
use Rattle.arrive_fragment.proofs.Calling.{opened_by}
use Rattle.arrive_fragment.proofs.first_fate.Goals as goal

pub returns-then-is_passed : goal.returns-then-is_passed
returns-then-is_passed c = rw (← c.is_passed.ensures, c.if-is_passed.true)

pub returns-then-not-fields_fit : goal.returns-then-not-fields_fit
returns-then-not-fields_fit c =
    let passed = c.is_passed in
    let fit = c.fields_fit in
    rw (← passed.ensures, c.if-is_passed.false, ← fit.ensures, not-true fit.result c.if-not-fields_fit.true-raw)

pub returns : goal.returns
returns c =
    let any = c.any_block in
    let room = c.room_for-room in
    let free = c.free_slot-free in
    let waiting = c.waiting-waiting in
    let standing = c.standing-standing in
    let fit = c.fields_fit in
    let passed = c.is_passed in
    let a = c.args in
    let p = whole a.words.now in
    rw (← passed.ensures, c.if-is_passed.false, ← fit.ensures, not-false fit.result c.if-not-fields_fit.false-raw)
    (opened_by a.settings p standing.result waiting.result free.result room.result any.result c.opens.result
    standing.ensures waiting.ensures free.ensures room.ensures any.ensures c.opens.ensures)
