-- `next_by` meets its contract: at each return the tests that led there pick the rule's case.
use borrow.Author.Tests.{not-true, not-false}
use Rattle.overdue.proofs.step.next_by.Goals as goal

pub returns-then-not-walk : goal.returns-then-not-walk
returns-then-not-walk c = rw (not-true c.args.walk.back c.if-not-walk.true)

pub returns-then-walk : goal.returns-then-walk
returns-then-walk c =
    rw (not-false c.args.walk.back c.if-not-walk.false, c.if-walk.true)

pub returns : goal.returns
returns c =
    rw (not-false c.args.walk.back c.if-not-walk.false, c.if-walk.false, c.wrapping_add_u32.ensures.value)
