-- `command_at` meets its contract, by whether one was removed.
use borrow.Author.Tests.{not-true, not-false}
use Rattle.acknowledge.proofs.removal.command_at.Goals as goal

pub returns-then-not-removed : goal.returns-then-not-removed
returns-then-not-removed c = rw (not-true c.args.removed c.if-not-removed.true-raw)

pub returns : goal.returns
returns c = rw (not-false c.args.removed c.if-not-removed.false-raw)
