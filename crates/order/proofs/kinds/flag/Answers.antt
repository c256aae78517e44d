-- `flag` meets its contract: 1 where the number is not 0.
use mathlib.Core.Path.{◌∙◌}
use borrow.Author.Tests.{le-leb, lt-leb}
use Rattle.order.proofs.kinds.flag.Goals as goal

pub returns-then-x-ge1 : goal.returns-then-x-ge1
returns-then-x-ge1 c = c.plain.ensures ∙ rw (le-leb _ _ c.if-x-ge1.true)

pub returns : goal.returns
returns c = c.plain-2.ensures ∙ rw (lt-leb _ _ c.if-x-ge1.false)
