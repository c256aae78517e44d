-- `byte` meets its contract: the number's low bits, as a plain place.
use mathlib.Core.Path.{◌∙◌}
use Rattle.order.proofs.kinds.byte.Goals as goal

pub returns : goal.returns
returns c = c.plain.ensures ∙ rw (c.wide8.ensures.is, c.low8.ensures)
