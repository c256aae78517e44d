-- `short` meets its contract: the number's low bits, as a plain place.
use mathlib.Core.Path.{◌∙◌}
use Rattle.order.proofs.kinds.short.Goals as goal

pub returns : goal.returns
returns c = c.plain.ensures ∙ rw (c.wide16.ensures.is, c.low16.ensures)
