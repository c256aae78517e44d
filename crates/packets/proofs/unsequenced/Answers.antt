-- `unsequenced` meets its contract: its test picks flag 1's answer, or none.
use mathlib.Core.Path.{sym, ap, ◌∙◌}
use mathlib.Core.Bool.{not}
use Rattle.packets.proofs.unsequenced.Goals as goal

pub returns-then-is_set : goal.returns-then-is_set
returns-then-is_set c = rw (sym c.is_set.ensures ∙ c.if-is_set.true) (ap not c.is_set-then-is_set.ensures)

pub returns : goal.returns
returns c = rw (sym c.is_set.ensures ∙ c.if-is_set.false)
