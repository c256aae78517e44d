-- `like_first` compares the counts, then the totals.
use Rattle.std.proofs.Common.{eq-eqb, ne_eqb}
use Rattle.blocks.proofs.like_first.Goals as goal

pub returns-then-f-slot : goal.returns-then-f-slot
returns-then-f-slot c = simp (ne_eqb _ _ c.if-f-slot.true)

pub returns : goal.returns
returns c = simp (eq-eqb _ _ c.if-f-slot.false)
