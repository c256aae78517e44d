-- `one_block` asks how many there are, and with none for both words: the answers pick the rule's case.
use Rattle.std.proofs.Common.{eq-eqb, ne_eqb}
use Rattle.blocks.proofs.one_block.Goals as goal

pub returns-then-n-ne0 : goal.returns-then-n-ne0
returns-then-n-ne0 c = simp (ne_eqb _ 0 c.if-n-ne0.true)

pub returns-then-m-ne0 : goal.returns-then-m-ne0
returns-then-m-ne0 c = simp (eq-eqb _ 0 c.if-n-ne0.false, ne_eqb _ 0 c.if-m-ne0.true)

pub returns : goal.returns
returns c = simp (eq-eqb _ 0 c.if-n-ne0.false, eq-eqb _ 0 c.if-m-ne0.false)
