-- `kind_fit` asks for the kind, then the kind's own rule.
use Rattle.blocks.proofs.kind_fit.Goals as goal

pub returns-then-is_block : goal.returns-then-is_block
returns-then-is_block c = rw (← c.is_block.ensures, c.if-is_block.true) c.block_fit.ensures

pub returns : goal.returns
returns c = rw (← c.is_block.ensures, c.if-is_block.false)
