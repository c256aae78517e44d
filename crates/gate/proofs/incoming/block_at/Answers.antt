-- The number where the slot has its fragments: 0, or it is a block.
use borrow.Author.Rules.{rules}
use Rattle.gate.proofs.Groups.{fragments_is}
use Rattle.gate.proofs.incoming.block_at.Goals as goal

pub returns : goal.returns
returns c = rw (← fragments_is c.args.words.now c.args.s c.requires) (search rules)
