-- The number where the slot has its length.
use Rattle.gate.proofs.Groups.{length_is}
use Rattle.gate.proofs.incoming.length_at.Goals as goal

pub returns : goal.returns
returns c =
    length_is c.args.words.now c.args.s c.requires
