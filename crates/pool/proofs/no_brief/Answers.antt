-- By computing.
use mathlib.Core.Path.{refl}
use Rattle.record.specs.Fresh.{no_outgoing}
use Rattle.pool.proofs.no_brief.Goals as goal

pub returns : goal.returns
unfolding no_outgoing
returns c = refl
