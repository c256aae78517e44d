-- The numbers of the group, from their places, the narrow one cut.
use mathlib.Core.Path.{sym}
use Rattle.places.proofs.GroupLaws.{flow_is}
use Rattle.places.proofs.groups.flow.Goals as goal

pub returns : goal.returns
returns c =
    sym (flow_is c.args.words.now c.low16.result c.low16.ensures)
