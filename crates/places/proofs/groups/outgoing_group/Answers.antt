-- The number at its place, cut.
use mathlib.Core.Path.{sym}
use Rattle.places.proofs.GroupLaws.{outgoing_group_is}
use Rattle.places.proofs.groups.outgoing_group.Goals as goal

pub returns : goal.returns
returns c = sym (outgoing_group_is c.args.words.now c.low16.result c.low16.ensures)
