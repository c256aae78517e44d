-- The number, to its place: below 65,536 it is read as it is.
use Rattle.places.proofs.GroupLaws.{put_outgoing_group_lem}
use Rattle.places.proofs.groups.put_outgoing_group.Goals as goal

pub returns : goal.returns
returns c = put_outgoing_group_lem c.args.words.now c.told-words c.args.x c.wide16.result c.wide16.ensures.is c.wide16.ensures.low
