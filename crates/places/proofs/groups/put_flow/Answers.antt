-- The numbers of the group, to their places.
use Rattle.places.proofs.GroupLaws.{put_flow_lem}
use Rattle.places.proofs.groups.put_flow.Goals as goal

pub returns : goal.returns
returns c = put_flow_lem c.args.words.now c.told-words c.args.x c.wide16-own.result c.wide16-own.ensures.is c.wide16-own.ensures.low
