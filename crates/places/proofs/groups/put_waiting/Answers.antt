-- The numbers of the group, to their places: `numbers_put`.
use Rattle.places.proofs.GroupLaws.{put_waiting_lem}
use Rattle.places.proofs.groups.put_waiting.Goals as goal

pub returns : goal.returns
returns c = put_waiting_lem c.args.words.now c.told-words c.args.x
