-- The numbers of the group, to their places: `numbers_put`.
use Rattle.lifecycle.proofs.Places.{put_limits_lem}
use Rattle.lifecycle.proofs.put_limits.Goals as goal

pub returns : goal.returns
returns c = put_limits_lem c.args.words.now c.told-words c.args.x
