-- The numbers of the group, to their places: `numbers_put`.
use Rattle.copies.proofs.RecordLaws.{put_limits_lem}
use Rattle.copies.proofs.writing.put_limits.Goals as goal

pub returns : goal.returns
returns c = put_limits_lem c.args.words.now c.told-words c.args.x
