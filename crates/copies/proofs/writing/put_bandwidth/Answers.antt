-- The numbers of the group, to their places: `numbers_put`.
use Rattle.copies.proofs.RecordLaws.{put_bandwidth_lem}
use Rattle.copies.proofs.writing.put_bandwidth.Goals as goal

pub returns : goal.returns
returns c = put_bandwidth_lem c.args.words.now c.told-words c.args.x
