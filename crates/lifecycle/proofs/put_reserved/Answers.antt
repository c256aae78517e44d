-- The number, to its place: `numbers_put`.
use Rattle.lifecycle.proofs.Places.{put_reserved_lem}
use Rattle.lifecycle.proofs.put_reserved.Goals as goal

pub returns : goal.returns
returns c =
    put_reserved_lem c.args.words.now c.told-words c.args.x c.wide16.result c.wide16.ensures.is c.wide16.ensures.low
