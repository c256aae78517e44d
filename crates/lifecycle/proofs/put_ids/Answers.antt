-- The numbers of the group, to their places: `numbers_put`.
use Rattle.lifecycle.proofs.Places.{put_ids_lem}
use Rattle.lifecycle.proofs.put_ids.Goals as goal

pub returns : goal.returns
returns c =
    let o = c.wide8-outgoing in
    let f = c.wide16-from in
    put_ids_lem c.args.words.now c.told-words c.args.keep c.wide16-to.result f.result o.result c.wide8-incoming.result
    c.wide16-to.ensures.is f.ensures.is f.ensures.low o.ensures.is o.ensures.low c.wide8-incoming.ensures.is c.wide8-incoming.ensures.low
