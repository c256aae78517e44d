-- Each number from its place.
use Rattle.pool.proofs.Reading.{brief_made}
use Rattle.pool.proofs.brief_from.Goals as goal

pub returns : goal.returns
returns c =
    let part = c.args.part.now in
    brief_made part c.low16.result c.low8.result c.low8-2.result c.low16-2.result c.low16-3.result
    c.low16.ensures c.low8.ensures c.low8-2.ensures c.low16-2.ensures c.low16-3.ensures
