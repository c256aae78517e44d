-- `settle` meets its contract: the three groups one after the other, each with the numbers of the walk.
use Rattle.places.specs.Whole.{whole}
use Rattle.timeouts.proofs.PlaceLaws.{settle_is}
use Rattle.timeouts.proofs.settle.Goals as goal

pub returns : goal.returns
returns c =
    let a = c.args in
    settle_is (whole a.words.now) (whole c.put_times.new.words) (whole c.put_loss.new.words) (whole c.put_flow.new.words) a.w
    c.times-times.result c.loss-loss.result c.flow-flow.result c.times-times.ensures c.loss-loss.ensures c.flow-flow.ensures
    c.put_times.ensures c.put_loss.ensures c.put_flow.ensures
