-- `begin` meets its contract: the groups that it reads are the record's.
use mathlib.Core.Path.{ap}
use Rattle.places.specs.Whole.{whole}
use Rattle.timeouts.specs.CodeEarly.{begun}
use Rattle.timeouts.proofs.PlaceLaws.{begin_is}
use Rattle.timeouts.proofs.begin.Goals as goal

pub returns : goal.returns
returns c =
    let a = c.args in
    ap (begun a.k)
    (begin_is (whole a.words.now) c.at_entry-w.result c.times.result c.loss.result c.flow.result
    c.times.ensures c.loss.ensures c.flow.ensures c.at_entry-w.ensures)
