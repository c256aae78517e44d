-- `measure` reads three groups, takes the sample and writes two.
use Rattle.places.specs.Whole.{whole}
use Rattle.acknowledge.proofs.Changes.{measured_is}
use Rattle.acknowledge.proofs.measure.Goals as goal

pub returns : goal.returns
returns c =
    let a = c.args in
    let t = c.times-times in
    let h = c.throttling-throttling in
    let r = c.trips-trips in
    let m = c.measure-measured in
    let v = c.put_throttling in
    let y = c.put_trips in
    measured_is (whole a.words.now) a.sample a.clock (whole v.new.words) (whole y.new.words) t.result h.result r.result m.result
    t.ensures h.ensures r.ensures m.ensures v.ensures y.ensures
