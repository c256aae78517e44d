-- `time` reads sent's head in brief and the times, and writes them.
use Rattle.places.specs.Whole.{whole}
use Rattle.acknowledge.proofs.Changes.{timed_is}
use Rattle.acknowledge.proofs.time.Goals as goal

pub returns : goal.returns
returns c =
    let a = c.args in
    let f = c.head-head in
    let h = c.held-h in
    let l = c.is_some-left in
    let t = c.times-times in
    let r = c.received-heard in
    let n = c.times_without-timed in
    let y = c.put_times in
    timed_is (whole a.words.now) a.removed a.clock (whole y.new.words) f.result h.result l.result t.result r.result n.result
    f.ensures h.ensures l.ensures t.ensures r.ensures n.ensures y.ensures
