-- `close` writes the total, the host count and the counters, one after the other.
use Rattle.places.specs.Whole.{whole}
use Rattle.outbox.proofs.PlaceLaws.{closed_is}
use Rattle.outbox.proofs.close.Goals as goal

pub returns : goal.returns
returns c =
    let r = c.recount in
    let w = c.put_waiting in
    let h = c.waiting-waiting in
    let v = c.put_totals in
    let t = c.totals-totals in
    let a = c.args in
    closed_is (whole a.words.now) (whole v.new.words) (whole w.new.words) (whole r.new.words) a.channel a.o t.result h.result t.ensures v.ensures
    h.ensures w.ensures r.ensures
