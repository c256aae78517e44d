-- `settle` meets its contract: the changes one after the other are the rule's record; the record has the channel.
use Rattle.std.proofs.Common.{arith}
use Rattle.places.specs.Whole.{whole}
use Rattle.places.proofs.Sized.{sized}
use Rattle.arrive_reliable.proofs.Placed.{settled}
use Rattle.arrive_reliable.proofs.settle.Goals as goal

pub returns : goal.returns
returns c =
    let d = c.dispatch in
    let w = c.put_waiting in
    let i = c.put_incoming in
    let h = c.hold in
    let a = c.args in
    let ws = a.words.now in
    settled (whole ws) (whole h.new.words) (whole i.new.words) (whole w.new.words) (whole d.new.words) a.i a.number.0 a.s a.slot a.waiting
    (omega (arith, (sized ws).channels, c.requires)) h.ensures i.ensures w.ensures d.ensures
