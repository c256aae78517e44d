-- `open` meets its contract: the changes one after the other are the rule's record.
use Rattle.places.specs.Whole.{whole}
use Rattle.arrive_fragment.proofs.StoreLaws.{opened}
use Rattle.arrive_fragment.proofs.storing.open.Goals as goal

pub returns : goal.returns
returns c =
    let w = c.put_waiting in
    let x = c.awaiting-waiting in
    let b = c.waiting in
    let i = c.put_incoming in
    let k = c.block_of-block in
    let h = c.hold in
    let a = c.args in
    opened a.s a.a (whole a.words.now) (whole h.new.words) (whole i.new.words) (whole w.new.words) k.result b.result x.result
    h.ensures k.ensures i.ensures b.ensures x.ensures w.ensures
