-- `hold` asks for the place and inserts there: each answer is the rule's.
use Rattle.places.specs.Whole.{whole}
use Rattle.arrive_reliable.proofs.HoldingPlaces.{held_in}
use Rattle.arrive_reliable.proofs.holding.hold.Goals as goal

pub returns : goal.returns
returns c =
    let r = c.insert in
    let k = c.place_of-at in
    let o = c.numbers_of-own in
    let a = c.args in
    held_in (whole a.words.now) (whole r.new.words) a.i a.number.0 a.s k.result o.result o.ensures k.ensures r.ensures
