-- `is_passed` asks the tests of the rule in turn: the answer of each picks the case.
use Rattle.places.specs.Whole.{whole}
use Rattle.places.specs.Updates.{channel_at}
use Rattle.arrive_reliable.proofs.HoldingPlaces.{passed_same, passed_far, passed_asked}
use Rattle.arrive_reliable.proofs.holding.is_passed.Goals as goal

pub returns-then-d-eq0 : goal.returns-then-d-eq0
returns-then-d-eq0 c =
    let d = c.number_distance-d in
    let o = c.numbers_of-own in
    let a = c.args in
    let p = whole a.words.now in
    passed_same p.incoming (channel_at p a.i) a.number.0 d.result o.result o.ensures d.ensures c.if-d-eq0.true

pub returns-then-d-gt-FARTHEST : goal.returns-then-d-gt-FARTHEST
returns-then-d-gt-FARTHEST c =
    let d = c.number_distance-d in
    let o = c.numbers_of-own in
    let a = c.args in
    let p = whole a.words.now in
    passed_far p.incoming (channel_at p a.i) a.number.0 d.result o.result o.ensures d.ensures c.if-d-eq0.false c.if-d-gt-FARTHEST.true

pub returns : goal.returns
returns c =
    let d = c.number_distance-d in
    let o = c.numbers_of-own in
    let a = c.args in
    let p = whole a.words.now in
    passed_asked p.incoming (channel_at p a.i) a.number.0 d.result o.result o.ensures d.ensures c.if-d-eq0.false c.if-d-gt-FARTHEST.false
    c.holds.result c.holds.ensures
