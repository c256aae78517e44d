-- How many of the whole list stand before the first that is farther is k and how many of what is left, a turn at a time.
use Rattle.std.proofs.Common.{◌≡◌, ℕ, ◌≤◌, List, length, get_or, take, ap, ◌∙◌, arith, take_all}
use Rattle.record.specs.Lists.{in_items}
use Rattle.record.specs.Fresh.{no_incoming}
use Rattle.places.specs.Whole.{whole}
use Rattle.queues.specs.Queues.{held_of}
use Rattle.dispatch.proofs.DispatchingPlaces.{count_more}
use Rattle.arrive_reliable.specs.Holding.{place_of}
use Rattle.arrive_reliable.proofs.HoldingLaws.{near_stop, near_turn, near_end}
use Rattle.arrive_reliable.proofs.holding.place_of.Goals as goal

pub returns-then-d-number_distance : goal.returns-then-d-number_distance
returns-then-d-number_distance c =
    let f = c.number_distance in
    let n = c.count-n in
    let d = c.number_distance-d in
    let a = c.args in
    let p = whole a.words.now in
    let xs = in_items (held_of p a.i) in
    let low : n.result ≤ length xs = omega (arith, n.ensures) in
    let all = take_all n.result xs (omega (arith, n.ensures)) in
    let is = c.incoming_at-slot.ensures ∙ ap (λ (x : ℕ). get_or p.incoming x no_incoming) c.slot_at-s.ensures in
    let stop = near_stop p.incoming xs n.result c.loop-k.k low c.loop-k-test.true c.incoming_at-slot.result is a.last.0 d.result f.result f.ensures c.if-d-number_distance.true in
    let counted : c.loop-k.k ≡ place_of p.incoming (take n.result xs) a.last.0 d.result = omega (arith, c.loop-k.invariant, stop) in
    counted ∙ ap (λ (ys : List ℕ). place_of p.incoming ys a.last.0 d.result) all ∙ ap (place_of p.incoming xs a.last.0) d.ensures

pub loop-k-preserved : goal.loop-k-preserved
loop-k-preserved c =
    let f = c.number_distance in
    let n = c.count-n in
    let d = c.number_distance-d in
    let a = c.args in
    let p = whole a.words.now in
    let xs = in_items (held_of p a.i) in
    let h = c.loop-k-test.true in
    let low : n.result ≤ length xs = omega (arith, n.ensures) in
    let is = c.incoming_at-slot.ensures ∙ ap (λ (x : ℕ). get_or p.incoming x no_incoming) c.slot_at-s.ensures in
    let turn = near_turn p.incoming xs n.result c.loop-k.k low h c.incoming_at-slot.result is a.last.0 d.result f.result f.ensures c.if-d-number_distance.false in
    count_more _ _ _ _ c.loop-k.invariant turn

pub returns : goal.returns
returns c =
    let n = c.count-n in
    let d = c.number_distance-d in
    let a = c.args in
    let p = whole a.words.now in
    let xs = in_items (held_of p a.i) in
    let all = take_all n.result xs (omega (arith, n.ensures)) in
    let end = near_end p.incoming xs n.result c.loop-k.k a.last.0 d.result (omega (arith, c.loop-k-test.false)) in
    let counted : n.result ≡ place_of p.incoming (take n.result xs) a.last.0 d.result = omega (arith, c.loop-k.invariant, end) in
    counted ∙ ap (λ (ys : List ℕ). place_of p.incoming ys a.last.0 d.result) all ∙ ap (place_of p.incoming xs a.last.0) d.ensures
