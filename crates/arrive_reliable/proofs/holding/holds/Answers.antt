-- Whether the whole list holds the number is whether what is left of it does, a turn at a time.
use Rattle.std.proofs.Common.{ℕ, ◌≤◌, List, length, get_or, sym, ap, ◌∙◌, arith, take_all}
use Rattle.record.specs.Lists.{in_items}
use Rattle.record.specs.Fresh.{no_incoming}
use Rattle.places.specs.Whole.{whole}
use Rattle.queues.specs.Queues.{held_of}
use Rattle.arrive_reliable.specs.Holding.{holds}
use Rattle.arrive_reliable.proofs.HoldingLaws.{held_hit, held_miss, held_end}
use Rattle.arrive_reliable.proofs.holding.holds.Goals as goal

pub returns-then-own-number : goal.returns-then-own-number
returns-then-own-number c =
    let n = c.count-k-end in
    let a = c.args in
    let p = whole a.words.now in
    let xs = in_items (held_of p a.i) in
    let low : n.result ≤ length xs = omega (arith, n.ensures) in
    let all = take_all n.result xs (omega (arith, n.ensures)) in
    let is = c.incoming_at-slot.ensures ∙ ap (λ (x : ℕ). get_or p.incoming x no_incoming) c.slot_at-s.ensures in
    let hit = held_hit p.incoming xs n.result c.loop-k.k low c.loop-k-test.true c.incoming_at-slot.result is a.number.0 c.if-own-number.true in
    sym (c.loop-k.invariant ∙ hit) ∙ ap (λ (ys : List ℕ). holds p.incoming ys a.number.0) all

pub loop-k-preserved : goal.loop-k-preserved
loop-k-preserved c =
    let n = c.count-k-end in
    let a = c.args in
    let p = whole a.words.now in
    let xs = in_items (held_of p a.i) in
    let h = c.loop-k-test.true in
    let low : n.result ≤ length xs = omega (arith, n.ensures) in
    let is = c.incoming_at-slot.ensures ∙ ap (λ (x : ℕ). get_or p.incoming x no_incoming) c.slot_at-s.ensures in
    let miss = held_miss p.incoming xs n.result c.loop-k.k low h c.incoming_at-slot.result is a.number.0 c.if-own-number.false in
    c.loop-k.invariant ∙ miss

pub returns : goal.returns
returns c =
    let n = c.count-k-end in
    let a = c.args in
    let p = whole a.words.now in
    let xs = in_items (held_of p a.i) in
    let all = take_all n.result xs (omega (arith, n.ensures)) in
    let end = held_end p.incoming xs n.result c.loop-k.k a.number.0 (omega (arith, c.loop-k-test.false)) in
    sym (c.loop-k.invariant ∙ end) ∙ ap (λ (ys : List ℕ). holds p.incoming ys a.number.0) all
