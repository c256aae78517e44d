-- What the whole list holds of that start is what is left of it holds, a turn at a time.
use Prim.Native.Nat.{ℕ, ◌≤◌}
use mathlib.Core.Path.{ap, sym, ◌∙◌}
use mathlib.Core.List.{List}
use native.Mathlib.Omega.{arith}
use lib.ListN.{length}
use lib.Seq.{take_all}
use Rattle.record.specs.Lists.{in_items}
use Rattle.places.specs.Whole.{whole}
use Rattle.queues.specs.Queues.{held_of}
use Rattle.arrive_fragment.specs.Pieces.{unfinished}
use Rattle.arrive_fragment.proofs.SearchLaws.{found_hit, found_miss, found_end}
use Rattle.arrive_fragment.proofs.searching.unfinished.Goals as goal

pub returns-then-is_unfinished : goal.returns-then-is_unfinished
returns-then-is_unfinished c =
    let u = c.is_unfinished in
    let n = c.count-k-end in
    let a = c.args in
    let p = whole a.words.now in
    let xs = in_items (held_of p a.i) in
    let low : n.result ≤ length xs = omega (arith, n.ensures) in
    let all = take_all n.result xs (omega (arith, n.ensures)) in
    let hit = found_hit p.incoming xs n.result c.loop-k.k low c.loop-k-test.true c.slot_at-s.result c.slot_at-s.ensures c.incoming_at-slot.result c.incoming_at-slot.ensures a.start.0 (sym u.ensures ∙ c.if-is_unfinished.true) in
    sym (c.loop-k.invariant ∙ hit) ∙ ap (λ (ys : List ℕ). unfinished p.incoming ys a.start.0) all

pub loop-k-preserved : goal.loop-k-preserved
loop-k-preserved c =
    let u = c.is_unfinished in
    let n = c.count-k-end in
    let a = c.args in
    let p = whole a.words.now in
    let xs = in_items (held_of p a.i) in
    let h = c.loop-k-test.true in
    let low : n.result ≤ length xs = omega (arith, n.ensures) in
    let miss = found_miss p.incoming xs n.result c.loop-k.k low h c.slot_at-s.result c.slot_at-s.ensures c.incoming_at-slot.result c.incoming_at-slot.ensures a.start.0 (sym u.ensures ∙ c.if-is_unfinished.false) in
    c.loop-k.invariant ∙ miss

pub returns : goal.returns
returns c =
    let n = c.count-k-end in
    let a = c.args in
    let p = whole a.words.now in
    let xs = in_items (held_of p a.i) in
    let all = take_all n.result xs (omega (arith, n.ensures)) in
    let end = found_end p.incoming xs n.result c.loop-k.k a.start.0 (omega (arith, c.loop-k-test.false)) in
    sym (c.loop-k.invariant ∙ end) ∙ ap (λ (ys : List ℕ). unfinished p.incoming ys a.start.0) all
