-- What may go of the whole list is what went so far and what may go of the rest, from the number that is the last then, a turn at a time.
use Rattle.std.proofs.Common.{◌≡◌, ℕ, ◌≤◌, List, length, get_or, take, sym, refl, ap, ◌∙◌, arith, take_all}
use borrow.Author.Tests.{not-true, not-false}
use Rattle.record.specs.Lists.{in_items}
use Rattle.record.specs.Fresh.{no_incoming}
use Rattle.places.specs.Whole.{whole}
use Rattle.queues.specs.Queues.{held_of}
use Rattle.dispatch.specs.Dispatching.{ready_count, ready_last}
use Rattle.dispatch.proofs.DispatchingLaws.{count_turn, last_turn, count_stop, last_stop, count_end, last_end}
use Rattle.dispatch.proofs.DispatchingPlaces.{count_more}
use Rattle.dispatch.proofs.dispatching.ready.Goals as goal

pub loop-k-init : goal.loop-k-init
loop-k-init c = (omega arith, refl)

pub returns-then-not-follows : goal.returns-then-not-follows
returns-then-not-follows c =
    let n = c.count-n in
    let a = c.args in
    let p = whole a.words.now in
    let xs = in_items (held_of p a.i) in
    let low : n.result ≤ length xs = omega (arith, n.ensures) in
    let all = take_all n.result xs (omega (arith, n.ensures)) in
    let s = c.slot_at-s in
    let i = c.incoming_at-slot in
    let is = i.ensures ∙ ap (λ (x : ℕ). get_or p.incoming x no_incoming) s.ensures in
    let q = c.follows in
    let bad = not-true q.result c.if-not-follows.true-raw in
    let none = count_stop p.incoming xs n.result c.loop-k.k c.loop-k.now.0 low (omega arith) i.result is q.result q.ensures bad in
    let same = last_stop p.incoming xs n.result c.loop-k.k c.loop-k.now.0 low (omega arith) i.result is q.result q.ensures bad in
    let counted : c.loop-k.k ≡ ready_count p.incoming (take n.result xs) a.last.0 = omega (arith, c.loop-k.invariant.0, none) in record { count = counted ∙ ap (λ (ys : List ℕ). ready_count p.incoming ys a.last.0) all; last = sym (c.loop-k.invariant.1 ∙ same) ∙ ap (λ (ys : List ℕ). ready_last p.incoming ys a.last.0) all }

pub loop-k-preserved : goal.loop-k-preserved
loop-k-preserved c =
    let n = c.count-n in
    let a = c.args in
    let p = whole a.words.now in
    let xs = in_items (held_of p a.i) in
    let low : n.result ≤ length xs = omega (arith, n.ensures) in
    let s = c.slot_at-s in
    let i = c.incoming_at-slot in
    let is = i.ensures ∙ ap (λ (x : ℕ). get_or p.incoming x no_incoming) s.ensures in
    let q = c.follows in
    let good = not-false q.result c.if-not-follows.false-raw in
    let next = c.number_after-now in
    let h = c.loop-k-test.true in
    let more =
    count_turn p.incoming xs n.result c.loop-k.k c.loop-k.now.0 low h i.result is q.result q.ensures good next.result.0 next.ensures in
    let same =
    last_turn p.incoming xs n.result c.loop-k.k c.loop-k.now.0 low h i.result is q.result q.ensures good next.result.0 next.ensures in
    (count_more _ _ _ _ c.loop-k.invariant.0 more, c.loop-k.invariant.1 ∙ same)

pub returns : goal.returns
returns c =
    let n = c.count-n in
    let a = c.args in
    let p = whole a.words.now in
    let xs = in_items (held_of p a.i) in
    let all = take_all n.result xs (omega (arith, n.ensures)) in
    let none = count_end p.incoming xs n.result c.loop-k.k c.loop-k.now.0 (omega arith) in
    let same = last_end p.incoming xs n.result c.loop-k.k c.loop-k.now.0 (omega arith) in
    let counted : n.result ≡ ready_count p.incoming (take n.result xs) a.last.0 = omega (arith, c.loop-k.invariant.0, none) in record { count = counted ∙ ap (λ (ys : List ℕ). ready_count p.incoming ys a.last.0) all; last = sym (c.loop-k.invariant.1 ∙ same) ∙ ap (λ (ys : List ℕ). ready_last p.incoming ys a.last.0) all }
