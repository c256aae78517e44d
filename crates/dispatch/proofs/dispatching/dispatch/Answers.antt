-- `dispatch` asks what is ready: the count picks the rule's case; the changes one after the other are the rule's record.
use Rattle.std.proofs.Common.{◌≤◌, length, ap, ◌∙◌, arith}
use Rattle.record.specs.Lists.{in_items}
use Rattle.places.specs.Whole.{whole}
use Rattle.places.specs.declared.channels.Numbers.{Numbers}
use Rattle.queues.specs.Queues.{held_of}
use Rattle.dispatch.specs.Dispatching.{ready_count, ready_last}
use Rattle.dispatch.proofs.DispatchingPlaces.{ready_low, dispatched_none, dispatched_some}
use Rattle.dispatch.proofs.dispatching.dispatch.Goals as goal

pub returns-then-r-eq0 : goal.returns-then-r-eq0
returns-then-r-eq0 c =
    let r = c.ready-r in
    let o = c.numbers_of-own in
    let a = c.args in
    let p = whole a.words.now in
    let n = r.ensures.count ∙ ap (λ (x : Numbers). ready_count p.incoming (in_items (held_of p a.i)) x.incoming_reliable.0) o.ensures in
    dispatched_none p a.i r.result.count n c.if-r-eq0.true

pub shift-requires : goal.shift-requires
shift-requires c =
    let r = c.ready-r in
    let o = c.numbers_of-own in
    let a = c.args in
    let p = whole a.words.now in
    let xs = in_items (held_of p a.i) in
    let low : r.result.count ≤ length xs = omega (arith, r.ensures.count, ready_low p.incoming xs o.result.incoming_reliable.0) in
    record { i_lt_channels = c.requires; k_in_bounds = low }

pub returns : goal.returns
returns c =
    let f = c.flag in
    let u = c.put_incoming in
    let s = c.shift in
    let r = c.ready-r in
    let o = c.numbers_of-own in
    let a = c.args in
    let p = whole a.words.now in
    let n = r.ensures.count ∙ ap (λ (x : Numbers). ready_count p.incoming (in_items (held_of p a.i)) x.incoming_reliable.0) o.ensures in
    let l = r.ensures.last ∙ ap (λ (x : Numbers). ready_last p.incoming (in_items (held_of p a.i)) x.incoming_reliable.0) o.ensures in
    dispatched_some p a.i r.result.count n r.result.last (whole s.new.words) (whole u.new.words) (whole f.new.words) c.if-r-eq0.false l s.ensures u.ensures f.ensures
