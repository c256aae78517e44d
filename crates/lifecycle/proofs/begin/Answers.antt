-- `begin` passes the gate, then asks whether it may begin, and changes three parts of the record one after the other.
use mathlib.Core.Path.{◌≡◌, refl, sym, ap, ◌∙◌}
use lib.ListN.{length}
use borrow.Author.Tests.{not-true, not-false}
use borrow.Author.Rules.{rules}
use Rattle.peer.specs.Calls.{answer_of}
use Rattle.peer.specs.declared.gate.Lent.TheVariants.{Nothing}
use Rattle.places.specs.Whole.{whole}
use Rattle.peer.proofs.Gates.{AtGate, came_shut, came_open, passed_on}
use Rattle.record.specs.Updates.{with_count, with_mtu}
use Rattle.record.specs.declared.groups.Flow.{Flow}
use Rattle.record.specs.declared.groups.Standing.{Standing}
use Rattle.peer.specs.Updates.{with_standing, with_flow}
use Rattle.lifecycle.specs.Calls.{begins_sound, begin_fits}
use Rattle.lifecycle.proofs.Places.{cleared_channels, begins_by}
use Rattle.lifecycle.proofs.begin.Goals as goal

pub returns-in_err-ask : goal.returns-in_err-ask
returns-in_err-ask c =
    let a = c.args in
    let p = whole a.words.now in
    let g = c.ask in
    let asked : AtGate a.settings Nothing p = record { gate = g.result; is = g.ensures } in
    rw (passed_on c.from_residual.result c.in_err-ask.field-0.0 c.from_residual.ensures.1)
    (came_shut asked p (begins_sound a.mtu a.count p) answer_of _ c.in_err-ask.field-0.0 refl c.in_err-ask.was)

pub returns-then-not-begin_fits : goal.returns-then-not-begin_fits
returns-then-not-begin_fits c =
    let a = c.args in
    let p = whole a.words.now in
    let asked : AtGate a.settings Nothing p = record { gate = c.ask.result; is = c.ask.ensures } in
    let n : c.standing-standing.result.channels ≡ p.standing.channels = ap (λ (s : Standing). s.channels) c.standing-standing.ensures in
    let may = ap (begin_fits a.mtu a.count) (sym n) ∙ sym c.begin_fits.ensures ∙ not-true _ c.if-not-begin_fits.true-raw in
    came_open asked p (begins_sound a.mtu a.count p) answer_of _ p c.in_ok-ask.was (record { answer = rw may; after = rw may })

pub returns : goal.returns
returns c =
    let a = c.args in
    let p = whole a.words.now in
    let asked : AtGate a.settings Nothing p = record { gate = c.ask.result; is = c.ask.ensures } in
    let l : length c.put_flow.new.words ≡ 1236 = search rules in
    let n : c.standing-standing.result.channels ≡ p.standing.channels = ap (λ (s : Standing). s.channels) c.standing-standing.ensures in
    let may = ap (begin_fits a.mtu a.count) (sym n) ∙ sym c.begin_fits.ensures ∙ not-false _ c.if-not-begin_fits.false-raw in
    let done = begins_by a.mtu a.count p (whole c.put_standing.new.words) (whole c.put_flow.new.words) (whole c.clear.new.words)
    (c.put_standing.ensures ∙ ap (λ (s : Standing). with_standing p (with_count s a.count)) c.standing-standing.ensures)
    (c.put_flow.ensures ∙ ap (λ (f : Flow). with_flow (whole c.put_standing.new.words) (with_mtu f a.mtu)) c.flow-flow.ensures)
    (ap whole c.clear.ensures ∙ cleared_channels c.put_flow.new.words l) in
    came_open asked p (begins_sound a.mtu a.count p) answer_of _ _ c.in_ok-ask.was (record { answer = rw may; after = rw may done })
