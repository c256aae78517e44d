-- `early` meets its contract. The loop's invariant: what the search from the head finds is j and what it finds from place j on.
use mathlib.Core.Path.{ap, sym, ◌∙◌}
use native.Mathlib.Omega.{arith}
use Rattle.record.specs.Lists.{out_items}
use Rattle.places.specs.Whole.{whole}
use Rattle.overdue.specs.Overdue.{is_due}
use Rattle.timeouts.proofs.Early.{early_here, early_on, early_end}
use Rattle.timeouts.proofs.back.early.Goals as goal

pub loop-j-init : goal.loop-j-init
loop-j-init c = (c.count-n.ensures, omega arith)

pub returns-then-is_due : goal.returns-then-is_due
returns-then-is_due c =
    let a = c.args in
    let p = whole a.words.now in
    let i = c.loop-j.invariant in
    let here = early_here a.clock p.outgoing (out_items p.lists.sent) c.loop-j.j c.slot_at-s.result (omega (arith, i.0, c.loop-j-test.true)) c.slot_at-s.ensures
    (ap (is_due a.clock) (sym c.sent_at-o.ensures) ∙ sym c.is_due.ensures ∙ c.if-is_due.true) in
    omega (arith, i.1, here)

pub loop-j-preserved : goal.loop-j-preserved
loop-j-preserved c =
    let a = c.args in
    let p = whole a.words.now in
    let i = c.loop-j.invariant in
    let on = early_on a.clock p.outgoing (out_items p.lists.sent) c.loop-j.j c.slot_at-s.result (omega (arith, i.0, c.loop-j-test.true)) c.slot_at-s.ensures
    (ap (is_due a.clock) (sym c.sent_at-o.ensures) ∙ sym c.is_due.ensures ∙ c.if-is_due.false) in
    (i.0, omega (arith, i.1, on))

pub returns : goal.returns
returns c =
    let a = c.args in
    let p = whole a.words.now in
    let i = c.loop-j.invariant in
    let end = early_end a.clock p.outgoing (out_items p.lists.sent) c.loop-j.j (omega (arith, i.0, c.loop-j-test.false)) in
    omega (arith, i.0, i.1, end, c.loop-j-test.false)
