-- `lyn_walk` takes the walk one further each turn, and at the end of the run it is the walked run.
use Rattle.std.proofs.Common.{arith, ap, sym, ◌∙◌}
use Rattle.overdue.specs.declared.step.Walk.{Walk}
use Rattle.timeouts_lent.specs.Walking.{read_of, written_of, Walked}
use Rattle.timeouts_lent.proofs.Runs.{mid_start, mid_kept, mid_end}
use Rattle.timeouts_lent.proofs.lyn_walk.Goals as goal

pub loop-a-init : goal.loop-a-init
loop-a-init c =
    let a = c.args in
    ap (λ (w : Walk). record { walk = w; run = a.sent.now }) c.read-w.ensures ∙ sym (mid_start a.limits a.clock (read_of a.walk) a.sent.now)

pub loop-a-preserved : goal.loop-a-preserved
loop-a-preserved c =
    let a = c.args in
    let at = c.loop-a in
    mid_kept a.limits a.clock (read_of a.walk) at.a-index a.sent.now at.sent at.w _ c.turn-t.result (omega arith) at.invariant c.turn-t.ensures

pub returns : goal.returns
returns c =
    let a = c.args in
    let all = c.loop-a.invariant ∙ mid_end a.limits a.clock (read_of a.walk) c.loop-a.a-index a.sent.now (omega arith) in
    record { walk = c.write.ensures ∙ ap (λ (m : Walked). written_of m.walk) all; run = ap (λ (m : Walked). m.run) all }
