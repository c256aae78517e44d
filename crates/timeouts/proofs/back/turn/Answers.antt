-- `turn` meets its contract: the step's answer on what it needs of the slot is the rule's, and only the slot's timeout is another.
use mathlib.Core.Path.{ap}
use lib.ListN.{get_or}
use Rattle.record.specs.Fresh.{no_outgoing}
use Rattle.places.specs.Whole.{whole}
use Rattle.overdue.specs.declared.step.After.{After}
use Rattle.timeouts.proofs.BackLaws.{turn_is, turn_put}
use Rattle.timeouts.proofs.back.turn.Goals as goal

pub returns : goal.returns
returns c =
    let a = c.args in
    let p = whole a.words.now in
    let o = get_or p.outgoing a.s no_outgoing in
    let is = turn_is a.limits a.clock a.walk o c.sent_at-o.result c.step_by-r.result c.sent_at-o.ensures c.step_by-r.ensures in record { walk = ap (λ (r : After). r.walk) is; mark = ap (λ (r : After). r.mark) is; slot = turn_put a.limits a.clock a.walk o c.sent_at-o.result c.step_by-r.result c.sent_at-o.ensures c.step_by-r.ensures p _ a.s c.retime.ensures }
