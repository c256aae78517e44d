-- `step_by` meets its contract: at each return the tests that led there pick the rule's case.
use Rattle.std.proofs.Common.{ℕ, sym, ap, ◌∙◌}
use Rattle.overdue.specs.Overdue.{stays_in, kept_in}
use Rattle.overdue.proofs.Laws.{step_over, step_due, step_kept}
use Rattle.overdue.proofs.step.step_by.Goals as goal

pub returns-then-walk : goal.returns-then-walk
returns-then-walk c =
    let a = c.args in
    c.stays_in.ensures ∙ sym (step_over a.limits a.clock a.walk a.o c.if-walk.true)

pub returns-then-is_due : goal.returns-then-is_due
returns-then-is_due c =
    let a = c.args in
    c.due_by.ensures
    ∙ sym (step_due a.limits a.clock a.walk a.o c.if-walk.false (sym c.is_due.ensures ∙ c.if-is_due.true))

pub returns : goal.returns
returns c =
    let a = c.args in
    c.stays_in-2.ensures
    ∙ ap (λ (next : ℕ). stays_in (kept_in a.walk next) a.o) c.next_by.ensures
    ∙ sym (step_kept a.limits a.clock a.walk a.o c.if-walk.false (sym c.is_due.ensures ∙ c.if-is_due.false))
