-- `due_by` meets its contract, by cases on giving up: what the callees answer are the rule's next and earliest timeouts.
use Rattle.std.proofs.Common.{sym, ◌∙◌}
use borrow.Author.Tests.{not-true, not-false}
use Rattle.overdue.proofs.step.due_by.Goals as goal

pub returns-then-not-is_given_up : goal.returns-then-not-is_given_up
returns-then-not-is_given_up c =
    rw (
      ← c.earliest_by-earliest.ensures,
      ← c.next_by-next.ensures,
      sym c.is_given_up.ensures ∙ not-true _ c.if-not-is_given_up.true-raw,
      c.goes_back.ensures,
    )

pub returns : goal.returns
returns c =
    rw (
      ← c.earliest_by-earliest.ensures,
      ← c.next_by-next.ensures,
      sym c.is_given_up.ensures ∙ not-false _ c.if-not-is_given_up.false-raw,
      c.stays_in.ensures,
    )
