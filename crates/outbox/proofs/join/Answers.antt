-- `join` pushes on the list that the rule picks: either test false leads to the outgoing list.
use Rattle.std.proofs.Common.{sym, ◌∙◌}
use Rattle.outbox.proofs.join.Goals as goal
use Rattle.outbox.proofs.join.Goals.{then-is_acknowledged+else-x, else-is_acknowledged}

pub returns-then-x : goal.returns-then-x
returns-then-x c =
    rw (sym c.is_acknowledged.ensures ∙ c.if-is_acknowledged.true, c.if-x.true) c.push.ensures

pub returns : goal.returns
returns c =
    let asked = c.is_acknowledged in
    let kept = c.push-2.ensures in
    elim c.if-is_acknowledged.branch [
      | then-is_acknowledged+else-x w ↦ rw (sym asked.ensures ∙ w.if-is_acknowledged.true, w.if-x.false) kept
      | else-is_acknowledged w ↦ rw (sym asked.ensures ∙ w.if-is_acknowledged.false) kept
    ]
