-- `is_due` meets its contract: the distance is the rule's.
use Rattle.overdue.proofs.step.is_due.Goals as goal

pub returns : goal.returns
returns c = rw c.distance.ensures
