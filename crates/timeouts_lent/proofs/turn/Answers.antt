-- `turn` meets its contract: the step's answer is the rule's.
use Rattle.timeouts_lent.proofs.turn.Goals as goal

pub returns : goal.returns
returns c = rw c.step_by-r.ensures
