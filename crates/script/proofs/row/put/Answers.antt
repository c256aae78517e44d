-- `put` meets its contract: the hash is mixed once, whether the number is shown or not.
use Rattle.script.specs.Row.{hashed}
use Rattle.script.proofs.row.put.Goals as goal

pub returns-clause-value : goal.returns-clause-value
unfolding hashed
returns-clause-value g c = rw c.mixed.ensures
