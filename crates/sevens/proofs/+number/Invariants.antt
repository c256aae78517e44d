-- `number` takes a group less each time.
use Rattle.sevens.proofs.+number.Given as goal

abbrev pub decreases-number : goal.decreases-number
decreases-number l = l.left
