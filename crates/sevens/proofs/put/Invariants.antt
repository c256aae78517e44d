-- `put` meets its contract: what all stores will make is kept at each turn (`Going`); the rest falls.
use Rattle.sevens.proofs.Writing.{Going}
use Rattle.sevens.proofs.put.Given as goal

abbrev pub invariant-loop-rest : goal.invariant-loop-rest
invariant-loop-rest l = Going l.initial.buffer l.at l.x l.buffer l.rest l.i

abbrev pub decreases-loop-rest : goal.decreases-loop-rest
decreases-loop-rest l = l.rest
