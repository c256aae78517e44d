-- `lyn_walk` after some turns: the run and the numbers are those of the walk midway, at their count.
use Rattle.std.proofs.Common.{◌≡◌}
use Rattle.timeouts_lent.specs.Walking.{read_of}
use Rattle.timeouts_lent.proofs.Runs.{midway}
use Rattle.timeouts_lent.proofs.lyn_walk.Given as goal

abbrev pub invariant-loop-a : goal.invariant-loop-a
invariant-loop-a l = record { walk = l.w; run = l.sent } ≡ midway l.fn.limits l.fn.clock (read_of l.fn.walk) l.a-index l.fn.sent
