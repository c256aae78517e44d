-- `send` passes the gate and its own refusals; then its loop queues the packet's commands in order, in place, and the numbers go back.
use Rattle.places.specs.Whole.{whole}
use Rattle.send.proofs.Placed.{Goes}
use Rattle.send.proofs.send.Given as goal

abbrev pub invariant-loop-j : goal.invariant-loop-j
invariant-loop-j l = Goes l.packet l.count l.channel (whole l.initial.words) (whole l.words) l.o l.marks l.j l.offset
