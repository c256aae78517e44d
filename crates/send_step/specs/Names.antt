-- For functions inside the house alone: the list that a queue is, by the name that it has in the lent record.
use Rattle.queues.specs.declared.Out.{Out}
use Rattle.queues.specs.declared.Out.TheVariants as out
use Rattle.send_step.specs.declared.heads.Queue.{Queue}
use Rattle.send_step.specs.declared.heads.Queue.TheVariants as queue

abbrev pub out_for : Queue → Out
out_for queue.Outgoing = out.Outgoing
out_for queue.Reliable = out.Reliable
