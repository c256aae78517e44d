-- `sent_at` meets its contract: what it takes of the slot in brief is the slot's.
use mathlib.Core.Path.{ap}
use Rattle.pool.specs.declared.Brief.{Brief}
use Rattle.overdue.specs.declared.step.Sent.{Sent}
use Rattle.timeouts.proofs.back.sent_at.Goals as goal

-- what the step needs of a slot in brief
abbrev sent_in : Brief → Sent
sent_in b = record { sent = b.sent; timeout = b.timeout; attempts = b.attempts; length = b.length; packet = b.packet }

pub returns : goal.returns
returns c = ap sent_in c.brief_at-b.ensures
