-- The same walk with flags that are true or false, by the step alone; and a command as it is lent, its flag as 1 or 0.
use Rattle.std.specs.Prelude.{ℕ, List, [], ◌∷◌}
use Rattle.record.specs.declared.groups.Limits.{Limits}
use Rattle.overdue.specs.Overdue.{step_by}
use Rattle.overdue.specs.declared.step.Sent.{Sent}
use Rattle.overdue.specs.declared.step.Walk.{Walk}
use Rattle.timeouts_lent.specs.Walking.{byte_of, marked, Walked, headed}
use Rattle.timeouts_lent.specs.declared.Awaiting.{Awaiting}

abbrev pub lent_as : ℕ → Sent → Awaiting
lent_as mark o =
    record { sent = o.sent; timeout = o.timeout; attempts = o.attempts; length = o.length; packet = byte_of o.packet; mark = mark }

unfoldable pub stepped : Limits → ℕ → Walk → List Sent → Walked
stepped l clock w [] = record { walk = w; run = [] }
stepped l clock w (o ∷ rest) =
    let r = step_by l clock w o in headed (marked (lent_as 0 o) r.timeout r.mark) (stepped l clock r.walk rest)
