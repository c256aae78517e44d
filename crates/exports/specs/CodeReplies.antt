-- For private functions alone: the turns and the verdicts as the numbers of the replies.
use Rattle.std.specs.Prelude.{ℕ}
use Rattle.throttle.specs.declared.Turn.{Turn}
use Rattle.throttle.specs.declared.Turn.TheVariants.{Held, Raised, Lowered}
use Rattle.window.specs.declared.Verdict.{Verdict}
use Rattle.window.specs.declared.Verdict.TheVariants.{Distant, Marked, Taken}

abbrev pub turn_code : Turn → ℕ
turn_code Held = 0
turn_code Raised = 1
turn_code Lowered = 2

abbrev pub verdict_code : Verdict → ℕ
verdict_code Distant = 0
verdict_code Marked = 1
verdict_code Taken = 2
