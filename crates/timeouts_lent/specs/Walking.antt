-- "the sent commands are lent as one run of records and walked once": the step of the timeout check on each of the run, oldest first. A caller is
-- not trusted with a flag: it lends a byte, and any but 0 is true.
use Rattle.std.specs.Prelude.{ℕ, ◌≡◌, Bool, not, List, [], ◌∷◌, eqb}
use Rattle.numbers.specs.Pick.{pick}
use Rattle.record.specs.declared.groups.Limits.{Limits}
use Rattle.overdue.specs.Overdue.{step_by}
use Rattle.overdue.specs.declared.step.Sent.{Sent}
use Rattle.overdue.specs.declared.step.Walk.{Walk}
use Rattle.timeouts_lent.specs.declared.Awaiting.{Awaiting}
use Rattle.timeouts_lent.specs.declared.Numbers.{Numbers}
use Rattle.timeouts_lent.specs.declared.Turned.{Turned}

-- how a flag's byte is read, and how a flag is written
abbrev pub flag_of : ℕ → Bool
flag_of byte = not (eqb byte 0)

abbrev pub byte_of : Bool → ℕ
byte_of flag = pick flag 1 0

-- the numbers likewise
abbrev pub read_of : Numbers → Walk
read_of n =
    record {
      earliest = n.earliest;
      next = n.next;
      lost = n.lost;
      transit = n.transit;
      kept = flag_of n.kept;
      back = flag_of n.back;
      over = flag_of n.over;
    }

abbrev pub written_of : Walk → Numbers
written_of w =
    record {
      earliest = w.earliest;
      next = w.next;
      lost = w.lost;
      transit = w.transit;
      kept = byte_of w.kept;
      back = byte_of w.back;
      over = byte_of w.over;
    }

-- a command as it is read
abbrev pub command_of : Awaiting → Sent
command_of a = record { sent = a.sent; timeout = a.timeout; attempts = a.attempts; length = a.length; packet = flag_of a.packet }

-- a command with another timeout and mark
abbrev pub marked : Awaiting → ℕ → ℕ → Awaiting
marked a timeout mark =
    record { sent = a.sent; timeout = timeout; attempts = a.attempts; length = a.length; packet = a.packet; mark = mark }

-- the step on one of the run
abbrev pub turn_of : Limits → ℕ → Walk → Awaiting → Turned
turn_of l clock w a =
    let r = step_by l clock w (command_of a) in record { walk = r.walk; awaiting = marked a r.timeout r.mark }

-- the numbers at the end as the step has them, and the run
pub record Walked : Type 0 where
  pub walk : Walk
  pub run : List Awaiting

abbrev pub headed : Awaiting → Walked → Walked
headed a w = record { walk = w.walk; run = a ∷ w.run }

unfoldable pub walked_run : Limits → ℕ → Walk → List Awaiting → Walked
walked_run l clock w [] = record { walk = w; run = [] }
walked_run l clock w (a ∷ rest) = let t = turn_of l clock w a in headed t.awaiting (walked_run l clock t.walk rest)

-- for every input, any byte in any flag
pub record Walks (l : Limits) (clock : ℕ) (n : Numbers) (before : List Awaiting) (r : Numbers) (after : List Awaiting) : Type 0 where
  pub walk : r ≡ written_of (walked_run l clock (read_of n) before).walk
  pub run : after ≡ (walked_run l clock (read_of n) before).run
