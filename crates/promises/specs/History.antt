-- What happened to the unsequenced window along a run, as data: a log of events, the newest first.
use Rattle.std.specs.Prelude.{ℕ, ◌+◌, ◌<◌, List, [], ◌∷◌, eqb}
use Rattle.numbers.specs.Pick.{pick}
use Rattle.numbers.specs.Answers.{Answer}
use Rattle.window.specs.Window.{windows_moved}
use Rattle.peer.specs.Outcome.{State}
use Rattle.link.specs.Runs.{Asked, comes_to, says_one}
use Rattle.link_in.specs.declared.calls.Call.TheVariants as inw
use Rattle.link.specs.declared.calls.Call.{Call}
use Rattle.link.specs.declared.calls.Call.TheVariants as call

pub data Event : Type 0 where
  was_reset : Event  -- a reset was done
  moved : (windows : ℕ) → Event  -- the base moved forward by so many windows of 1,024 groups
  delivered : (group : ℕ) → Event  -- an unsequenced packet of this group was stored

-- of a group: not delivered since the latest reset; or how many windows the base moved, in all, since its latest delivery
pub data Since : Type 0 where
  never : Since
  windows : ℕ → Since

abbrev pub later : ℕ → Since → Since
later n never = never
later n (windows m) = windows (n + m)

unfoldable pub since : ℕ → List Event → Since
since g [] = never
since g (was_reset ∷ log) = never
since g (moved n ∷ log) = later n (since g log)
since g (delivered h ∷ log) = pick (eqb h g) (windows 0) (since g log)

-- what a call can mean to the window: it resets it, it is an arrival of a group, or it has nothing to do with it
pub data Concern : Type 0 where
  resetting : Concern
  arriving : (group : ℕ) → Concern
  neither : Concern

abbrev pub concern : Call → Concern
concern call.Reset = resetting
concern (call.Begin mtu channels) = neither
concern (call.SetState state) = neither
concern (call.Outward c) = neither
concern (call.Inward (inw.UnsequencedArrival a group)) = arriving group.0
concern (call.Inward (inw.ReliableArrival a)) = neither
concern (call.Inward (inw.FragmentArrival a)) = neither
concern (call.Inward (inw.Dispatch channel)) = neither
concern (call.Inward inw.Receive) = neither

-- a group is a number of 16 bits, as its type in the program says; here a number may be any
abbrev pub InRange : Concern → Type 0
InRange resetting = Unit {0}
InRange (arriving g) = g < 65536
InRange neither = Unit {0}

abbrev pub AllInRange : List Asked → Type 0
AllInRange [] = Unit {0}
AllInRange (a ∷ rest) = InRange (concern a.call) × AllInRange rest

-- how far a call moved the base: read off the record, whatever the call is and whatever it answers
abbrev pub base_of : State → ℕ
base_of x = x.peer.unsequenced.incoming.0

abbrev pub moved_by : Asked → State → ℕ
moved_by a x = windows_moved (base_of x) (base_of (comes_to a x).after)

-- what a call of this concern, that answers so and moves the base by n windows, adds to the log
abbrev pub logs : Concern → Answer → ℕ → List Event → List Event
logs resetting a n log = pick (eqb a.number 0) (was_reset ∷ log) (moved n ∷ log)
logs (arriving g) a n log = pick (says_one a) (delivered g ∷ moved n ∷ log) (moved n ∷ log)
logs neither a n log = moved n ∷ log

abbrev pub logged : Asked → State → List Event → List Event
logged a x log = logs (concern a.call) (comes_to a x).answer (moved_by a x) log

-- the log after a run of calls
unfoldable pub history : List Asked → State → List Event → List Event
history [] x log = log
history (a ∷ rest) x log = history rest (comes_to a x).after (logged a x log)
