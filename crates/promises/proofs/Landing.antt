-- What an unsequenced arrival does to the window and the log, in the log's words; and that a repeat of a recent group changes nothing.
-- The argument: `arrived` says what it does, and Answers which answer that is.
use Prim.Native.Nat.{ℕ, ◌≤◌, ◌<◌}
use mathlib.Core.Path.{◌≡◌, ap₂}
use mathlib.Core.Bool.{Bool, true, false}
use mathlib.Core.List.{List}
use Rattle.numbers.specs.declared.counters.Group.{Group}
use Rattle.window.specs.Window.{first, cleared}
use Rattle.peer.specs.Gate.{fits}
use Rattle.peer.specs.Outcome.{State, Outcome}
use Rattle.peer.specs.declared.settings.Settings.{Settings}
use Rattle.arrival.specs.Arrivals.{room_of}
use Rattle.arrival.specs.Window.{taken_at, passed_by}
use Rattle.arrival.specs.declared.Arrival.{Arrival}
use Rattle.arrive_unsequenced.specs.Calls.{arrives_unsequenced}
use Rattle.laws.specs.Landing as landing
use Rattle.laws.proofs.Landing.{unsequenced_lands, unsequenced_quiet}
use Rattle.link.specs.Runs.{says_one}
use Rattle.promises.proofs.Answers.{Says, unsequenced_says, one_stored, one_not}
use Rattle.promises.proofs.Windows.{window_of, Known, Took, passes}

module _ (s : Settings) (a : Arrival) (group : Group) (datagram : List ℕ) (x : State) where
  abbrev comes : Outcome State
  comes = arrives_unsequenced s a group datagram x

  says : Says comes.answer
  says = unsequenced_says s a datagram x group

  -- it leaves the window; or takes its group, marked or not; or delivers it
  pub data Lands : Type 0 where
    stays : window_of comes.after ≡ window_of x → says_one comes.answer ≡ false → Lands
    takes : (marks : Bool) → Took (window_of x) (window_of comes.after) group.0 marks → says_one comes.answer ≡ false → Lands
    delivers : Took (window_of x) (window_of comes.after) group.0 true → says_one comes.answer ≡ true → Lands

  pub arrival_lands : group.0 < 65536 → Lands
  arrival_lands small = go (unsequenced_lands s a group datagram x)
    where
      took : (marks : Bool) → landing.Took x.peer.unsequenced comes.after.peer.unsequenced group.0 marks
          → Took (window_of x) (window_of comes.after) group.0 marks
      took marks t = record { fits = small; taken = t.taken; base = t.base; words = t.words }

      go : landing.Lands x.peer.unsequenced group.0 comes → Lands
      go (landing.stays base words not) =
          stays (ap₂ (λ (b : Group) (ws : List ℕ). record { base = b.0; words = ws }) base words) (one_not comes.answer says not)
      go (landing.takes marks t not) = takes marks (took marks t) (one_not comes.answer says not)
      go (landing.delivers t is) = delivers (took true t) (one_stored comes.answer is)

  -- a repeat changes nothing
  pub repeat_quiet : (m : ℕ) → Known (window_of x) group.0 m → m ≤ 32 → comes.after ≡ x
  repeat_quiet m k few =
      let g = x.peer.unsequenced in
      unsequenced_quiet s a group datagram x
      (passes k (passed_by g) (taken_at (room_of s x.peer) g group (record { 0 = first group.0 }) cleared)
      (taken_at (room_of s x.peer) g group g.incoming g.words) few)
