-- Document 01's table, "What a call replies": which numbers but 0 a call may answer, and what record and stores then hold. Every call may answer 11,
-- and every one but reset 13. That an arrival answers 9 where its byte names another command is our own reading (decision 81).
-- C-11: "Refusals: 14, fields out of range or unlike the first piece's, nothing changed".
use Rattle.std.specs.Prelude.{ℕ, ◌≡◌, Bool, true, List, [], ◌∷◌, eqb, Some}
use Rattle.numbers.specs.Pick.{pick}
use Rattle.numbers.specs.Clock.{trip_of}
use Rattle.numbers.specs.declared.counters.Group.{Group}
use Rattle.cells.specs.Runs.{has}
use Rattle.window.specs.Window.{first, cleared}
use Rattle.record.specs.Updates.{with_window}
use Rattle.peer.specs.Damage.{sound}
use Rattle.peer.specs.Outcome.{State}
use Rattle.peer.specs.declared.settings.Settings.{Settings}
use Rattle.peer.specs.declared.Peer.{Peer}
use Rattle.acknowledge.specs.Removal.{spot_of}
use Rattle.acknowledge.specs.Calls.{heard_at, acknowledges}
use Rattle.arrival.specs.declared.Arrival.{Arrival}
use Rattle.arrive_unsequenced.specs.Calls.{regrouped, arrives_unsequenced}
use Rattle.arrive_reliable.specs.Calls.{arrives_reliable}
use Rattle.link.specs.Steps.{calls}
use Rattle.link.specs.Runs.{Asked, comes_to}
use Rattle.link_out.specs.declared.calls.Call.TheVariants as out
use Rattle.link_in.specs.declared.calls.Call.TheVariants as inw
use Rattle.link.specs.declared.calls.Call.{Call}
use Rattle.link.specs.declared.calls.Call.TheVariants as call

abbrev pub refusals_of : Call → List ℕ
refusals_of call.Reset = 11 ∷ []
refusals_of (call.Begin mtu channels) = 11 ∷ 13 ∷ []
refusals_of (call.SetState state) = 11 ∷ 13 ∷ []
refusals_of (call.Outward out.Ping) = 1 ∷ 5 ∷ 11 ∷ 13 ∷ []
refusals_of (call.Outward (out.Send channel length flags)) = 1 ∷ 2 ∷ 3 ∷ 4 ∷ 5 ∷ 11 ∷ 13 ∷ []
refusals_of (call.Outward (out.Setup piece)) = 2 ∷ 5 ∷ 9 ∷ 11 ∷ 13 ∷ []
refusals_of (call.Outward (out.SendStep queue time)) = 11 ∷ 13 ∷ []
refusals_of (call.Outward (out.Acknowledgement channel number sent clock)) = 10 ∷ 11 ∷ 13 ∷ []
refusals_of (call.Outward (out.TimeoutCheck clock)) = 11 ∷ 13 ∷ []
refusals_of (call.Outward (out.Throttle sample)) = 11 ∷ 13 ∷ []
refusals_of (call.Inward (inw.UnsequencedArrival arrival group)) = 6 ∷ 7 ∷ 8 ∷ 9 ∷ 11 ∷ 13 ∷ []
refusals_of (call.Inward (inw.ReliableArrival arrival)) = 6 ∷ 7 ∷ 8 ∷ 9 ∷ 11 ∷ 13 ∷ []
refusals_of (call.Inward (inw.FragmentArrival piece)) = 6 ∷ 7 ∷ 8 ∷ 9 ∷ 11 ∷ 13 ∷ 14 ∷ []
refusals_of (call.Inward (inw.Dispatch channel)) = 2 ∷ 11 ∷ 13 ∷ []
refusals_of (call.Inward inw.Receive) = 11 ∷ 13 ∷ []

abbrev pub may : Call → ℕ → Bool
may k number = has (refusals_of k) number

-- a call answers 0 or a number of its row
abbrev pub AnswersMay : Type 0
AnswersMay =
    (s : Settings) (k : Call) (datagram : List ℕ) (x : State) → let number = (calls s k datagram x).answer.number in
    (number ≡ 0 → ⊥) → may k number ≡ true

-- "unchanged", after every number but 8 and 10
abbrev pub RefusedUnchanged : Type 0
RefusedUnchanged =
    (s : Settings) (k : Call) (datagram : List ℕ) (x : State) → let o = calls s k datagram x in
    (o.answer.number ≡ 0 → ⊥) → (o.answer.number ≡ 8 → ⊥) → (o.answer.number ≡ 10 → ⊥) → o.after ≡ x

abbrev pub SoundUndamaged : Type 0
SoundUndamaged =
    (s : Settings) (k : Call) (datagram : List ℕ) (x : State) → sound x.peer ≡ true → (calls s k datagram x).answer.number ≡ 13 → ⊥

-- 8 of a reliable arrival: "unchanged"
abbrev pub EightLeaves : Type 0
EightLeaves =
    (s : Settings) (a : Arrival) (datagram : List ℕ) (x : State) → let o = arrives_reliable s a datagram x in
    o.answer.number ≡ 8 → o.after ≡ x

-- 8 of an unsequenced one: "unchanged, but for the unsequenced move": the base is the first group of g's window, and the words are cleared if it was not
abbrev pub moved_for : Group → State → State
moved_for g x =
    let gs = x.peer.unsequenced in
    let home = first g.0 in
    regrouped x (with_window gs (record { 0 = home }) (pick (eqb home gs.incoming.0) gs.words cleared))

abbrev pub EightMoves : Type 0
EightMoves =
    (s : Settings) (a : Arrival) (g : Group) (datagram : List ℕ) (x : State) → let o = arrives_unsequenced s a g datagram x in
    o.answer.number ≡ 8 → o.after ≡ moved_for g x

-- 10: "all effects of the acknowledgement kept": those of its sample, and of the removal of the command that it names
pub record Heard (channel number sent clock : ℕ) (p after : Peer) : Type 0 where
  pub sample : ℕ
  pub trip : trip_of clock sent ≡ Some sample
  pub is : after ≡ (heard_at (spot_of p.outgoing number channel p.lists) sample clock p).after

abbrev pub TenKeeps : Type 0
TenKeeps =
    (s : Settings) (channel number sent clock : ℕ) (p : Peer) → let o = acknowledges s channel number sent clock p in
    o.answer.number ≡ 10 → Heard channel number sent clock p o.after

-- the call's op in a script, whatever its numbers
abbrev pub op_of : Call → ℕ
op_of call.Reset = 1
op_of (call.Begin mtu channels) = 2
op_of (call.SetState state) = 3
op_of (call.Outward out.Ping) = 4
op_of (call.Outward (out.Send channel length flags)) = 5
op_of (call.Outward (out.Setup piece)) = 6
op_of (call.Outward (out.SendStep queue time)) = 7
op_of (call.Outward (out.Acknowledgement channel number sent clock)) = 8
op_of (call.Outward (out.TimeoutCheck clock)) = 9
op_of (call.Inward (inw.UnsequencedArrival arrival group)) = 10
op_of (call.Inward (inw.ReliableArrival arrival)) = 11
op_of (call.Inward (inw.FragmentArrival piece)) = 18
op_of (call.Inward (inw.Dispatch channel)) = 12
op_of (call.Inward inw.Receive) = 13
op_of (call.Outward (out.Throttle sample)) = 14

-- some input makes this call answer so
pub record Shown (k : Call) (number : ℕ) : Type 0 where
  pub asked : Asked
  pub state : State
  pub same : op_of asked.call ≡ op_of k
  pub answers : (comes_to asked state).answer.number ≡ number

-- every number of every row is answered
abbrev pub AnswersEach : Type 0
AnswersEach = (k : Call) (number : ℕ) → may k number ≡ true → Shown k number
