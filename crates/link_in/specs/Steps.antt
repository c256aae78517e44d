-- What each call of the receiving side does, on the record and the stores that are lent; a call that is lent none of them leaves it as it is.
use Rattle.std.specs.Prelude.{ℕ, ◌≡◌, List}
use Rattle.numbers.specs.Answers.{Answer}
use Rattle.peer.specs.Calls as plain
use Rattle.peer.specs.Outcome.{State, Outcome}
use Rattle.peer.specs.declared.settings.Settings.{Settings}
use Rattle.peer.specs.declared.Peer.{Peer}
use Rattle.arrival.specs.Arrivals as arriving
use Rattle.arrive_unsequenced.specs.Calls.{arrives_unsequenced}
use Rattle.arrive_reliable.specs.Calls.{arrives_reliable}
use Rattle.arrive_fragment.specs.Calls.{arrives_fragment}
use Rattle.dispatch.specs.Calls.{dispatches}
use Rattle.receive.specs.Calls as receiving
use Rattle.link_in.specs.declared.calls.Call.{Call}
use Rattle.link_in.specs.declared.calls.Call.TheVariants as call
use Rattle.link_in.specs.declared.calls.Reply.{Reply}
use Rattle.link_in.specs.declared.calls.Reply.TheVariants as vr

-- document 01's number and values for every reply
abbrev pub answer_of : Reply → Answer
answer_of (vr.Arrived r) = arriving.answer_of r
answer_of (vr.Called r) = plain.answer_of r
answer_of (vr.Received r) = receiving.answer_of r

-- a call on the record alone
abbrev pub beside : State → Outcome Peer → Outcome State
beside x o = record { answer = o.answer; after = record { peer = o.after; store = x.store; second = x.second } }

abbrev pub calls_in : Settings → Call → List ℕ → State → Outcome State
calls_in s (call.UnsequencedArrival a group) datagram x = arrives_unsequenced s a group datagram x
calls_in s (call.ReliableArrival a) datagram x = arrives_reliable s a datagram x
calls_in s (call.FragmentArrival a) datagram x = arrives_fragment s a datagram x
calls_in s (call.Dispatch channel) datagram x = beside x (dispatches s channel x.peer)
calls_in s call.Receive datagram x = beside x (receiving.receives s x.peer)

-- which kind of reply a call has, and which kind one is
abbrev pub kind_of : Call → ℕ
kind_of (call.UnsequencedArrival a group) = 0
kind_of (call.ReliableArrival a) = 0
kind_of (call.FragmentArrival a) = 0
kind_of (call.Dispatch channel) = 1
kind_of call.Receive = 2

abbrev pub kind_in : Reply → ℕ
kind_in (vr.Arrived r) = 0
kind_in (vr.Called r) = 1
kind_in (vr.Received r) = 2

-- a reply is of its call's kind: without it two replies could share an answer
pub record Own (c : Call) (r : Reply) : Type 0 where
  pub kind : kind_in r ≡ kind_of c
