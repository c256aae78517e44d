-- What each call of the sending side does, on the record.
use Rattle.std.specs.Prelude.{ℕ, ◌≡◌}
use Rattle.numbers.specs.Answers.{Answer}
use Rattle.peer.specs.Calls as plain
use Rattle.peer.specs.Outcome.{Outcome}
use Rattle.peer.specs.declared.settings.Settings.{Settings}
use Rattle.peer.specs.declared.Peer.{Peer}
use Rattle.setup.specs.Calls.{sets_up}
use Rattle.send.specs.Calls.{sends}
use Rattle.setup.specs.Pings.{pings}
use Rattle.send_step.specs.Calls as stepping
use Rattle.round_trip.specs.Calls as throttling
use Rattle.acknowledge.specs.Calls as acknowledging
use Rattle.timeouts.specs.Calls as checking
use Rattle.link_out.specs.declared.calls.Call.{Call}
use Rattle.link_out.specs.declared.calls.Call.TheVariants as call
use Rattle.link_out.specs.declared.calls.Reply.{Reply}
use Rattle.link_out.specs.declared.calls.Reply.TheVariants as vr

-- document 01's number and values for every reply
abbrev pub answer_of : Reply → Answer
answer_of (vr.Called r) = plain.answer_of r
answer_of (vr.Stepped r) = stepping.answer_of r
answer_of (vr.Acknowledged r) = acknowledging.answer_of r
answer_of (vr.Checked r) = checking.answer_of r
answer_of (vr.Throttled r) = throttling.answer_of r

abbrev pub calls_out : Settings → Call → Peer → Outcome Peer
calls_out s call.Ping p = pings s p
calls_out s (call.Send channel length flags) p = sends s channel length flags p
calls_out s (call.Setup piece) p = sets_up s piece p
calls_out s (call.SendStep queue time) p = stepping.steps s queue time p
calls_out s (call.Acknowledgement channel number sent clock) p = acknowledging.acknowledges s channel number.0 sent clock p
calls_out s (call.TimeoutCheck clock) p = checking.checks s clock p
calls_out s (call.Throttle sample) p = throttling.throttles s sample p

-- which kind of reply a call has, and which kind one is
abbrev pub kind_of : Call → ℕ
kind_of call.Ping = 0
kind_of (call.Send channel length flags) = 0
kind_of (call.Setup piece) = 0
kind_of (call.SendStep queue time) = 1
kind_of (call.Acknowledgement channel number sent clock) = 2
kind_of (call.TimeoutCheck clock) = 3
kind_of (call.Throttle sample) = 4

abbrev pub kind_in : Reply → ℕ
kind_in (vr.Called r) = 0
kind_in (vr.Stepped r) = 1
kind_in (vr.Acknowledged r) = 2
kind_in (vr.Checked r) = 3
kind_in (vr.Throttled r) = 4

-- a head that a send step replies is named by its byte
abbrev pub NamedIn : Reply → Type 0
NamedIn (vr.Called r) = Unit {0}
NamedIn (vr.Stepped r) = stepping.Named r
NamedIn (vr.Acknowledged r) = Unit {0}
NamedIn (vr.Checked r) = Unit {0}
NamedIn (vr.Throttled r) = Unit {0}

-- a reply is of its call's kind, and its head is named: without it two replies could share an answer
pub record Own (c : Call) (r : Reply) : Type 0 where
  pub kind : kind_in r ≡ kind_of c
  pub named : NamedIn r
