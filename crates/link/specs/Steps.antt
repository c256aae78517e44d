-- What each call of document 01 does, on the record and the stores that are lent; a call that is lent none of them leaves it as it is.
use Rattle.std.specs.Prelude.{ℕ, ◌+◌, ◌*◌, ◌≡◌, List}
use Rattle.numbers.specs.Answers.{Answer}
use Rattle.peer.specs.Calls as plain
use Rattle.peer.specs.Outcome.{State, Outcome}
use Rattle.peer.specs.declared.settings.Settings.{Settings}
use Rattle.lifecycle.specs.Calls.{resets, begins, sets_state}
use Rattle.link_out.specs.Steps as outward
use Rattle.link_in.specs.Steps as inward
use Rattle.link.specs.declared.calls.Call.{Call}
use Rattle.link.specs.declared.calls.Call.TheVariants as call
use Rattle.link.specs.declared.calls.Reply.{Reply}
use Rattle.link.specs.declared.calls.Reply.TheVariants as vr

-- document 01's number and values for every reply
abbrev pub answer_of : Reply → Answer
answer_of (vr.Called r) = plain.answer_of r
answer_of (vr.Outward r) = outward.answer_of r
answer_of (vr.Inward r) = inward.answer_of r

abbrev pub calls : Settings → Call → List ℕ → State → Outcome State
calls s call.Reset datagram x = inward.beside x (resets s x.peer)
calls s (call.Begin mtu channels) datagram x = inward.beside x (begins s mtu channels x.peer)
calls s (call.SetState state) datagram x = inward.beside x (sets_state s state x.peer)
calls s (call.Outward c) datagram x = inward.beside x (outward.calls_out s c x.peer)
calls s (call.Inward c) datagram x = inward.calls_in s c datagram x

-- which kind of reply a call has, and which kind one is: a side's are the odd ones, the other's the even ones
abbrev pub kind_of : Call → ℕ
kind_of call.Reset = 0
kind_of (call.Begin mtu channels) = 0
kind_of (call.SetState state) = 0
kind_of (call.Outward c) = 2 * outward.kind_of c + 1
kind_of (call.Inward c) = 2 * inward.kind_of c + 2

abbrev pub kind_in : Reply → ℕ
kind_in (vr.Called r) = 0
kind_in (vr.Outward r) = 2 * outward.kind_in r + 1
kind_in (vr.Inward r) = 2 * inward.kind_in r + 2

-- a head that a send step replies is named by its byte
abbrev pub NamedIn : Reply → Type 0
NamedIn (vr.Called r) = Unit {0}
NamedIn (vr.Outward r) = outward.NamedIn r
NamedIn (vr.Inward r) = Unit {0}

-- a reply is of its call's kind, and its head is named: without it two replies could share an answer
pub record Own (c : Call) (r : Reply) : Type 0 where
  pub kind : kind_in r ≡ kind_of c
  pub named : NamedIn r
