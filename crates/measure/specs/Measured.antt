-- What a measured call tells, as one number, and what it leaves: the outcome of the call on the record that the numbers mean.
use Rattle.std.specs.Prelude.{ℕ, ◌+◌, ◌≡◌, false, eqb, get_or}
use Rattle.numbers.specs.Pick.{pick}
use Rattle.numbers.specs.Answers.{Answer, numbers_of}
use Rattle.command.specs.declared.fields.Fields.TheVariants.{Disconnect}
use Rattle.peer.specs.Outcome.{Outcome}
use Rattle.peer.specs.declared.settings.Settings.{Settings}
use Rattle.outbox.specs.declared.pieces.Piece.{Piece}
use Rattle.send_step.specs.declared.heads.Queue.{Queue}
use Rattle.send_step.specs.declared.heads.Queue.TheVariants as queue
use Rattle.arrival.specs.declared.Arrival.{Arrival}
use Rattle.arrive_fragment.specs.declared.Piece.{Piece as Brought}
use Rattle.link_out.specs.declared.calls.Call.TheVariants as out
use Rattle.link_in.specs.declared.calls.Call.TheVariants as inw
use Rattle.link.specs.declared.calls.Call.{Call}
use Rattle.link.specs.declared.calls.Call.TheVariants as call

-- the defaults, with this MTU: one that is out of range is how a refusal by 11 is measured
abbrev pub settings_of : ℕ → Settings
settings_of mtu = record { mtu = mtu; packet = 33554432; waiting = 33554432; checksum = false }

-- what is set up: a disconnect that asks for an answer, on the peer's own channel, with no packet
abbrev pub disconnecting : Piece
disconnecting =
    record {
      command = record { byte = 4 + 128; channel = 255; number = record { 0 = 0 }; fields = Disconnect 0 };
      packet = false;
      offset = 0;
      length = 0;
    }

abbrev pub queue_of : ℕ → Queue
queue_of list = pick (eqb list 0) queue.Outgoing queue.Reliable

-- commands 9 and 6, each with the flag that the source sends with it
abbrev pub unsequenced_of : ℕ → Arrival
unsequenced_of length = record { byte = 73; channel = 0; number = record { 0 = 0 }; length = length; place = 0 }

abbrev pub reliable_of : ℕ → ℕ → Arrival
reliable_of number length = record { byte = 134; channel = 0; number = record { 0 = number }; length = length; place = 0 }

-- command 8: a piece of a block of two that starts at 1
abbrev pub piece_of : ℕ → ℕ → ℕ → ℕ → Brought
piece_of length number total offset =
    record {
      byte = 136;
      channel = 0;
      number = record { 0 = 1 };
      start = record { 0 = 1 };
      fragment = record { length = length; count = 2; number = number; total = total; offset = offset };
      place = 0;
    }

-- a send on channel 0 as data
abbrev pub sending : ℕ → ℕ → Call
sending length flags = call.Outward (out.Send 0 length flags)

-- a call of a kind
abbrev pub call_of : ℕ → ℕ → ℕ → Call
call_of kind a b =
    pick (eqb kind 0) (sending a b)
    (pick (eqb kind 1) (call.Outward out.Ping)
    (pick (eqb kind 2) (call.Outward (out.TimeoutCheck a))
    (pick (eqb kind 3) (call.Inward (inw.Dispatch 0)) (pick (eqb kind 4) (call.Inward inw.Receive) (call.SetState a)))))

-- a refusal's number, which has no values; of what was done the first value, or 0
abbrev pub told : Answer → ℕ
told a = get_or (numbers_of a) 0 0 + a.number

pub record Measured {A : Type 0} (o : Outcome A) (number : ℕ) (left : A) : Type 0 where
  pub tells : number ≡ told o.answer
  pub leaves : left ≡ o.after
