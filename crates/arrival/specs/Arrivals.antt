-- What both arrivals refuse, reply and store. "Order for every call: settings and store (11), record (13), then the table's order downward; an
-- arrival is passed over after 7 and before 8." A byte that names another command is refused with 9 straight after 13 (decision 81).
use Rattle.std.specs.Prelude.{ℕ, ◌+◌, ◌%◌, Bool, true, List, [], ◌∷◌, ◌==◌, nat_le, nat_lt, slice_set, ⊤, Result, Ok, Err, Option, Some, None}
use Rattle.numbers.specs.Pick.{pick, both}
use Rattle.numbers.specs.Answers.{Answer, done, refused}
use Rattle.numbers.specs.declared.refusals.Refusal.{Refusal}
use Rattle.numbers.specs.declared.refusals.Refusal.TheVariants.{NotReceiving, LengthTooLarge, NotStored, BadCommand}
use Rattle.record.specs.Sizes.{cell}
use Rattle.record.specs.declared.groups.Standing.{Standing}
use Rattle.record.specs.declared.groups.Lists.{Lists}
use Rattle.record.specs.declared.groups.Unsequenced.{Unsequenced}
use Rattle.record.specs.declared.groups.Channel.{Channel}
use Rattle.record.specs.declared.groups.Incoming.{Incoming}
use Rattle.peer.specs.Gate.{then}
use Rattle.peer.specs.Outcome.{State}
use Rattle.peer.specs.States.{connected, disconnect_later}
use Rattle.peer.specs.Updates.{with_arrival}
use Rattle.peer.specs.declared.settings.Settings.{Settings}
use Rattle.peer.specs.declared.Peer.{Peer}
use Rattle.arrival.specs.Storing.{free_slot, incoming_of, awaiting, filled}
use Rattle.arrival.specs.declared.Arrival.{Arrival}
use Rattle.arrival.specs.declared.Arrived.{Arrived}
use Rattle.arrival.specs.declared.Arrived.TheVariants as arrived
use Rattle.arrival.specs.declared.Fate.{Fate}
use Rattle.arrival.specs.declared.Fate.TheVariants as fate

-- "done, or passed over; the reply says which"
abbrev pub passed_over : Answer
passed_over = done (0 ∷ [])

abbrev pub stored : Answer
stored = done (1 ∷ [])

abbrev pub answer_of : Result Arrived Refusal → Answer
answer_of (Ok arrived.Passed) = passed_over
answer_of (Ok arrived.Stored) = stored
answer_of (Err why) = refused why

-- "The low four bits are the number"
abbrev pub names : ℕ → ℕ → Bool
names byte command = byte % 16 == command

-- else 6: "channel not below count, or state neither 5 nor 6"
abbrev pub is_receiving : ℕ → Standing → Bool
is_receiving channel standing =
    both (nat_lt channel standing.channels) (pick (standing.state == connected) true (standing.state == disconnect_later))

-- else 7: "length above the setting or 4,096, or past the datagram's end"
abbrev pub is_whole : Arrival → Settings → ℕ → Bool
is_whole a s end = both (nat_le a.length s.packet) (both (nat_le a.length cell) (nat_le (a.place + a.length) end))

abbrev pub arrival_gate : ℕ → Arrival → Settings → Standing → ℕ → Result ⊤ Refusal
arrival_gate command a s standing end =
    then (pick (names a.byte command) (Ok tt) (Err BadCommand))
    (then (pick (is_receiving a.channel standing) (Ok tt) (Err NotReceiving))
    (pick (is_whole a s end) (Ok tt) (Err LengthTooLarge)))

-- "the lowest free one is taken"
abbrev pub in_slot : Option ℕ → Fate
in_slot (Some s) = fate.Stored s
in_slot None = fate.NoRoom

-- what becomes of an arrival that its group or number does not pass over: in state 6 it is passed over all the same;
-- 8: "no incoming slot, or waiting total at or above the waiting setting"
abbrev pub room_for : Settings → ℕ → ℕ → Option ℕ → Fate
room_for s state total free = pick (state == disconnect_later) fate.Passed (pick (nat_le s.waiting total) fate.NoRoom (in_slot free))

-- of a record, in its lowest free slot
abbrev pub room_of : Settings → Peer → Fate
room_of s p = room_for s p.standing.state p.waiting.total (free_slot p.lists p.channels p.standing.channels)

abbrev pub reply_of : Fate → Result Arrived Refusal
reply_of fate.Passed = Ok arrived.Passed
reply_of fate.NoRoom = Err NotStored
reply_of (fate.Stored s) = Ok arrived.Stored

-- the slot of an arrival
abbrev pub arrived_slot : Arrival → Incoming
arrived_slot a = incoming_of a.byte a.channel a.number a.length

-- the packet in slot s and in its cell, its length awaited; lists, groups and channels are each arrival's own
abbrev pub stored_at : ℕ → Arrival → List ℕ → State → Lists → Unsequenced → List Channel → State
stored_at s a datagram x lists unsequenced channels =
    let p = x.peer in
    record {
      peer = with_arrival p lists unsequenced (awaiting p.waiting a.length) channels (slice_set p.incoming s (arrived_slot a));
      store = filled x.store s datagram a.place a.length;
      second = x.second;
    }
