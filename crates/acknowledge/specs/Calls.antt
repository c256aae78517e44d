-- "Acknowledgement: states 0 and 9 pass over, nothing changed. The 16-bit sent time is completed from the clock as in the source; a clock minus it
-- of 86,400,000 or more (modulo 2^32) passes over, unchanged. Sample: that difference, at least 1. All else follows exactly as the source orders it.
-- States 2, 7 and 6 answer connect, disconnect, or disconnect now (6: only with all three outgoing lists empty)."
use Rattle.std.specs.Prelude.{ℕ, true, Option, [], ◌∷◌, ◌==◌, nat_lt, Some, None, Result, Ok, Err}
use Rattle.numbers.specs.Pick.{pick}
use Rattle.numbers.specs.Answers.{Answer, done, refused}
use Rattle.numbers.specs.Clock.{trip_of}
use Rattle.numbers.specs.declared.refusals.Refusal.{Refusal}
use Rattle.numbers.specs.declared.refusals.Refusal.TheVariants.{NotRemoved}
use Rattle.record.specs.Lists.{out_items}
use Rattle.cells.specs.Runs.{first, is_empty}
use Rattle.record.specs.Damage.{used_out}
use Rattle.record.specs.Updates.{with_receive}
use Rattle.record.specs.declared.groups.Times.{Times}
use Rattle.record.specs.declared.groups.Lists.{Lists}
use Rattle.peer.specs.Outcome.{Outcome}
use Rattle.peer.specs.Gate.{on_record}
use Rattle.peer.specs.States.{disconnected, acknowledging_connect, disconnect_later, disconnecting, zombie}
use Rattle.peer.specs.Updates.{with_heard}
use Rattle.peer.specs.declared.settings.Settings.{Settings}
use Rattle.peer.specs.declared.Peer.{Peer}
use Rattle.round_trip.specs.Interval.{measured}
use Rattle.std.specs.Prelude.{is_some}
use Rattle.acknowledge.specs.Removal.{spot_of, slot_at, held_by, lists_without, flow_without, times_without, command_at}
use Rattle.acknowledge.specs.declared.removal.Spot.{Spot}
use Rattle.acknowledge.specs.declared.Event.{Event}
use Rattle.acknowledge.specs.declared.Event.TheVariants as vr

-- 0 passed over, 1 done, 2 connect, 3 disconnect, 4 disconnect now
abbrev pub answer_of : Result Event Refusal → Answer
answer_of (Ok vr.Passed) = done (0 ∷ [])
answer_of (Ok vr.Done) = done (1 ∷ [])
answer_of (Ok vr.Connect) = done (2 ∷ [])
answer_of (Ok vr.Disconnect) = done (3 ∷ [])
answer_of (Ok vr.DisconnectNow) = done (4 ∷ [])
answer_of (Err why) = refused why

-- which round trip the acknowledgement shows, in this state
abbrev pub heard_in : ℕ → ℕ → ℕ → Option ℕ
heard_in state clock sent =
    pick (pick (state == disconnected) true (state == zombie)) None (trip_of clock sent)

-- the last receive time is the clock, at least 1; earliest timeout 0
abbrev pub received : ℕ → Times → Times
received clock t = with_receive t (pick (nat_lt 1 clock) clock 1) 0

-- commands 3 and 4 of public ENet
abbrev pub verify_connect : ℕ
verify_connect = 3

abbrev pub disconnect : ℕ
disconnect = 4

-- 10: "acknowledgement that removed no command 3 (state 2) or no 4 (state 7)"
abbrev pub removed_or : ℕ → ℕ → Event → Result Event Refusal
removed_or command wanted event = pick (command == wanted) (Ok event) (Err NotRemoved)

-- by the state as it was
abbrev pub event_in : ℕ → ℕ → Lists → Result Event Refusal
event_in state command left =
    pick (state == acknowledging_connect) (removed_or command verify_connect vr.Connect)
    (pick (state == disconnecting) (removed_or command disconnect vr.Disconnect)
    (pick (state == disconnect_later) (pick (is_empty (used_out left)) (Ok vr.DisconnectNow) (Ok vr.Done)) (Ok vr.Done)))

-- a sample taken, and the command at this spot removed; "all effects of the acknowledgement kept" with 10 too
abbrev pub heard_at : Option Spot → ℕ → ℕ → Peer → Outcome Peer
heard_at spot sample clock p =
    let m = measured (p.times.last_receive == 0) sample clock p.throttling p.trips in
    let slot = slot_at spot p.lists in
    let o = held_by p.outgoing slot in
    let left = lists_without spot p.lists in
    let head = first (out_items left.sent) in
    record {
      answer = answer_of (event_in p.standing.state (command_at (is_some slot) o) left);
      after =
          with_heard p (times_without (is_some slot) (is_some head) (held_by p.outgoing head) (received clock p.times))
          m.throttling m.trips (flow_without spot o p.flow) left;
    }

abbrev pub acknowledges_by : Option ℕ → ℕ → ℕ → ℕ → Peer → Outcome Peer
acknowledges_by None channel number clock p = record { answer = answer_of (Ok vr.Passed); after = p }
acknowledges_by (Some sample) channel number clock p = heard_at (spot_of p.outgoing number channel p.lists) sample clock p

abbrev pub acknowledges_sound : ℕ → ℕ → ℕ → ℕ → Peer → Outcome Peer
acknowledges_sound channel number sent clock p = acknowledges_by (heard_in p.standing.state clock sent) channel number clock p

abbrev pub acknowledges : Settings → ℕ → ℕ → ℕ → ℕ → Peer → Outcome Peer
acknowledges s channel number sent clock p = on_record s p (acknowledges_sound channel number sent clock p)
