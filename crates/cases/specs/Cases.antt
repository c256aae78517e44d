-- The cases that document 01 marks P, in one list: what the definitions give, beside what the document states.
-- The window's cases hold whatever its words and the store's bytes are, so the list takes them as given.
use Rattle.std.specs.Prelude.{ℕ, ◌≡◌, false, List, [], ◌∷◌, ◌++◌, map, ℤ, pos, negsuc, get_or, set, replicate}
use Rattle.numbers.specs.Clock.{sampled}
use Rattle.throttle.specs.Throttling.{value_after}
use Rattle.throttle.specs.Throttling.{answer_after as turn_after}
use Rattle.throttle.specs.declared.Throttle.{Throttle}
use Rattle.record.specs.Lists.{out_items, in_items}
use Rattle.record.specs.declared.incoming.InList.{InList}
use Rattle.record.specs.Fresh.{no_outgoing, no_channel}
use Rattle.record.specs.Updates.{with_window, with_held, with_last, with_value, with_total}
use Rattle.record.specs.declared.groups.Trips.{Trips}
use Rattle.record.specs.declared.groups.Incoming.{Incoming}
use Rattle.record.specs.declared.groups.Marks.{Marks}
use Rattle.peer.specs.Fresh.{fresh_peer}
use Rattle.peer.specs.States.{connected}
use Rattle.peer.specs.Outcome.{State, Outcome}
use Rattle.peer.specs.Updates.{with_unsequenced, with_arrival, with_heard, with_marks}
use Rattle.lifecycle.specs.Calls.{begins, sets_state}
use Rattle.peer.specs.declared.settings.Settings.{Settings}
use Rattle.peer.specs.declared.defaults.Kept.{Kept}
use Rattle.peer.specs.declared.Peer.{Peer}
use Rattle.round_trip.specs.Calls.{throttles}
use Rattle.acknowledge.specs.Calls.{acknowledges}
use Rattle.send.specs.Calls.{sends}
use Rattle.dispatch.specs.Calls.{dispatches}
use Rattle.arrival.specs.declared.Arrival.{Arrival}
use Rattle.arrive_unsequenced.specs.Calls.{arrives_unsequenced}

pub record Case : Type 0 where
  pub given : List ℤ
  pub stated : List ℤ

-- an acknowledgement's sent time at a clock: passed over 0, or 1 and the sample
abbrev sample : ℕ → ℕ → List ℤ
sample clock sent = (sampled clock sent).values

-- the throttle with the public defaults: its value and the source's answer
abbrev rolled : ℕ → ℕ → ℕ → ℕ → List ℤ
rolled last variance value trip =
    let t : Throttle = record { value = value; limit = 32; acceleration = 2; deceleration = 2; last = last; variance = variance } in
    pos (value_after t trip) ∷ turn_after t trip ∷ []

abbrev pub settings : ℕ → Settings
settings mtu = record { mtu = mtu; packet = 33554432; waiting = 33554432; checksum = false }

abbrev nobody : Kept
nobody = record { incoming_peer = 0; outgoing_session = 0; incoming_session = 0; reserved = 0; queued = 0 }

-- a peer as after a reset, begun with one channel and connected
abbrev opened : ℕ → Peer
opened mtu = (sets_state (settings mtu) connected (begins (settings mtu) mtu 1 (fresh_peer mtu nobody)).after).after

-- an acknowledgement on such a peer, to which it is the first: the reply's number and which, then the round trip and the last receive time
abbrev heard : Outcome Peer → List ℤ
heard o =
    pos o.answer.number ∷ (o.answer.values ++ map pos (o.after.trips.mean ∷ o.after.times.last_receive ∷ []))

abbrev hears : ℕ → ℕ → List ℤ
hears clock sent = heard (acknowledges (settings 576) 0 1 sent clock (opened 576))

-- such a peer with a last round trip, its variance and a throttle value
abbrev paced : ℕ → ℕ → ℕ → Peer
paced last variance value =
    let p = opened 576 in
    let t = p.trips in
    let trips : Trips = record {
      last = last;
      lowest = t.lowest;
      last_variance = variance;
      highest_variance = t.highest_variance;
      mean = t.mean;
      variance = t.variance;
    } in
    with_heard p p.times (with_value p.throttling value) trips p.flow p.lists

-- the throttle as a call on such a peer: the reply's number and which turn, then the value
abbrev turned : Outcome Peer → List ℤ
turned o = pos o.answer.number ∷ (o.answer.values ++ (pos o.after.throttling.value ∷ []))

abbrev paces : ℕ → ℕ → ℕ → ℕ → List ℤ
paces last variance value trip = turned (throttles (settings 576) trip (paced last variance value))

-- such a peer with a base and words; its store has any bytes, the second store and the datagram none
abbrev pub at : ℕ → List ℕ → List ℕ → State
at base words store =
    let p = opened 576 in record { peer = with_unsequenced p (with_window p.unsequenced (record { 0 = base }) words); store = store; second = [] }

-- an unsequenced packet of channel 0, without a payload
abbrev pub arrival : Arrival
arrival = record { byte = 73; channel = 0; number = record { 0 = 0 }; length = 0; place = 0 }

abbrev pub arrives : State → ℕ → Outcome State
arrives x g = arrives_unsequenced (settings 576) arrival (record { 0 = g }) [] x

-- 0 and which: passed over 0, stored 1; then the base, and the slots in dispatched
abbrev pub landed : Outcome State → List ℤ
landed o =
    pos o.answer.number
    ∷ (o.answer.values ++ map pos (o.after.peer.unsequenced.incoming.0 ∷ in_items o.after.peer.lists.dispatched))

-- the reply's number, then the lengths of what waits in send-reliable
abbrev waiting : Outcome Peer → List ℤ
waiting o =
    pos o.answer.number
    ∷ map (λ (s : ℕ). pos (get_or o.after.outgoing s no_outgoing).length) (out_items o.after.lists.send_reliable)

-- a reliable send on channel 0, without a checksum
abbrev queues : ℕ → ℕ → List ℤ
queues mtu length = waiting (sends (settings mtu) 0 length 1 (opened mtu))

-- a whole packet of channel 0 without bytes; C-11: and a complete block of so many fragments, which has a byte at least
abbrev came : ℕ → Incoming
came number = record { byte = 0; channel = 0; number = record { 0 = number }; fragments = 0; remaining = 0; length = 0 }

abbrev block : ℕ → ℕ → Incoming
block number fragments = record { byte = 0; channel = 0; number = record { 0 = number }; fragments = fragments; remaining = 0; length = 1 }

-- a peer whose channel 0 had the number `last` as its last and holds three, in slots 0, 1 and 2, of which one has a byte; C-11: with these marks
abbrev holding : ℕ → Marks → Incoming → Incoming → Incoming → Peer
holding last marks a b c =
    let p = with_marks (opened 576) marks in
    let three : InList = record { len = 3; slots = 0 ∷ 1 ∷ 2 ∷ replicate 9 0 } in
    with_arrival p p.lists p.unsequenced (with_total p.waiting 1)
    (set p.channels 0 (with_held (with_last no_channel (record { 0 = last }) (record { 0 = 0 })) three))
    (set (set (set p.incoming 0 a) 1 b) 2 c)

-- the reply's number, the last number of channel 0, then the slots in dispatched
abbrev moved : Outcome Peer → List ℤ
moved o =
    pos o.answer.number
    ∷ pos (get_or o.after.channels 0 no_channel).incoming_reliable.0
    ∷ map pos (in_items o.after.lists.dispatched)

abbrev pub cases : List ℕ → List ℕ → List Case
cases words store =
    record { given = landed (arrives (at 0 words store) 32767); stated = pos 0 ∷ pos 1 ∷ pos 31744 ∷ pos 0 ∷ [] }  -- P1
    ∷ record { given = landed (arrives (at 0 words store) 32768); stated = pos 0 ∷ pos 0 ∷ pos 0 ∷ [] }  -- P2
    ∷ record { given = landed (arrives (at 33792 words store) 5); stated = pos 0 ∷ pos 1 ∷ pos 0 ∷ pos 0 ∷ [] }  -- P3
    ∷ record { given = landed (arrives (at 32768 words store) 5); stated = pos 0 ∷ pos 0 ∷ pos 32768 ∷ [] }  -- P4
    ∷ record { given = sample 65541 6; stated = pos 0 ∷ [] }  -- P5
    ∷ record { given = sample 65541 5; stated = pos 1 ∷ pos 1 ∷ [] }  -- P6
    ∷ record { given = hears 65541 6; stated = pos 0 ∷ pos 0 ∷ pos 500 ∷ pos 0 ∷ [] }  -- P5 on the record
    ∷ record { given = hears 65541 5; stated = pos 0 ∷ pos 1 ∷ pos 1 ∷ pos 65541 ∷ [] }  -- P6 on the record
    ∷ record { given = rolled 100 10 32 121; stated = pos 30 ∷ negsuc 0 ∷ [] }  -- P7
    ∷ record { given = rolled 100 10 32 120; stated = pos 32 ∷ pos 0 ∷ [] }
    ∷ record { given = paces 100 10 32 121; stated = pos 0 ∷ negsuc 0 ∷ pos 30 ∷ [] }  -- P7 on the record
    ∷ record { given = paces 100 10 32 120; stated = pos 0 ∷ pos 0 ∷ pos 32 ∷ [] }
    ∷ record { given = queues 576 548; stated = pos 0 ∷ pos 548 ∷ [] }  -- P8
    ∷ record { given = queues 576 549; stated = pos 0 ∷ pos 548 ∷ pos 1 ∷ [] }
    ∷ record { given = moved (dispatches (settings 576) 0 (holding 65534 (record { low = 7; high = 0 }) (came 65535) (block 0 3) (came 3))); stated = pos 0 ∷ pos 3 ∷ pos 0 ∷ pos 1 ∷ pos 2 ∷ [] }  -- P9
    ∷ []

-- every case of a list gives what is stated
abbrev pub Hold : List Case → Type 0
Hold cs = map (λ (c : Case). c.given) cs ≡ map (λ (c : Case). c.stated) cs
