-- The reliable arrival, on record and store: passed over by its number, in state 6 passed over too, then 8. "Else stored before the first held one
-- that is farther, its length added likewise, then dispatched by the source's rule".
use Rattle.std.specs.Prelude.{ℕ, Bool, List, length, slice_index_or, slice_set}
use Rattle.numbers.specs.Pick.{pick}
use Rattle.record.specs.Fresh.{no_channel}
use Rattle.record.specs.declared.groups.Channel.{Channel}
use Rattle.peer.specs.Outcome.{State, Outcome}
use Rattle.peer.specs.Gate.{behind, gated}
use Rattle.peer.specs.declared.settings.Settings.{Settings}
use Rattle.peer.specs.declared.Peer.{Peer}
use Rattle.peer.specs.declared.gate.Lent.TheVariants.{Store}
use Rattle.dispatch.specs.Dispatching.{dispatched_by}
use Rattle.dispatch.specs.Dispatching.{Dispatched}
use Rattle.arrival.specs.Arrivals.{answer_of, arrival_gate, room_of, reply_of, arrived_slot, stored_at}
use Rattle.arrival.specs.declared.Arrival.{Arrival}
use Rattle.arrival.specs.declared.Fate.{Fate}
use Rattle.arrival.specs.declared.Fate.TheVariants as fate
use Rattle.arrive_reliable.specs.Holding.{is_passed, held_with}

-- command 6 brings a reliable packet
abbrev pub send_reliable : ℕ
send_reliable = 6

abbrev pub channel_of : Arrival → Peer → Channel
channel_of a p = slice_index_or p.channels a.channel no_channel

-- slot s joins the channel's list, and what is ready then joins dispatched
abbrev pub dispatched_with : ℕ → Arrival → Peer → Dispatched
dispatched_with s a p =
    dispatched_by (slice_set p.incoming s (arrived_slot a)) (held_with p.incoming (channel_of a p) a.number.0 s) p.lists p.unsequenced

-- what a fate leaves
abbrev pub reliable_after : Fate → Arrival → List ℕ → State → State
reliable_after fate.Passed a datagram x = x
reliable_after fate.NoRoom a datagram x = x
reliable_after (fate.Stored s) a datagram x =
    let d = dispatched_with s a x.peer in
    stored_at s a datagram x d.lists d.unsequenced (slice_set x.peer.channels a.channel d.channel)

-- room says what becomes of one that is not passed over by its number
abbrev pub fate_of : Bool → Fate → Fate
fate_of passed room = pick passed fate.Passed room

abbrev pub fate_on : Settings → Arrival → Peer → Fate
fate_on s a p = fate_of (is_passed p.incoming (channel_of a p) a.number.0) (room_of s p)

abbrev pub reliable_sound : Settings → Arrival → List ℕ → State → Outcome State
reliable_sound s a datagram x =
    let f = fate_on s a x.peer in
    behind (arrival_gate send_reliable a s x.peer.standing (length datagram)) x
    (record { answer = answer_of (reply_of f); after = reliable_after f a datagram x })

abbrev pub arrives_reliable : Settings → Arrival → List ℕ → State → Outcome State
arrives_reliable s a datagram x = gated s (Store (length x.store)) x.peer x (reliable_sound s a datagram x)
