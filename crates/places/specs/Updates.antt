-- The record with another group, where the peer's own updates have none; a channel of it.
use Rattle.std.specs.Prelude.{ℕ, List, get_or}
use Rattle.record.specs.Fresh.{no_channel}
use Rattle.record.specs.declared.groups.Trips.{Trips}
use Rattle.record.specs.declared.groups.Channel.{Channel}
use Rattle.record.specs.declared.groups.Incoming.{Incoming}
use Rattle.peer.specs.Updates.{with_heard, with_arrival}
use Rattle.peer.specs.declared.Peer.{Peer}
use Rattle.places.specs.declared.channels.Numbers.{Numbers}
use Rattle.record.specs.declared.groups.Ids.{Ids}
use Rattle.record.specs.declared.groups.Bandwidth.{Bandwidth}
use Rattle.record.specs.declared.groups.Limits.{Limits}

abbrev pub with_trips : Peer → Trips → Peer
with_trips p x = with_heard p p.times p.throttling x p.flow p.lists

abbrev pub with_incoming : Peer → List Incoming → Peer
with_incoming p x = with_arrival p p.lists p.unsequenced p.waiting p.channels x

abbrev pub channel_at : Peer → ℕ → Channel
channel_at p i = get_or p.channels i no_channel

-- a channel without its list
abbrev pub numbers_of : Channel → Numbers
numbers_of c =
    record {
      outgoing_reliable = c.outgoing_reliable;
      outgoing_unreliable = c.outgoing_unreliable;
      incoming_reliable = c.incoming_reliable;
      incoming_unreliable = c.incoming_unreliable;
    }

-- the groups that no call but reset changes
abbrev pub with_fixed : Peer → Ids → Bandwidth → Limits → Peer
with_fixed p ids bandwidth limits =
    record {
      ids = ids;
      standing = p.standing;
      bandwidth = bandwidth;
      totals = p.totals;
      times = p.times;
      loss = p.loss;
      throttling = p.throttling;
      limits = limits;
      trips = p.trips;
      flow = p.flow;
      lists = p.lists;
      unsequenced = p.unsequenced;
      waiting = p.waiting;
      channels = p.channels;
      outgoing = p.outgoing;
      incoming = p.incoming;
      marks = p.marks;
    }
