-- A group of the record with another number in it, or another list: what is not named stays as it is.
use Rattle.std.specs.Prelude.{ℕ, List}
use Rattle.numbers.specs.declared.counters.Reliable.{Reliable}
use Rattle.numbers.specs.declared.counters.Unreliable.{Unreliable}
use Rattle.numbers.specs.declared.counters.Group.{Group}
use Rattle.record.specs.Lists.{outgoing, incoming, out_items, out_keep, in_items, in_keep}
use Rattle.cells.specs.Runs.{pushed, without}
use Rattle.record.specs.declared.outgoing.OutList.{OutList}
use Rattle.record.specs.declared.incoming.InList.{InList}
use Rattle.record.specs.declared.groups.Standing.{Standing}
use Rattle.record.specs.declared.groups.Totals.{Totals}
use Rattle.record.specs.declared.groups.Times.{Times}
use Rattle.record.specs.declared.groups.Loss.{Loss}
use Rattle.record.specs.declared.groups.Throttling.{Throttling}
use Rattle.record.specs.declared.groups.Trips.{Trips}
use Rattle.record.specs.declared.groups.Flow.{Flow}
use Rattle.record.specs.declared.groups.Lists.{Lists}
use Rattle.record.specs.declared.groups.Unsequenced.{Unsequenced}
use Rattle.record.specs.declared.groups.Waiting.{Waiting}
use Rattle.record.specs.declared.groups.Channel.{Channel}
use Rattle.record.specs.declared.groups.Outgoing.{Outgoing}

abbrev pub with_state : Standing → ℕ → Standing
with_state s x = record { state = x; channels = s.channels }

abbrev pub with_count : Standing → ℕ → Standing
with_count s x = record { state = s.state; channels = x }

abbrev pub with_outgoing_total : Totals → ℕ → Totals
with_outgoing_total t x = record { incoming = t.incoming; outgoing = x }

abbrev pub with_next_timeout : Times → ℕ → Times
with_next_timeout t x =
    record {
      last_send = t.last_send;
      last_receive = t.last_receive;
      next_timeout = x;
      earliest_timeout = t.earliest_timeout;
    }

-- the next timeout, and the earliest
abbrev pub with_timeouts : Times → ℕ → ℕ → Times
with_timeouts t next earliest =
    record { last_send = t.last_send; last_receive = t.last_receive; next_timeout = next; earliest_timeout = earliest }

-- the last receive, and the earliest timeout
abbrev pub with_receive : Times → ℕ → ℕ → Times
with_receive t last earliest =
    record { last_send = t.last_send; last_receive = last; next_timeout = t.next_timeout; earliest_timeout = earliest }

abbrev pub with_packets_sent : Loss → ℕ → Loss
with_packets_sent l x = record { epoch = l.epoch; sent = x; lost = l.lost; loss = l.loss; variance = l.variance }

abbrev pub with_packets_lost : Loss → ℕ → Loss
with_packets_lost l x = record { epoch = l.epoch; sent = l.sent; lost = x; loss = l.loss; variance = l.variance }

-- the throttle's value, and the epoch of its interval
abbrev pub with_value : Throttling → ℕ → Throttling
with_value t x =
    record {
      value = x;
      limit = t.limit;
      counter = t.counter;
      epoch = t.epoch;
      acceleration = t.acceleration;
      deceleration = t.deceleration;
      interval = t.interval;
    }

abbrev pub with_epoch : Throttling → ℕ → Throttling
with_epoch t x =
    record {
      value = t.value;
      limit = t.limit;
      counter = t.counter;
      epoch = x;
      acceleration = t.acceleration;
      deceleration = t.deceleration;
      interval = t.interval;
    }

-- the round trip and its variance
abbrev pub with_trip : Trips → ℕ → ℕ → Trips
with_trip t now variance =
    record {
      last = t.last;
      lowest = t.lowest;
      last_variance = t.last_variance;
      highest_variance = t.highest_variance;
      mean = now;
      variance = variance;
    }

-- the lowest round trip and the highest variance
abbrev pub with_extremes : Trips → ℕ → ℕ → Trips
with_extremes t lowest highest =
    record {
      last = t.last;
      lowest = lowest;
      last_variance = t.last_variance;
      highest_variance = highest;
      mean = t.mean;
      variance = t.variance;
    }

abbrev pub with_mtu : Flow → ℕ → Flow
with_mtu f x = record { mtu = x; window = f.window; transit = f.transit; own_number = f.own_number }

abbrev pub with_transit : Flow → ℕ → Flow
with_transit f x = record { mtu = f.mtu; window = f.window; transit = x; own_number = f.own_number }

abbrev pub with_reliable : Flow → Reliable → Flow
with_reliable f x = record { mtu = f.mtu; window = f.window; transit = f.transit; own_number = x }

abbrev pub with_sent_list : Lists → OutList → Lists
with_sent_list l x = record { sent = x; send_reliable = l.send_reliable; outgoing = l.outgoing; dispatched = l.dispatched }

abbrev pub with_reliable_list : Lists → OutList → Lists
with_reliable_list l x = record { sent = l.sent; send_reliable = x; outgoing = l.outgoing; dispatched = l.dispatched }

abbrev pub with_outgoing_list : Lists → OutList → Lists
with_outgoing_list l x = record { sent = l.sent; send_reliable = l.send_reliable; outgoing = x; dispatched = l.dispatched }

abbrev pub with_outgoing_group : Unsequenced → Group → Unsequenced
with_outgoing_group g x =
    record { flags = g.flags; reserved = g.reserved; incoming = g.incoming; outgoing = x; words = g.words }

-- the base and the words of the unsequenced window
abbrev pub with_window : Unsequenced → Group → List ℕ → Unsequenced
with_window g base words =
    record { flags = g.flags; reserved = g.reserved; incoming = base; outgoing = g.outgoing; words = words }

abbrev pub with_flags : Unsequenced → ℕ → Unsequenced
with_flags g x = record { flags = x; reserved = g.reserved; incoming = g.incoming; outgoing = g.outgoing; words = g.words }

abbrev pub with_dispatched : Lists → InList → Lists
with_dispatched l x = record { sent = l.sent; send_reliable = l.send_reliable; outgoing = l.outgoing; dispatched = x }

abbrev pub with_total : Waiting → ℕ → Waiting
with_total w x = record { event = w.event; total = x; queued = w.queued }

abbrev pub with_queued : Waiting → ℕ → Waiting
with_queued w x = record { event = w.event; total = w.total; queued = x }

-- a channel's two outgoing numbers
abbrev pub with_numbers : Channel → Reliable → Unreliable → Channel
with_numbers c r u =
    record {
      outgoing_reliable = r;
      outgoing_unreliable = u;
      incoming_reliable = c.incoming_reliable;
      incoming_unreliable = c.incoming_unreliable;
      held = c.held;
    }

-- its two incoming numbers
abbrev pub with_last : Channel → Reliable → Unreliable → Channel
with_last c r u =
    record {
      outgoing_reliable = c.outgoing_reliable;
      outgoing_unreliable = c.outgoing_unreliable;
      incoming_reliable = r;
      incoming_unreliable = u;
      held = c.held;
    }

abbrev pub with_held : Channel → InList → Channel
with_held c x =
    record {
      outgoing_reliable = c.outgoing_reliable;
      outgoing_unreliable = c.outgoing_unreliable;
      incoming_reliable = c.incoming_reliable;
      incoming_unreliable = c.incoming_unreliable;
      held = x;
    }

-- a slot's sent time, timeout and attempts
abbrev pub with_attempt : Outgoing → ℕ → ℕ → ℕ → Outgoing
with_attempt o sent timeout attempts =
    record {
      reliable = o.reliable;
      unreliable = o.unreliable;
      sent = sent;
      timeout = timeout;
      queued = o.queued;
      offset = o.offset;
      length = o.length;
      attempts = attempts;
      packet = o.packet;
      command = o.command;
    }

abbrev pub with_timeout : Outgoing → ℕ → Outgoing
with_timeout o x = with_attempt o o.sent x o.attempts

-- a list of the outgoing pool with a slot more at its end, and without its head
abbrev pub longer : OutList → ℕ → OutList
longer l s = out_keep l (pushed outgoing (out_items l) s)

abbrev pub shorter : OutList → OutList
shorter l = out_keep l (without (out_items l) 0)

-- and of the incoming pool
abbrev pub in_longer : InList → ℕ → InList
in_longer l s = in_keep l (pushed incoming (in_items l) s)

abbrev pub in_shorter : InList → InList
in_shorter l = in_keep l (without (in_items l) 0)
