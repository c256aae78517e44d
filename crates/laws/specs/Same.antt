-- The comparison of records that document 01 means: free slots, channels at or above the count and cells past a length do not count.
-- Two records are the same where what counts in them, their view, is equal. C-11: the marks count.
use Rattle.std.specs.Prelude.{ℕ, ◌≡◌, List, map, get_or}
use Rattle.numbers.specs.declared.counters.Reliable.{Reliable}
use Rattle.numbers.specs.declared.counters.Unreliable.{Unreliable}
use Rattle.record.specs.Lists.{out_items, in_items}
use Rattle.record.specs.declared.outgoing.OutList.{OutList}
use Rattle.record.specs.declared.incoming.InList.{InList}
use Rattle.record.specs.Fresh.{no_outgoing, no_incoming}
use Rattle.record.specs.Damage.{below}
use Rattle.record.specs.declared.groups.Ids.{Ids}
use Rattle.record.specs.declared.groups.Standing.{Standing}
use Rattle.record.specs.declared.groups.Bandwidth.{Bandwidth}
use Rattle.record.specs.declared.groups.Totals.{Totals}
use Rattle.record.specs.declared.groups.Times.{Times}
use Rattle.record.specs.declared.groups.Loss.{Loss}
use Rattle.record.specs.declared.groups.Throttling.{Throttling}
use Rattle.record.specs.declared.groups.Limits.{Limits}
use Rattle.record.specs.declared.groups.Trips.{Trips}
use Rattle.record.specs.declared.groups.Flow.{Flow}
use Rattle.record.specs.declared.groups.Unsequenced.{Unsequenced}
use Rattle.record.specs.declared.groups.Waiting.{Waiting}
use Rattle.record.specs.declared.groups.Channel.{Channel}
use Rattle.record.specs.declared.groups.Outgoing.{Outgoing}
use Rattle.record.specs.declared.groups.Incoming.{Incoming}
use Rattle.record.specs.declared.groups.Marks.{Marks}
use Rattle.peer.specs.declared.Peer.{Peer}

-- a list: its length, the slots that it names, and what they hold
pub record ListView (A : Type 0) : Type 0 where
  pub len : ℕ
  pub items : List ℕ
  pub slots : List A

pub record ChannelView : Type 0 where
  pub outgoing_reliable : Reliable
  pub outgoing_unreliable : Unreliable
  pub incoming_reliable : Reliable
  pub incoming_unreliable : Unreliable
  pub held : ListView Incoming

pub record View : Type 0 where
  pub ids : Ids
  pub standing : Standing
  pub bandwidth : Bandwidth
  pub totals : Totals
  pub times : Times
  pub loss : Loss
  pub throttling : Throttling
  pub limits : Limits
  pub trips : Trips
  pub flow : Flow
  pub sent : ListView Outgoing
  pub send_reliable : ListView Outgoing
  pub outgoing : ListView Outgoing
  pub dispatched : ListView Incoming
  pub unsequenced : Unsequenced
  pub waiting : Waiting
  pub channels : List ChannelView
  pub marks : Marks

abbrev pub out_view : List Outgoing → OutList → ListView Outgoing
out_view slots l =
    record { len = l.len; items = out_items l; slots = map (λ (s : ℕ). get_or slots s no_outgoing) (out_items l) }

abbrev pub in_view : List Incoming → InList → ListView Incoming
in_view slots l =
    record { len = l.len; items = in_items l; slots = map (λ (s : ℕ). get_or slots s no_incoming) (in_items l) }

abbrev pub channel_view : List Incoming → Channel → ChannelView
channel_view slots c =
    record {
      outgoing_reliable = c.outgoing_reliable;
      outgoing_unreliable = c.outgoing_unreliable;
      incoming_reliable = c.incoming_reliable;
      incoming_unreliable = c.incoming_unreliable;
      held = in_view slots c.held;
    }

unfoldable pub view : Peer → View
view p =
    record {
      ids = p.ids;
      standing = p.standing;
      bandwidth = p.bandwidth;
      totals = p.totals;
      times = p.times;
      loss = p.loss;
      throttling = p.throttling;
      limits = p.limits;
      trips = p.trips;
      flow = p.flow;
      sent = out_view p.outgoing p.lists.sent;
      send_reliable = out_view p.outgoing p.lists.send_reliable;
      outgoing = out_view p.outgoing p.lists.outgoing;
      dispatched = in_view p.incoming p.lists.dispatched;
      unsequenced = p.unsequenced;
      waiting = p.waiting;
      channels = map (channel_view p.incoming) (below p.channels p.standing.channels);
      marks = p.marks;
    }

abbrev pub Same : Peer → Peer → Type 0
Same p q = view p ≡ view q
