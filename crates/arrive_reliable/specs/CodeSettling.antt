-- The record after a slot joined a channel's list, with its length awaited, and what was ready then joined dispatched.
use Rattle.std.specs.Prelude.{ℕ, slice_set}
use Rattle.record.specs.declared.groups.Incoming.{Incoming}
use Rattle.record.specs.declared.groups.Waiting.{Waiting}
use Rattle.peer.specs.Updates.{with_arrival}
use Rattle.peer.specs.declared.Peer.{Peer}
use Rattle.places.specs.Updates.{channel_at}
use Rattle.dispatch.specs.Dispatching.{dispatched_by}
use Rattle.arrive_reliable.specs.Holding.{held_with}

abbrev pub settled_on : ℕ → ℕ → ℕ → Incoming → Waiting → Peer → Peer
settled_on i n s slot waiting p =
    let d = dispatched_by (slice_set p.incoming s slot) (held_with p.incoming (channel_at p i) n s) p.lists p.unsequenced in
    with_arrival p d.lists d.unsequenced waiting (slice_set p.channels i d.channel) (slice_set p.incoming s slot)
