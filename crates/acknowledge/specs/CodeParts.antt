-- For functions inside the house alone: the record after each part of an acknowledgement. Nothing here need be believed: proofs/Changes gives the rule back.
use Rattle.std.specs.Prelude.{ℕ, Bool, Option, ◌==◌}
use Rattle.cells.specs.Runs.{first}
use Rattle.record.specs.Lists.{out_items}
use Rattle.peer.specs.Updates.{with_times, with_throttling, with_flow, with_lists}
use Rattle.peer.specs.declared.Peer.{Peer}
use Rattle.places.specs.Updates.{with_trips}
use Rattle.round_trip.specs.Interval.{measured}
use Rattle.std.specs.Prelude.{is_some}
use Rattle.acknowledge.specs.Removal.{lists_without, held_by, flow_without, times_without}
use Rattle.acknowledge.specs.declared.removal.Spot.{Spot}
use Rattle.acknowledge.specs.Calls.{received}

-- a sample taken
abbrev pub measured_in : ℕ → ℕ → Peer → Peer
measured_in sample clock p =
    let m = measured (p.times.last_receive == 0) sample clock p.throttling p.trips in
    with_trips (with_throttling p m.throttling) m.trips

-- the command at this spot removed; its slot is given
abbrev pub freed_in : Option Spot → Option ℕ → Peer → Peer
freed_in w slot p = with_lists (with_flow p (flow_without w (held_by p.outgoing slot) p.flow)) (lists_without w p.lists)

-- the times, by what is left in sent
abbrev pub timed_in : Bool → ℕ → Peer → Peer
timed_in removed clock p =
    let head = first (out_items p.lists.sent) in
    with_times p (times_without removed (is_some head) (held_by p.outgoing head) (received clock p.times))
