-- What sending a command changes: "it gets attempts +1 (held at 65,535), the sent time, and, if its timeout is 0, round trip + 4 × variance
-- modulo 2^32; packets sent +1. Acknowledged: it joins sent at the end, in-transit grows by the packet's piece length; if sent was empty,
-- next timeout is sent time + timeout. Others free their slot."
use Rattle.std.specs.Prelude.{ℕ, ◌+◌, min, Bool, List, ◌==◌, slice_index_or, slice_set}
use Rattle.numbers.specs.Pick.{pick}
use Rattle.numbers.specs.Modulo.{sum}
use Rattle.numbers.specs.Wrapping.{round_trip_timeout}
use Rattle.cells.specs.Runs.{is_empty}
use Rattle.record.specs.Lists.{out_items}
use Rattle.record.specs.declared.outgoing.OutList.{OutList}
use Rattle.record.specs.Fresh.{no_outgoing}
use Rattle.record.specs.Updates.{with_next_timeout, with_packets_sent, with_transit, with_sent_list, with_reliable_list, with_outgoing_list, with_attempt, longer, shorter}
use Rattle.record.specs.declared.groups.Times.{Times}
use Rattle.record.specs.declared.groups.Loss.{Loss}
use Rattle.record.specs.declared.groups.Trips.{Trips}
use Rattle.record.specs.declared.groups.Flow.{Flow}
use Rattle.record.specs.declared.groups.Lists.{Lists}
use Rattle.record.specs.declared.groups.Outgoing.{Outgoing}
use Rattle.peer.specs.Updates.{with_times, with_loss, with_flow, with_lists, with_outgoing}
use Rattle.peer.specs.declared.Peer.{Peer}
use Rattle.command.specs.Flags.{acknowledged}
use Rattle.send_step.specs.declared.heads.Queue.{Queue}
use Rattle.send_step.specs.declared.heads.Queue.TheVariants as queue

abbrev pub list_of : Queue → Lists → OutList
list_of queue.Outgoing l = l.outgoing
list_of queue.Reliable l = l.send_reliable

-- attempts +1 (held at 65,535), the sent time, and the timeout if it is 0
abbrev pub attempted : Outgoing → Trips → ℕ → Outgoing
attempted o trips time =
    with_attempt o time (pick (o.timeout == 0) (round_trip_timeout trips.mean trips.variance) o.timeout)
    (min (o.attempts + 1) 65535)

-- packets sent +1
abbrev pub packet_sent : Loss → Loss
packet_sent l = with_packets_sent l (sum 32 l.sent 1)

abbrev pub is_acknowledged : Outgoing → Bool
is_acknowledged o = acknowledged o.command.byte

-- the head leaves its list
abbrev pub without_head : Queue → Lists → Lists
without_head queue.Outgoing l = with_outgoing_list l (shorter l.outgoing)
without_head queue.Reliable l = with_reliable_list l (shorter l.send_reliable)

-- acknowledged, it joins sent at the end
abbrev pub lists_sent : Queue → Lists → ℕ → Outgoing → Lists
lists_sent q l s o = pick (is_acknowledged o) (with_sent_list (without_head q l) (longer l.sent s)) (without_head q l)

-- in-transit grows by the packet's piece length
abbrev pub carrying : Flow → Outgoing → Flow
carrying f o = with_transit f (pick o.packet (sum 32 f.transit o.length) f.transit)

abbrev pub flow_sent : Flow → Outgoing → Flow
flow_sent f o = pick (is_acknowledged o) (carrying f o) f

-- if sent was empty, next timeout is sent time + timeout
abbrev pub timing : Times → List ℕ → Outgoing → Times
timing t sent o = with_next_timeout t (pick (is_empty sent) (sum 32 o.sent o.timeout) t.next_timeout)

abbrev pub times_sent : Times → List ℕ → Outgoing → Times
times_sent t sent o = pick (is_acknowledged o) (timing t sent o) t

-- slot s at the head of its list, as it goes out
abbrev pub head : Peer → ℕ → ℕ → Outgoing
head p s time = attempted (slice_index_or p.outgoing s no_outgoing) p.trips time

-- and the record then
unfoldable pub sent_as : Queue → ℕ → Outgoing → Peer → Peer
sent_as q s o p =
    with_outgoing
    (with_lists
    (with_flow (with_loss (with_times p (times_sent p.times (out_items p.lists.sent) o)) (packet_sent p.loss)) (flow_sent p.flow o))
    (lists_sent q p.lists s o))
    (slice_set p.outgoing s o)
