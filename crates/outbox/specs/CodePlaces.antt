-- Setting up on the lent record: the outbox keeps no lists and no marks, they change in their places. Only the code's own, as the outbox is.
use Rattle.std.specs.Prelude.{ℕ, List, slice_set}
use Rattle.numbers.specs.Modulo.{sum}
use Rattle.record.specs.Updates.{with_outgoing_total, with_queued, with_reliable, with_outgoing_group}
use Rattle.record.specs.declared.groups.Lists.{Lists}
use Rattle.peer.specs.Updates.{with_totals, with_waiting, with_flow, with_lists, with_unsequenced, with_channels, with_outgoing}
use Rattle.peer.specs.declared.Peer.{Peer}
use Rattle.outbox.specs.Counting.{numbered}
use Rattle.outbox.specs.Pieces.{grown}
use Rattle.outbox.specs.declared.counting.Counters.{Counters}
use Rattle.outbox.specs.declared.pieces.Piece.{Piece}
use Rattle.outbox.specs.CodeOutboxes.{Outbox}
use Rattle.outbox.specs.CodeOutboxes.{Queued}
use Rattle.outbox.specs.declared.Outbox as lent

-- the outbox of the record whose lists these are, with these marks
abbrev pub in_lists : lent.Outbox → List ℕ → Lists → Outbox
in_lists o marks l = record { total = o.total; queued = o.queued; counters = o.counters; lists = l; marks = marks }

-- it once a piece is in a slot, with the counters that it left
abbrev pub placed : lent.Outbox → Piece → Counters → lent.Outbox
placed o x k = record { total = grown o.total x; queued = sum 32 o.queued 1; counters = k }

-- the record with a piece set up: its lists, and the slot in the pool
abbrev pub queued_by : Peer → Queued → Peer
queued_by p q = with_outgoing (with_lists p q.outbox.lists) (slice_set p.outgoing q.at q.slot)

-- the record with other counters: the peer's own, its group, a channel's two
abbrev pub recounted : Peer → ℕ → Counters → Peer
recounted p channel k =
    with_channels
    (with_unsequenced (with_flow p (with_reliable p.flow k.own)) (with_outgoing_group p.unsequenced k.group))
    (numbered p.channels channel k)

-- the record with an outbox's numbers
abbrev pub closed : Peer → ℕ → lent.Outbox → Peer
closed p channel o =
    recounted
    (with_waiting (with_totals p (with_outgoing_total p.totals o.total)) (with_queued p.waiting o.queued))
    channel
    o.counters
