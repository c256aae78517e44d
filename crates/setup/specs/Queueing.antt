-- "Setting up follows the source": what a piece changes in the record, and pieces one after another.
use Rattle.std.specs.Prelude.{ℕ, List, [], ◌∷◌, set, None, Option, Some}
use Rattle.numbers.specs.Modulo.{sum}
use Rattle.record.specs.Lists.{outgoing}
use Rattle.cells.specs.Free.{lowest}
use Rattle.record.specs.Damage.{used_out}
use Rattle.record.specs.Updates.{with_outgoing_total, with_reliable, with_outgoing_group, with_queued}
use Rattle.record.specs.declared.groups.Outgoing.{Outgoing}
use Rattle.peer.specs.Updates.{with_totals, with_flow, with_lists, with_unsequenced, with_waiting, with_channels, with_outgoing}
use Rattle.peer.specs.declared.Peer.{Peer}
use Rattle.outbox.specs.Counting.{stamped, counters_at, numbered}
use Rattle.outbox.specs.Pieces.{slot_of, grown, lists_with}
use Rattle.record.specs.Room.{room_in}
use Rattle.outbox.specs.declared.counting.Stamped.{Stamped}
use Rattle.outbox.specs.declared.pieces.Piece.{Piece}

-- the free outgoing slots, counted
abbrev pub room : Peer → ℕ
room p = room_in p.lists

-- the counters that the piece's command steps, and its numbers
abbrev pub stamp_of : Piece → Peer → Stamped
stamp_of x p =
    let channel = x.command.channel in
    stamped x.command.byte channel x.offset (counters_at p.flow.own_number p.channels channel p.unsequenced.outgoing)

-- the host count steps before it becomes the queue time
abbrev pub queue_time : Peer → ℕ
queue_time p = sum 32 p.waiting.queued 1

-- the slot that setting up makes of a piece
abbrev pub made : Piece → Peer → Outgoing
made x p = slot_of x (stamp_of x p) (queue_time p)

-- the record with a piece in slot s: data total, counters, host count, the list that it joins, the slot
unfoldable pub queued_at : ℕ → Piece → Peer → Peer
queued_at s x p =
    let k = (stamp_of x p).counters in
    with_outgoing
    (with_lists
    (with_channels
    (with_unsequenced
    (with_flow
    (with_waiting (with_totals p (with_outgoing_total p.totals (grown p.totals.outgoing x))) (with_queued p.waiting (queue_time p)))
    (with_reliable p.flow k.own))
    (with_outgoing_group p.unsequenced k.group))
    (numbered p.channels x.command.channel k))
    (lists_with p.lists x s))
    (set p.outgoing s (made x p))

-- "the lowest free one is taken"; with none free, nothing is set up
abbrev pub queued_in : Option ℕ → Piece → Peer → Peer
queued_in (Some s) x p = queued_at s x p
queued_in None x p = p

unfoldable pub queued : Piece → Peer → Peer
queued x p = queued_in (lowest outgoing (used_out p.lists)) x p

-- one after another
unfoldable pub queued_all : List Piece → Peer → Peer
queued_all [] p = p
queued_all (x ∷ xs) p = queued_all xs (queued x p)
