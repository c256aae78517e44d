-- The lists of the record by name, and where they stand among the lent numbers.
use Rattle.std.specs.Prelude.{ℕ, ◌+◌, ◌*◌, set}
use Rattle.record.specs.declared.outgoing.OutList.{OutList}
use Rattle.record.specs.declared.incoming.InList.{InList}
use Rattle.record.specs.declared.groups.Lists.{Lists}
use Rattle.record.specs.Updates.{with_sent_list, with_reliable_list, with_outgoing_list, with_dispatched, with_held}
use Rattle.peer.specs.Updates.{with_lists, with_channels}
use Rattle.peer.specs.declared.Peer.{Peer}
use Rattle.places.specs.Updates.{channel_at}
use Rattle.queues.specs.declared.Out.{Out}
use Rattle.queues.specs.declared.Out.TheVariants as out

-- a list of the outgoing pool
abbrev pub out_of : Out → Lists → OutList
out_of out.Sent l = l.sent
out_of out.Reliable l = l.send_reliable
out_of out.Outgoing l = l.outgoing

abbrev pub with_out : Out → Lists → OutList → Lists
with_out out.Sent l x = with_sent_list l x
with_out out.Reliable l x = with_reliable_list l x
with_out out.Outgoing l x = with_outgoing_list l x

abbrev pub place_of : Out → ℕ
place_of out.Sent = 43
place_of out.Reliable = 76
place_of out.Outgoing = 109

-- the record with another such list
abbrev pub put_out : Out → Peer → OutList → Peer
put_out o p x = with_lists p (with_out o p.lists x)

-- with another list of what was dispatched
abbrev pub put_dispatched : Peer → InList → Peer
put_dispatched p x = with_lists p (with_dispatched p.lists x)

-- the list that channel i holds, and another
abbrev pub held_of : Peer → ℕ → InList
held_of p i = (channel_at p i).held

abbrev pub put_held : Peer → ℕ → InList → Peer
put_held p i x = with_channels p (set p.channels i (with_held (channel_at p i) x))

abbrev pub held_place : ℕ → ℕ
held_place i = 194 + i * 17 + 4
