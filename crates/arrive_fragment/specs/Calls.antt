-- The arrival of a piece, C-11, on the record and both stores: refused by 11, 13, 9, 6 and 7 as the other arrivals, then by what becomes of it.
-- "A block .. is assembled in a second lent store of that size and an incoming slot .. its total counts as waiting from the first piece, which first sets that store
-- to 0 .. The block is complete exactly when all count pieces are marked, and is then dispatched in its turn."
use Rattle.std.specs.Prelude.{ℕ, List, eqb, length, get_or, set, replicate}
use Rattle.numbers.specs.Pick.{pick}
use Rattle.record.specs.Fresh.{no_incoming}
use Rattle.record.specs.Marks.{with_piece}
use Rattle.blocks.specs.Blocks.{block_of, one_less}
use Rattle.peer.specs.Outcome.{State, Outcome}
use Rattle.peer.specs.Gate.{behind, gated}
use Rattle.peer.specs.Updates.{with_arrival, with_marks}
use Rattle.peer.specs.declared.settings.Settings.{Settings}
use Rattle.peer.specs.declared.Peer.{Peer}
use Rattle.peer.specs.declared.gate.Lent.TheVariants.{Both}
use Rattle.places.specs.Updates.{with_incoming}
use Rattle.arrival.specs.Storing.{awaiting, laid}
use Rattle.arrival.specs.Arrivals.{answer_of, arrival_gate}
use Rattle.arrival.specs.declared.Arrival.{Arrival}
use Rattle.dispatch.specs.Calls.{dispatched_on}
use Rattle.arrive_reliable.specs.Holding.{held_with}
use Rattle.arrive_fragment.specs.Pieces.{channel_of, fate_on, reply_of}
use Rattle.arrive_fragment.specs.declared.Piece.{Piece}
use Rattle.arrive_fragment.specs.declared.Fate.{Fate}
use Rattle.arrive_fragment.specs.declared.Fate.TheVariants as fate

-- command 8 brings a piece
abbrev pub send_fragment : ℕ
send_fragment = 8

-- the piece as an arrival of its own length
abbrev pub arrival_of : Piece → Arrival
arrival_of a =
    record { byte = a.byte; channel = a.channel; number = a.start; length = a.fragment.length; place = a.place }

-- "First piece": the block's slot, in the channel's list by its start, its total awaited
abbrev pub opened_on : ℕ → Piece → Peer → Peer
opened_on n a p =
    with_arrival p p.lists p.unsequenced (awaiting p.waiting a.fragment.total)
    (set p.channels a.channel (held_with p.incoming (channel_of a p) a.start.0 n))
    (set p.incoming n (block_of a.byte a.channel a.start a.fragment))

-- "Every piece": its mark, and one less remains
abbrev pub pieced_on : ℕ → Piece → Peer → Peer
pieced_on n a p =
    with_marks (with_incoming p (set p.incoming n (one_less (get_or p.incoming n no_incoming)))) (with_piece p.marks a.fragment.number)

-- where none remains, the channel is dispatched by the source's rule
abbrev pub finished_on : ℕ → Piece → Peer → Peer
finished_on n a p = pick (eqb (get_or p.incoming n no_incoming).remaining 0) (dispatched_on a.channel p) p

abbrev pub piece_on : ℕ → Piece → Peer → Peer
piece_on n a p = finished_on n a (pieced_on n a p)

-- the piece's bytes at its offset
abbrev pub with_bytes : Piece → List ℕ → List ℕ → List ℕ
with_bytes a datagram second = laid second a.fragment.offset datagram a.place a.fragment.length

-- "which first sets that store to 0"
abbrev pub cleared : List ℕ → List ℕ
cleared second = replicate (length second) 0

-- what a fate leaves
abbrev pub fragment_after : Fate → Piece → List ℕ → State → State
fragment_after fate.Passed a datagram x = x
fragment_after fate.Unfit a datagram x = x
fragment_after fate.NoRoom a datagram x = x
fragment_after (fate.First n) a datagram x =
    record { peer = piece_on n a (opened_on n a x.peer); store = x.store; second = with_bytes a datagram (cleared x.second) }
fragment_after (fate.Later n) a datagram x =
    record { peer = piece_on n a x.peer; store = x.store; second = with_bytes a datagram x.second }

abbrev pub fragment_sound : Settings → Piece → List ℕ → State → Outcome State
fragment_sound s a datagram x =
    let f = fate_on s a x.peer in
    behind (arrival_gate send_fragment (arrival_of a) s x.peer.standing (length datagram)) x
    (record { answer = answer_of (reply_of f); after = fragment_after f a datagram x })

abbrev pub arrives_fragment : Settings → Piece → List ℕ → State → Outcome State
arrives_fragment s a datagram x = gated s (Both (length x.store) (length x.second)) x.peer x (fragment_sound s a datagram x)
