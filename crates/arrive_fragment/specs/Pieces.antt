-- C-11: which block a piece is of, and what becomes of the piece. "The first piece fixes start, count and total .. State is judged as a reliable arrival's; so is
-- start, unless that channel's unfinished block has it. A piece already marked is passed over .. A second block that begins meanwhile gets 8, a later piece never.
-- Refusals: 14 .. comes after 7 and the start's test, before 8."
use Rattle.std.specs.Prelude.{ℕ, Bool, not, List, [], ◌∷◌, eqb, get_or, Result, Ok, Err, Option, Some, None}
use Rattle.numbers.specs.Pick.{pick, both}
use Rattle.numbers.specs.declared.refusals.Refusal.{Refusal}
use Rattle.numbers.specs.declared.refusals.Refusal.TheVariants.{NotStored, BadFragment}
use Rattle.record.specs.Lists.{in_items}
use Rattle.record.specs.Fresh.{no_incoming, no_channel}
use Rattle.record.specs.Marks.{piece_marked}
use Rattle.record.specs.Blocks.{is_block}
use Rattle.record.specs.Damage.{below, used_in, blocks}
use Rattle.record.specs.declared.groups.Channel.{Channel}
use Rattle.record.specs.declared.groups.Incoming.{Incoming}
use Rattle.blocks.specs.Blocks.{fields_fit, like_first}
use Rattle.peer.specs.States.{disconnect_later}
use Rattle.peer.specs.declared.settings.Settings.{Settings}
use Rattle.peer.specs.declared.Peer.{Peer}
use Rattle.arrival.specs.Arrivals.{room_of}
use Rattle.arrival.specs.declared.Arrived.{Arrived}
use Rattle.arrival.specs.declared.Arrived.TheVariants as arrived
use Rattle.arrival.specs.declared.Fate.{Fate as Room}
use Rattle.arrival.specs.declared.Fate.TheVariants as room
use Rattle.arrive_reliable.specs.Holding.{is_passed}
use Rattle.arrive_fragment.specs.declared.Piece.{Piece}
use Rattle.arrive_fragment.specs.declared.Fate.{Fate}
use Rattle.arrive_fragment.specs.declared.Fate.TheVariants as fate

abbrev pub channel_of : Piece → Peer → Channel
channel_of a p = get_or p.channels a.channel no_channel

-- a block with pieces remaining, under the number start
abbrev pub is_unfinished : ℕ → Incoming → Bool
is_unfinished start i = both (is_block i) (both (not (eqb i.remaining 0)) (eqb i.number.0 start))

-- the first slot of a list that holds one
unfoldable pub unfinished : List Incoming → List ℕ → ℕ → Option ℕ
unfinished slots [] start = None
unfinished slots (s ∷ ss) start = pick (is_unfinished start (get_or slots s no_incoming)) (Some s) (unfinished slots ss start)

-- "that channel's unfinished block", if it has start
abbrev pub unfinished_on : Piece → Peer → Option ℕ
unfinished_on a p = unfinished p.incoming (in_items (channel_of a p).held) a.start.0

-- "one block per peer at a time, until received": a block that any channel holds, or that is dispatched
abbrev pub any_block : Peer → Bool
any_block p = not (eqb (blocks p.incoming (used_in p.lists (below p.channels p.standing.channels))) 0)

-- a first piece that fits, where a slot is free and the waiting total low; another block is there: 8
abbrev pub opens : Bool → Room → Fate
opens another room.Passed = fate.Passed
opens another room.NoRoom = fate.NoRoom
opens another (room.Stored s) = pick another fate.NoRoom (fate.First s)

-- a first piece: passed over by its start as a reliable arrival by its number; then 14; then 8
abbrev pub first_fate : Bool → Bool → Bool → Room → Fate
first_fate passed fit another room = pick passed fate.Passed (pick fit (opens another room) fate.Unfit)

-- a later piece of the block in slot s: 14; then passed over if it is marked; never 8
abbrev pub later_fate : Bool → Bool → ℕ → Fate
later_fate fit marked s = pick fit (pick marked fate.Passed (fate.Later s)) fate.Unfit

abbrev pub fate_by : Option ℕ → Settings → Piece → Peer → Fate
fate_by None s a p =
    first_fate (is_passed p.incoming (channel_of a p) a.start.0) (fields_fit s.packet a.fragment) (any_block p) (room_of s p)
fate_by (Some n) s a p =
    later_fate (both (fields_fit s.packet a.fragment) (like_first a.fragment (get_or p.incoming n no_incoming)))
    (piece_marked p.marks a.fragment.number) n

-- in state 6 every piece is passed over
abbrev pub fate_on : Settings → Piece → Peer → Fate
fate_on s a p = pick (eqb p.standing.state disconnect_later) fate.Passed (fate_by (unfinished_on a p) s a p)

abbrev pub reply_of : Fate → Result Arrived Refusal
reply_of fate.Passed = Ok arrived.Passed
reply_of fate.Unfit = Err BadFragment
reply_of fate.NoRoom = Err NotStored
reply_of (fate.First s) = Ok arrived.Stored
reply_of (fate.Later s) = Ok arrived.Stored
