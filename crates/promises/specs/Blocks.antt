-- C-11, blocks: whole exactly when all pieces are marked; a marked piece changes nothing; a later piece is never refused with 8; only a piece that is stored changes
-- the second store; and what was cut comes together.
use Rattle.std.specs.Prelude.{ℕ, ◌<◌, ◌≡◌, Bool, true, not, List, [], ◌∷◌, ◌⊎◌, eqb, length, get_or, None, Option, Some}
use Rattle.numbers.specs.Pick.{both}
use Rattle.cells.specs.Runs.{has}
use Rattle.record.specs.Fresh.{no_incoming}
use Rattle.record.specs.Marks.{piece_marked}
use Rattle.record.specs.Blocks.{is_block}
use Rattle.record.specs.Damage.{below, used_in}
use Rattle.record.specs.declared.groups.Incoming.{Incoming}
use Rattle.record.specs.declared.groups.Marks.{Marks}
use Rattle.peer.specs.Damage.{sound}
use Rattle.peer.specs.Outcome.{State, Outcome}
use Rattle.peer.specs.declared.settings.Settings.{Settings}
use Rattle.peer.specs.declared.defaults.Kept.{Kept}
use Rattle.peer.specs.declared.Peer.{Peer}
use Rattle.packets.specs.declared.Cut.{Cut}
use Rattle.arrive_fragment.specs.Pieces.{unfinished_on}
use Rattle.arrive_fragment.specs.Calls.{cleared, with_bytes, arrives_fragment}
use Rattle.arrive_fragment.specs.declared.Piece.{Piece}
use Rattle.laws.specs.Assembling.{CutOf, piece_write}
use Rattle.link.specs.Steps.{calls}
use Rattle.link.specs.Runs.{Asked, says_one, Packet, reset_state}
use Rattle.link_in.specs.declared.calls.Call.TheVariants as inw
use Rattle.link.specs.declared.calls.Call.{Call}
use Rattle.link.specs.declared.calls.Call.TheVariants as call
use Rattle.promises.specs.Counts.{those}
use Rattle.promises.specs.Packets.{piece_written, ledger, fresh_ledger}

-- every piece of the block is marked
abbrev pub AllMarked : Marks → Incoming → Type 0
AllMarked m i = (k : ℕ) → k < i.fragments → piece_marked m k ≡ true

-- "The block is complete exactly when all count pieces are marked": of a sound record, none of its block remains if and only if each piece is marked
pub record WholeWhenMarked (m : Marks) (i : Incoming) : Type 0 where
  pub marked : i.remaining ≡ 0 → AllMarked m i
  pub whole : AllMarked m i → i.remaining ≡ 0

abbrev pub BlockWhole : Type 0
BlockWhole =
    (p : Peer) (n : ℕ) → sound p ≡ true → let i = get_or p.incoming n no_incoming in
    has (used_in p.lists (below p.channels p.standing.channels)) n ≡ true → is_block i ≡ true → WholeWhenMarked p.marks i

-- "A piece already marked is passed over": of the channel's unfinished block, it changes nothing at all, whatever it answers
abbrev pub MarkedChangesNothing : Type 0
MarkedChangesNothing =
    (s : Settings) (a : Piece) (datagram : List ℕ) (x : State) (n : ℕ) → unfinished_on a x.peer ≡ Some n
    → piece_marked x.peer.marks a.fragment.number ≡ true
    → (arrives_fragment s a datagram x).after ≡ x

-- 8 of a piece: "a later piece never", and nothing changed
pub record FirstAlone (a : Piece) (x : State) (o : Outcome State) : Type 0 where
  pub first : unfinished_on a x.peer ≡ None
  pub after : o.after ≡ x

abbrev pub EightFirst : Type 0
EightFirst =
    (s : Settings) (a : Piece) (datagram : List ℕ) (x : State) → let o = arrives_fragment s a datagram x in
    o.answer.number ≡ 8 → FirstAlone a x o

-- the second store after a stored piece: a first one "first sets that store to 0"
abbrev pub piece_laid : Option ℕ → Piece → List ℕ → List ℕ → List ℕ
piece_laid None a datagram second = with_bytes a datagram (cleared second)
piece_laid (Some n) a datagram second = with_bytes a datagram second

-- a call leaves the second store as it was, or it is a piece that was stored
pub record LaysPiece (k : Call) (datagram : List ℕ) (x : State) (o : Outcome State) : Type 0 where
  pub piece : Piece
  pub is : k ≡ call.Inward (inw.FragmentArrival piece)
  pub stored : says_one o.answer ≡ true
  pub second : o.after.second ≡ piece_laid (unfinished_on piece x.peer) piece datagram x.second

abbrev pub SecondKept : Type 0
SecondKept =
    (s : Settings) (k : Call) (datagram : List ℕ) (x : State) → let o = calls s k datagram x in
    (o.after.second ≡ x.second) ⊎ LaysPiece k datagram x o

-- a piece that is one of those that a packet was cut into
pub record IsPieceOf (packet : List ℕ) (cut : Cut) (a : Piece) (datagram : List ℕ) : Type 0 where
  pub count : a.fragment.count ≡ cut.count
  pub total : a.fragment.total ≡ length packet
  pub write : piece_written a datagram ≡ piece_write cut packet a.fragment.number

-- every piece that comes on a channel under a start is one of them
abbrev pub OnlyPieces : ℕ → ℕ → List ℕ → Cut → Call → List ℕ → Type 0
OnlyPieces channel start packet cut (call.Inward (inw.FragmentArrival a)) datagram =
    a.channel ≡ channel → a.start.0 ≡ start → IsPieceOf packet cut a datagram
OnlyPieces channel start packet cut (call.Inward (inw.UnsequencedArrival a group)) datagram = Unit {0}
OnlyPieces channel start packet cut (call.Inward (inw.ReliableArrival a)) datagram = Unit {0}
OnlyPieces channel start packet cut (call.Inward (inw.Dispatch c)) datagram = Unit {0}
OnlyPieces channel start packet cut (call.Inward inw.Receive) datagram = Unit {0}
OnlyPieces channel start packet cut call.Reset datagram = Unit {0}
OnlyPieces channel start packet cut (call.Begin mtu channels) datagram = Unit {0}
OnlyPieces channel start packet cut (call.SetState state) datagram = Unit {0}
OnlyPieces channel start packet cut (call.Outward c) datagram = Unit {0}

abbrev pub AllOnly : ℕ → ℕ → List ℕ → Cut → List Asked → Type 0
AllOnly channel start packet cut [] = Unit {0}
AllOnly channel start packet cut (a ∷ rest) = OnlyPieces channel start packet cut a.call a.datagram × AllOnly channel start packet cut rest

-- a block of that channel and start
abbrev pub is_block_of : ℕ → ℕ → Packet → Bool
is_block_of channel start k = both (both (eqb k.channel channel) (eqb k.number start)) (not (eqb k.fragments 0))

-- each has these bytes
abbrev pub AllBytes : List ℕ → List Packet → Type 0
AllBytes packet [] = Unit {0}
AllBytes packet (k ∷ ks) = (k.bytes ≡ packet) × AllBytes packet ks

-- What was cut comes together: where every piece that comes on a channel under a start is one of those that a packet was cut into, in any order, with repeats and
-- whatever else between, each block of that start that joins dispatched there has the packet's bytes.
abbrev pub CutTogether : Type 0
CutTogether =
    (mtu : ℕ) (kept : Kept) (store second : List ℕ) (calls : List Asked) (channel start : ℕ) (packet : List ℕ) (cut : Cut) → CutOf packet cut
    → AllOnly channel start packet cut calls
    → AllBytes packet (those (is_block_of channel start) (ledger calls (reset_state mtu kept store second) fresh_ledger).joined)
