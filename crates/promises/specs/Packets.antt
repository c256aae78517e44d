-- What comes out is what went in: a receive hands out the payload of an arrival that was stored, or a block put together from its pieces, each of them once, in the
-- order in which they joined dispatched; on each channel the reliable ones take the numbers 1, 2, 3 and so on, and the others are unsequenced.
-- C-11: "a block's bytes are its pieces' bytes, each at its offset, over zeros"; a block of k pieces takes k numbers.
use Rattle.std.specs.Prelude.{ℕ, ◌+◌, ◌*◌, ◌≡◌, Bool, true, false, List, [], ◌∷◌, ◌++◌, map, eqb, length, get_or, take, drop, replicate, None, Option, Some}
use Rattle.numbers.specs.Pick.{pick, both}
use Rattle.numbers.specs.Answers.{Answer}
use Rattle.record.specs.Lists.{in_items}
use Rattle.record.specs.Sizes.{cell, second_length}
use Rattle.record.specs.Blocks.{is_block}
use Rattle.blocks.specs.Writing.{Write, all_written}
use Rattle.record.specs.Fresh.{no_incoming}
use Rattle.record.specs.Damage.{below, used_in}
use Rattle.peer.specs.Outcome.{State, Outcome}
use Rattle.peer.specs.declared.defaults.Kept.{Kept}
use Rattle.arrival.specs.Arrivals.{names}
use Rattle.arrival.specs.declared.Arrival.{Arrival}
use Rattle.arrive_unsequenced.specs.Calls.{send_unsequenced}
use Rattle.arrive_reliable.specs.Calls.{send_reliable}
use Rattle.arrive_fragment.specs.Pieces.{unfinished_on}
use Rattle.arrive_fragment.specs.Calls.{send_fragment}
use Rattle.arrive_fragment.specs.declared.Piece.{Piece}
use Rattle.link.specs.Runs.{Asked, comes_to, says_one, Packet, packets_of, run, reset_state}
use Rattle.link_in.specs.declared.calls.Call.TheVariants as inw
use Rattle.link.specs.declared.calls.Call.{Call}
use Rattle.link.specs.declared.calls.Call.TheVariants as call
use Rattle.promises.specs.Counts.{count, those}
use Rattle.promises.specs.Reports.{series, numbers_taken}

-- the bytes of an incoming slot: those of its cell, or a block's in the second store
abbrev pub bytes_at : State → ℕ → List ℕ
bytes_at x s =
    let i = get_or x.peer.incoming s no_incoming in
    pick (is_block i) (take i.length x.second) (take i.length (drop (s * cell) x.store))

-- the packet in an incoming slot: its channel, its byte, its number, its pieces and its bytes
abbrev pub packet_at : State → ℕ → Packet
packet_at x s =
    let i = get_or x.peer.incoming s no_incoming in
    record { channel = i.channel; byte = i.byte; number = i.number.0; fragments = i.fragments; bytes = bytes_at x s }

-- the packets in dispatched, in their order
abbrev pub ready : State → List Packet
ready x = map (packet_at x) (in_items x.peer.lists.dispatched)

-- nothing of it remains: an unfinished block is no packet yet
abbrev pub is_complete : State → ℕ → Bool
is_complete x s = eqb (get_or x.peer.incoming s no_incoming).remaining 0

-- all that are there: those in dispatched and those that the channels hold
abbrev pub present : State → List Packet
present x = map (packet_at x) (those (is_complete x) (used_in x.peer.lists (below x.peer.channels x.peer.standing.channels)))

-- the payload of an arrival
abbrev pub payload : Arrival → List ℕ → Packet
payload a datagram =
    record { channel = a.channel; byte = a.byte; number = a.number.0; fragments = 0; bytes = take a.length (drop a.place datagram) }

-- C-11: the block that is being put together: its first piece's byte, and what its pieces wrote, in the order in which they were stored
pub record Building : Type 0 where
  pub byte : ℕ
  pub writes : List Write

-- a piece's bytes, at its offset
abbrev pub piece_written : Piece → List ℕ → Write
piece_written a datagram = record { place = a.fragment.offset; bytes = take a.fragment.length (drop a.place datagram) }

-- a first piece begins a block, a later one of the unfinished block goes on with it
abbrev pub with_write : Option ℕ → ℕ → Write → Building → Building
with_write None byte w b = record { byte = byte; writes = w ∷ [] }
with_write (Some n) byte w b = record { byte = b.byte; writes = b.writes ++ (w ∷ []) }

abbrev pub builds : Call → List ℕ → State → Answer → Building → Building
builds (call.Inward (inw.FragmentArrival a)) datagram x w b =
    pick (says_one w) (with_write (unfinished_on a x.peer) a.byte (piece_written a datagram) b) b
builds (call.Inward (inw.UnsequencedArrival a group)) datagram x w b = b
builds (call.Inward (inw.ReliableArrival a)) datagram x w b = b
builds (call.Inward (inw.Dispatch channel)) datagram x w b = b
builds (call.Inward inw.Receive) datagram x w b = b
builds call.Reset datagram x w b = b
builds (call.Begin mtu channels) datagram x w b = b
builds (call.SetState state) datagram x w b = b
builds (call.Outward c) datagram x w b = b

-- the block of these writes, over zeros
abbrev pub block_built : Piece → Building → Packet
block_built a b =
    record {
      channel = a.channel;
      byte = b.byte;
      number = a.start.0;
      fragments = a.fragment.count;
      bytes = take a.fragment.total (all_written (replicate second_length 0) b.writes);
    }

-- what a call that answers so puts in: an arrival that was stored its payload, the last of a block's pieces the block, as it is built then; any other nothing
abbrev pub put_in : Call → Answer → List ℕ → Building → List Packet
put_in (call.Inward (inw.UnsequencedArrival a group)) w datagram b = pick (says_one w) (payload a datagram ∷ []) []
put_in (call.Inward (inw.ReliableArrival a)) w datagram b = pick (says_one w) (payload a datagram ∷ []) []
put_in (call.Inward (inw.FragmentArrival a)) w datagram b =
    pick (both (says_one w) (eqb (length b.writes) a.fragment.count)) (block_built a b ∷ []) []
put_in call.Reset w datagram b = []
put_in (call.Begin mtu channels) w datagram b = []
put_in (call.SetState state) w datagram b = []
put_in (call.Outward c) w datagram b = []
put_in (call.Inward (inw.Dispatch channel)) w datagram b = []
put_in (call.Inward inw.Receive) w datagram b = []

-- since the latest reset, each in its order: the payloads and blocks stored, the packets that joined dispatched, the packets received; and the block being put together
pub record Ledger : Type 0 where
  pub stored : List Packet
  pub joined : List Packet
  pub received : List Packet
  pub building : Building

abbrev pub fresh_ledger : Ledger
fresh_ledger = record { stored = []; joined = []; received = []; building = record { byte = 0; writes = [] } }

-- what stands in dispatched past as many as stood there before
abbrev pub newly : State → State → List Packet
newly x y = drop (length (ready x)) (ready y)

abbrev pub entered : Asked → State → Outcome State → Ledger → Ledger
entered a x o l =
    let b = builds a.call a.datagram x o.answer l.building in
    record {
      stored = l.stored ++ put_in a.call o.answer a.datagram b;
      joined = l.joined ++ newly x o.after;
      received = l.received ++ packets_of a.call o.answer x;
      building = b;
    }

-- a reset that is done begins a new ledger
abbrev pub is_reset : Call → Answer → Bool
is_reset call.Reset w = eqb w.number 0
is_reset (call.Begin mtu channels) w = false
is_reset (call.SetState state) w = false
is_reset (call.Outward c) w = false
is_reset (call.Inward c) w = false

abbrev pub writes : Asked → State → Ledger → Ledger
writes a x l = let o = comes_to a x in pick (is_reset a.call o.answer) fresh_ledger (entered a x o l)

unfoldable pub ledger : List Asked → State → Ledger → Ledger
ledger [] x l = l
ledger (a ∷ rest) x l = ledger rest (comes_to a x).after (writes a x l)

-- a reliable packet or a block, by its byte; one of this channel; and an unsequenced packet
abbrev pub is_reliable : Packet → Bool
is_reliable k = pick (names k.byte send_reliable) true (names k.byte send_fragment)

abbrev pub reliable_on : ℕ → Packet → Bool
reliable_on channel k = both (eqb k.channel channel) (is_reliable k)

abbrev pub is_either : Packet → Bool
is_either k = pick (is_reliable k) true (names k.byte send_unsequenced)

-- the numbers that packets take
unfoldable pub all_taken : List Packet → List ℕ
all_taken [] = []
all_taken (k ∷ ks) = numbers_taken k.number k.fragments ++ all_taken ks

pub record InAndOut (l : Ledger) (y : State) : Type 0 where
  -- whatever is asked of packets: those received and those still there are the stored ones, each once
  pub once : (f : Packet → Bool) → count f l.received + count f (present y) ≡ count f l.stored
  -- they come out in the order in which they joined dispatched
  pub order : l.received ++ ready y ≡ l.joined
  -- on each channel the numbers that the reliable ones take as they come out are 1, 2, 3 and so on, past 65,535 to 0
  pub numbers : (channel : ℕ) → let ns = all_taken (those (reliable_on channel) l.received) in ns ≡ series 0 (length ns)
  -- and what comes out is reliable or unsequenced
  pub kinds : count is_either l.received ≡ length l.received

abbrev pub ComesOut : Type 0
ComesOut =
    (mtu : ℕ) (kept : Kept) (store second : List ℕ) (calls : List Asked) → let x = reset_state mtu kept store second in
    InAndOut (ledger calls x fresh_ledger) (run calls x).end
