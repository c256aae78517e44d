-- Runs of calls: each with its settings and its datagram, one after another on one record and its two stores.
use Rattle.std.specs.Prelude.{ℕ, ◌*◌, Bool, List, [], ◌∷◌, ◌++◌, eqb, get_or, take, drop}
use Rattle.numbers.specs.Pick.{pick, both}
use Rattle.numbers.specs.Answers.{Answer, numbers_of}
use Rattle.record.specs.Sizes.{cell}
use Rattle.record.specs.Fresh.{no_incoming}
use Rattle.peer.specs.Outcome.{State, Outcome}
use Rattle.peer.specs.Fresh.{fresh_peer}
use Rattle.peer.specs.declared.settings.Settings.{Settings}
use Rattle.peer.specs.declared.defaults.Kept.{Kept}
use Rattle.link_in.specs.declared.calls.Call.TheVariants as inw
use Rattle.link.specs.Steps.{calls}
use Rattle.link.specs.declared.calls.Call.{Call}
use Rattle.link.specs.declared.calls.Call.TheVariants as call

pub record Asked : Type 0 where
  pub settings : Settings
  pub call : Call
  pub datagram : List ℕ

abbrev pub comes_to : Asked → State → Outcome State
comes_to a x = calls a.settings a.call a.datagram x

-- a packet that comes out: its channel, its command's byte, its number, how many pieces it came in (0 for one that came whole), and its bytes
pub record Packet : Type 0 where
  pub channel : ℕ
  pub byte : ℕ
  pub number : ℕ
  pub fragments : ℕ
  pub bytes : List ℕ

-- number 0, and 1 for the first value: a receive hands out a packet, an arrival was stored
abbrev pub says_one : Answer → Bool
says_one a = both (eqb a.number 0) (eqb (get_or (numbers_of a) 0 0) 1)

-- C-11: and 2, a receive hands out a block
abbrev pub says_two : Answer → Bool
says_two a = both (eqb a.number 0) (eqb (get_or (numbers_of a) 0 0) 2)

-- byte, number and fragments stand in the slot of that cell
abbrev pub handed_from : State → ℕ → ℕ → List ℕ → Packet
handed_from x channel cell bytes =
    let slot = get_or x.peer.incoming cell no_incoming in
    record { channel = channel; byte = slot.byte; number = slot.number.0; fragments = slot.fragments; bytes = bytes }

-- what a receive that answers so hands out: 1, channel, cell, length, and the bytes stand in the store's cell; 2 and the same, and they stand in the second store
abbrev pub handed : Answer → State → List Packet
handed a x =
    let v = numbers_of a in
    pick (says_one a) (handed_from x (get_or v 1 0) (get_or v 2 0) (take (get_or v 3 0) (drop (get_or v 2 0 * cell) x.store)) ∷ [])
    (pick (says_two a) (handed_from x (get_or v 1 0) (get_or v 2 0) (take (get_or v 3 0) x.second) ∷ []) [])

abbrev pub packets_of : Call → Answer → State → List Packet
packets_of (call.Inward inw.Receive) a x = handed a x
packets_of (call.Inward (inw.UnsequencedArrival arrival group)) a x = []
packets_of (call.Inward (inw.ReliableArrival arrival)) a x = []
packets_of (call.Inward (inw.FragmentArrival piece)) a x = []
packets_of (call.Inward (inw.Dispatch channel)) a x = []
packets_of (call.Outward c) a x = []
packets_of call.Reset a x = []
packets_of (call.Begin mtu channels) a x = []
packets_of (call.SetState state) a x = []

-- what a run of calls answers, the packets that come out, and the end
pub record Ran : Type 0 where
  pub answers : List Answer
  pub packets : List Packet
  pub end : State

abbrev pub ended : State → Ran
ended x = record { answers = []; packets = []; end = x }

-- a step, then the rest of the run
abbrev pub before : Asked → State → Outcome State → Ran → Ran
before a x o rest =
    record { answers = o.answer ∷ rest.answers; packets = packets_of a.call o.answer x ++ rest.packets; end = rest.end }

unfoldable pub run : List Asked → State → Ran
run [] x = ended x
run (a ∷ rest) x = let o = comes_to a x in before a x o (run rest o.after)

-- a peer as after a reset, whatever the reset kept, with any bytes in the stores
abbrev pub reset_state : ℕ → Kept → List ℕ → List ℕ → State
reset_state mtu kept store second = record { peer = fresh_peer mtu kept; store = store; second = second }
