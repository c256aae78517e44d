-- How much is in transit: from a reset, over setup, send, ping, send step, acknowledgement and timeout check, it equals the sum of the piece lengths of
-- the packets that stand in sent, modulo 2^32; over begin, set state and throttle too.
use Rattle.std.specs.Prelude.{ℕ, ◌+◌, ◌%◌, ◌^◌, ◌<◌, ◌≡◌, List, [], ◌∷◌, get_or}
use Rattle.numbers.specs.Pick.{pick}
use Rattle.record.specs.Lists.{out_items}
use Rattle.record.specs.Fresh.{no_outgoing}
use Rattle.record.specs.declared.groups.Outgoing.{Outgoing}
use Rattle.peer.specs.Fresh.{fresh_peer}
use Rattle.peer.specs.declared.settings.Settings.{Settings}
use Rattle.peer.specs.declared.Peer.{Peer}
use Rattle.peer.specs.declared.defaults.Kept.{Kept}
use Rattle.outbox.specs.declared.pieces.Piece.{Piece}
use Rattle.lifecycle.specs.Calls.{resets, begins, sets_state}
use Rattle.setup.specs.Calls.{sets_up}
use Rattle.send.specs.Calls.{sends}
use Rattle.setup.specs.Pings.{pings}
use Rattle.send_step.specs.Calls.{steps}
use Rattle.send_step.specs.declared.heads.Queue.{Queue}
use Rattle.round_trip.specs.Calls.{throttles}
use Rattle.acknowledge.specs.Calls.{acknowledges}
use Rattle.timeouts.specs.Calls.{checks}

-- a packet's piece length; a command without a packet has none in transit
abbrev pub load : Outgoing → ℕ
load o = pick o.packet o.length 0

unfoldable pub loads : List Outgoing → List ℕ → ℕ
loads slots [] = 0
loads slots (s ∷ ss) = load (get_or slots s no_outgoing) + loads slots ss

-- a piece length has 16 bits, as its type in the program says; here a number may be any
abbrev pub limit : ℕ
limit = 65536

pub record Carries (p : Peer) : Type 0 where
  pub low : (k : ℕ) → (get_or p.outgoing k no_outgoing).length < limit
  pub is : p.flow.transit ≡ loads p.outgoing (out_items p.lists.sent) % 2 ^ 32

-- the records that these calls reach from a reset, whatever they are asked
pub data Reached : Peer → Type 0 where
  fresh : (mtu : ℕ) (kept : Kept) → Reached (fresh_peer mtu kept)
  reset : (s : Settings) (p : Peer) → Reached p → Reached (resets s p).after
  begin : (s : Settings) (mtu count : ℕ) (p : Peer) → Reached p → Reached (begins s mtu count p).after
  state : (s : Settings) (state : ℕ) (p : Peer) → Reached p → Reached (sets_state s state p).after
  setup : (s : Settings) (x : Piece) → x.length < limit → (p : Peer) → Reached p → Reached (sets_up s x p).after
  send : (s : Settings) (channel length flags : ℕ) (p : Peer) → Reached p → Reached (sends s channel length flags p).after
  ping : (s : Settings) (p : Peer) → Reached p → Reached (pings s p).after
  step : (s : Settings) (q : Queue) (time : ℕ) (p : Peer) → Reached p → Reached (steps s q time p).after
  acknowledge : (s : Settings) (channel number sent clock : ℕ) (p : Peer) → Reached p → Reached (acknowledges s channel number sent clock p).after
  check : (s : Settings) (clock : ℕ) (p : Peer) → Reached p → Reached (checks s clock p).after
  throttle : (s : Settings) (sample : ℕ) (p : Peer) → Reached p → Reached (throttles s sample p).after
