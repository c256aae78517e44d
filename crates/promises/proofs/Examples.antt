-- The bounds are tight, and the promises are not about empty runs: on a peer that was reset, begun and connected, a group is delivered again at 33 windows,
-- which makes 64 in all with its own move; repeats at 0, 31 and 32 windows leave no trace. By computing.
use Prim.Native.Nat.{ℕ}
use mathlib.Core.Path.{◌≡◌, refl}
use mathlib.Core.Bool.{false}
use mathlib.Core.List.{List, [], ◌∷◌, map}
use native.Mathlib.Omega.{arith}
use lib.ListN.{replicate}
use Rattle.numbers.specs.Bits.{with_bit}
use Rattle.window.specs.Window.{marked, marking}
use Rattle.cells.specs.Free.{first_from, exist, once}
use Rattle.record.specs.Fresh.{no_lists, no_channel, no_outgoing, no_incoming}
use Rattle.record.specs.Damage.{all, held, held_fit, own as own_slots, lengths, blocks}
use Rattle.record.specs.Sizes.{second_length, store_length}
use Rattle.peer.specs.Fresh.{fresh_peer}
use Rattle.peer.specs.Damage.{sound}
use Rattle.peer.specs.Outcome.{State}
use Rattle.peer.specs.declared.settings.Settings.{Settings}
use Rattle.peer.specs.declared.defaults.Kept.{Kept}
use Rattle.link.specs.Runs.{Asked, Packet, run, reset_state}
use Rattle.link_in.specs.declared.calls.Call.TheVariants as inw
use Rattle.link.specs.declared.calls.Call.{Call}
use Rattle.link.specs.declared.calls.Call.TheVariants as call
use Rattle.promises.specs.History.{Event, moved, delivered, since, history, AllInRange}
use Rattle.promises.specs.Repeats as repeats
use Rattle.promises.specs.Repeats.{Insertion, arrives, Line, own, again, original, played, Repeats}
use Rattle.promises.proofs.Traces.{no_trace}

abbrev settings : Settings
settings = record { mtu = 1392; packet = 33554432; waiting = 33554432; checksum = false }

abbrev nobody : Kept
nobody = record { incoming_peer = 0; outgoing_session = 0; incoming_session = 0; reserved = 0; queued = 0 }

abbrev start : State
start = reset_state 1392 nobody (replicate store_length 0) (replicate second_length 0)

abbrev asks : Call → Asked
asks c = record { settings = settings; call = c; datagram = [] }

-- three bytes of group g
abbrev packet : ℕ → repeats.Insertion
packet g =
    record {
      settings = settings;
      arrival = record { byte = 73; channel = 0; number = record { 0 = 0 }; length = 3; place = 0 };
      group = record { 0 = g };
      datagram = 7 ∷ 8 ∷ 9 ∷ [];
    }

abbrev of : ℕ → Asked
of g = arrives (packet g)

-- group 5; 31 windows on; 2 more: at 33 windows it is delivered again, 31 windows further, 64 in all
abbrev twice : List Asked
twice = asks (call.Begin 1392 1) ∷ asks (call.SetState 5) ∷ of 5 ∷ of 31744 ∷ of 33792 ∷ of 5 ∷ []

abbrev told : List Event
told =
    delivered 5 ∷ moved 31 ∷ delivered 33792 ∷ moved 2 ∷ delivered 31744 ∷ moved 31 ∷ delivered 5 ∷ moved 0 ∷ moved 0 ∷ moved 0 ∷ []

pub delivered_twice : history twice start [] ≡ told
unfolding history with_bit marked marking first_from exist once no_lists no_channel no_outgoing no_incoming all held held_fit own_slots lengths blocks fresh_peer sound
delivered_twice = refl

-- repeated at 0, 31 and 32 windows, twice in a row and after its packet came out
abbrev lines : List (Line Insertion)
lines =
    own (asks (call.Begin 1392 1)) ∷ own (asks (call.SetState 5)) ∷ own (of 5) ∷ again (packet 5) ∷ own (of 31744) ∷ again (packet 5)
    ∷ again (packet 5) ∷ own (asks (call.Inward inw.Receive)) ∷ own (of 32768) ∷ again (packet 5) ∷ own (asks (call.Inward inw.Receive)) ∷ []

pub inserted : Repeats lines start []
unfolding since with_bit marked marking first_from exist once no_lists no_channel no_outgoing no_incoming all held held_fit own_slots lengths blocks fresh_peer sound
inserted = omega arith

pub in_range : AllInRange (original lines)
unfolding original
in_range = omega arith

pub same : played arrives lines start ≡ run (original lines) start
same = no_trace 1392 nobody (replicate store_length 0) (replicate second_length 0) lines in_range inserted

pub came_out : map (λ (k : Packet). k.bytes) (played arrives lines start).packets ≡ (7 ∷ 8 ∷ 9 ∷ []) ∷ (7 ∷ 8 ∷ 9 ∷ []) ∷ []
unfolding played with_bit marked marking first_from exist once no_lists no_channel no_outgoing no_incoming all held held_fit own_slots lengths blocks fresh_peer sound
came_out = refl
