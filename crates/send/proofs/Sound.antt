-- Soundness through a send: done, the record is sound, and a sound one stays so.
-- The argument: each piece of a send is on the packet's channel, tested to be below the count, and its byte names its fields. So setting
-- them all up keeps soundness.
use Prim.Native.Nat.{ℕ, zero, suc, ◌+◌, ◌≤◌}
use mathlib.Core.Path.{◌≡◌, refl, ap}
use native.Mathlib.Omega.{arith}
use mathlib.Core.Bool.{Bool, true, false, not}
use mathlib.Core.List.{List, [], ◌∷◌}
use lib.Dec.{leb, ltb}
use lib.ListN.{length}
use lib.ListN.{length as length_of}
use Rattle.std.specs.Prelude.{⊤, Result, Ok, Err}
use Rattle.numbers.specs.Pick.{pick, both}
use Rattle.numbers.specs.declared.counters.Unreliable.{Unreliable}
use Rattle.numbers.proofs.BoolLaws.{both_true}
use Rattle.command.specs.Rows.{names_fields}
use Rattle.command.specs.declared.fields.Command.{Command}
use Rattle.command.specs.declared.fields.Fragment.{Fragment}
use Rattle.command.specs.declared.fields.Fields.TheVariants.{SendReliable, SendUnreliable, SendUnsequenced}
use Rattle.peer.specs.Damage.{sound}
use Rattle.peer.specs.Outcome.{Outcome, finished}
use Rattle.peer.specs.Sounds.{Whole, Sounds}
use Rattle.peer.specs.Gate.{behind}
use Rattle.peer.proofs.Gates.{openness, behind_has}
use Rattle.peer.specs.declared.settings.Settings.{Settings}
use Rattle.peer.specs.declared.Peer.{Peer}
use Rattle.numbers.specs.declared.refusals.Refusal.{Refusal}
use Rattle.numbers.specs.declared.refusals.Refusal.TheVariants.{NotConnected, InvalidChannel, PacketTooLarge, FragmentsExceeded, FailedToQueue}
use Rattle.record.specs.Channels.{on_channel}
use Rattle.record.specs.declared.groups.Standing.{Standing}
use Rattle.record.specs.declared.groups.Channel.{Channel}
use Rattle.outbox.specs.Counting.{channel_at}
use Rattle.setup.specs.Queueing.{room, queued_all}
use Rattle.setup.specs.Taking.{all_fit, Ready}
use Rattle.outbox.specs.declared.pieces.Piece.{Piece}
use Rattle.peer.proofs.Sound.{gated_sounds}
use Rattle.setup.proofs.Sound.{queued_all-sound, queued_all_whole}
use Rattle.packets.specs.Packets.{is_reliable, is_unsequenced, spent, blank, reliable_byte, unreliable_byte, unsequenced_byte, whole, start_of, fragment_of, cut_command, length_at, cut_from, pieces}
use Rattle.peer.specs.States.{is_connected}
use Rattle.packets.specs.Packets.{cut_by}
use Rattle.packets.specs.Refusals.{queue_gate, send_gate}
use Rattle.send.specs.Calls.{queues_all, fragment, commands, sends_sound, sends}
use Rattle.packets.specs.declared.Start.{Start}
use Rattle.packets.specs.declared.Start.TheVariants as start
use Rattle.packets.specs.declared.Cut.{Cut}

-- a command that setup refuses neither for its channel nor for its fields
abbrev fits : ℕ → Command → Bool
fits count c = both (on_channel c.channel count) (names_fields c)

module _ (channel count : ℕ) (on : ltb channel count ≡ true) where
  pub whole_fit : (flags : ℕ) (u : Unreliable) (length : ℕ) → all_fit count (whole flags u channel length ∷ []) ≡ true
  unfolding all_fit
  whole_fit flags u length =
      both_true (fits count (whole flags u channel length).command) true
      (go (both (is_unsequenced flags) (not (is_reliable flags))) (pick (is_reliable flags) true (spent u))) refl
    where
      go : (a b : Bool)
          → fits count
          (pick a (blank unsequenced_byte channel (SendUnsequenced (record { 0 = 0 }) length))
          (pick b (blank reliable_byte channel (SendReliable length)) (blank unreliable_byte channel (SendUnreliable (record { 0 = 0 }) length))))
          ≡ true
      go true b = rw on
      go false true = rw on
      go false false = rw on

  cut_fits : (start : Start) (f : Fragment) → fits count (cut_command start channel f) ≡ true
  cut_fits (start.Reliable n) f = rw on
  cut_fits (start.Unreliable n) f = rw on

pub cut_fit : (x : Cut) (count : ℕ) → ltb x.channel count ≡ true → (left j offset : ℕ) → all_fit count (cut_from x left j offset) ≡ true
unfolding all_fit cut_from
cut_fit x count on zero j offset = refl
cut_fit x count on (suc left) j offset =
    let f = fragment_of x j offset (length_at x offset) in
    both_true (fits count (cut_command x.start x.channel f)) (all_fit count (cut_from x left (j + 1) (offset + length_at x offset)))
    (cut_fits x.channel count on x.start f) (cut_fit x count on left (j + 1) (offset + length_at x offset))

-- so the pieces of a cut packet for which there is room can be set up
pub cut_ready : (x : Cut) (p : Peer) → Whole p → sound p ≡ true → ltb x.channel p.standing.channels ≡ true → length (pieces x) ≤ room p
    → Ready (pieces x) p
cut_ready x p pool h on few =
    record { whole = pool; good = h; fit = cut_fit x p.standing.channels on x.count 0 0; few = few }

-- the gate of so many commands is open only where as many slots are free
pub queue_room : (a b : Bool) → pick {A = Result ⊤ Refusal} a (pick b (Ok tt) (Err FailedToQueue)) (Err FragmentsExceeded) ≡ Ok tt → b ≡ true
queue_room true true e = refl
queue_room true false e = absurd (omega (arith, ap openness e))
queue_room false b e = absurd (omega (arith, ap openness e))

-- a send's gate tells that the channel is there
send_gate_lem : (a b c : Bool) → pick {A = Result ⊤ Refusal} a (pick b (pick c (Ok tt) (Err PacketTooLarge)) (Err InvalidChannel)) (Err NotConnected) ≡ Ok tt → b ≡ true
send_gate_lem true true c e = refl
send_gate_lem true false c e = absurd (omega (arith, ap openness e))
send_gate_lem false b c e = absurd (omega (arith, ap openness e))

pub gate_channel : (s : Settings) (channel length : ℕ) (standing : Standing) → send_gate s channel length standing ≡ Ok tt → ltb channel standing.channels ≡ true
gate_channel s channel length standing = send_gate_lem (is_connected standing) (ltb channel standing.channels) (leb length s.packet)

pub commands_fit : (fragment channel length flags : ℕ) (p : Peer) → ltb channel p.standing.channels ≡ true
    → all_fit p.standing.channels (commands fragment channel length flags p) ≡ true
commands_fit fragment channel length flags p on = go (leb length fragment)
  where
    c : Channel
    c = channel_at p.channels channel

    x : Cut
    x = cut_by (start_of flags c.outgoing_reliable c.outgoing_unreliable) channel length fragment

    go : (b : Bool) → all_fit p.standing.channels (pick b (whole flags c.outgoing_unreliable channel length ∷ []) (pieces x)) ≡ true
    go true = whole_fit channel p.standing.channels on flags c.outgoing_unreliable length
    go false = cut_fit x p.standing.channels on x.count 0 0

-- setting all up or none keeps soundness and lengths
module _ (xs : List Piece) (p : Peer) (w : Whole p) where
  all_keeps : (g : Result ⊤ Refusal) → sound p ≡ true → all_fit p.standing.channels xs ≡ true → sound (behind g p (finished (queued_all xs p))).after ≡ true
  all_keeps g h fit =
      behind_has g p (finished (queued_all xs p)) (λ (o : Outcome Peer). sound o.after ≡ true) (λ why. h) (λ e. queued_all-sound xs p w h fit)

  all_whole : (g : Result ⊤ Refusal) → Whole (behind g p (finished (queued_all xs p))).after
  all_whole g = behind_has g p (finished (queued_all xs p)) (λ (o : Outcome Peer). Whole o.after) (λ why. w) (λ e. queued_all_whole xs p w)

module _ (s : Settings) (channel length flags : ℕ) (p : Peer) (w : Whole p) where
  abbrev xs : List Piece
  xs = commands (fragment s p) channel length flags p

  send_keeps : sound p ≡ true → sound (sends_sound s channel length flags p).after ≡ true
  send_keeps h =
      behind_has (send_gate s channel length p.standing) p (queues_all xs p) (λ (o : Outcome Peer). sound o.after ≡ true) (λ why. h)
      (λ e. all_keeps xs p w (queue_gate (length_of xs) (room p)) h (commands_fit (fragment s p) channel length flags p (gate_channel s channel length p.standing e)))

  send_whole : Whole (sends_sound s channel length flags p).after
  send_whole =
      behind_has (send_gate s channel length p.standing) p (queues_all xs p) (λ (o : Outcome Peer). Whole o.after) (λ why. w)
      (λ e. all_whole xs p w (queue_gate (length_of xs) (room p)))

pub send_sounds : (s : Settings) (channel length flags : ℕ) → Sounds (sends s channel length flags)
send_sounds s channel length flags =
    gated_sounds s (sends_sound s channel length flags) (λ p w h. send_keeps s channel length flags p w h) (λ p w. send_whole s channel length flags p w)
