-- A send that answers done found a sound record, a channel below the count and room for every command, and set them up in order.
-- The argument: what is done has passed each gate. With setup's Taking, such a send takes as many free slots as it has commands, the lowest
-- in order, and changes no other.
use Prim.Native.Nat.{ℕ, zero, suc, ◌+◌, ◌≤◌, ◌<◌}
use mathlib.Core.Path.{◌≡◌, refl, ap, sym, subst, ◌∙◌}
use mathlib.Core.Bool.{Bool, true, false, not}
use mathlib.Core.List.{List, [], ◌∷◌}
use native.Mathlib.Omega.{arith}
use lib.Dec.{leb}
use lib.ListN.{length, get_or}
use borrow.Author.Tests.{leb-true, ltb-true, lt-leb}
use Rattle.std.specs.Prelude.{Ok}
use Rattle.numbers.specs.Pick.{pick, both}
use Rattle.numbers.specs.Counters.{step}
use Rattle.numbers.specs.declared.counters.Reliable.{Reliable}
use Rattle.numbers.specs.declared.counters.Unreliable.{Unreliable}
use Rattle.command.specs.declared.fields.Fragment.{Fragment}
use Rattle.record.specs.Fresh.{no_outgoing}
use Rattle.record.specs.declared.groups.Channel.{Channel}
use Rattle.outbox.specs.Counting.{channel_at}
use Rattle.outbox.specs.Pieces.{to_reliable}
use Rattle.setup.specs.Taking.{Ready, filled}
use Rattle.setup.proofs.Taking.{runs_queued, runs_done, taken-frees, taken-filled, taken_others}
use Rattle.packets.specs.Packets.{is_fragment, spent, whole, start_of, fragment_of, cut_command, length_at, cut_from, pieces}
use Rattle.packets.specs.Packets.{is_reliable as reliable_flag}
use Rattle.packets.specs.declared.Start.{Start}
use Rattle.packets.specs.declared.Start.TheVariants as start
use Rattle.packets.specs.declared.Cut.{Cut}
use Rattle.packets.proofs.Cuts.{span-pieces, piece_part, full_piece, last_piece}
use Rattle.peer.proofs.Ranges.{mtu_low, count_high}
use Rattle.send.proofs.Ranges.{length_low}
use Rattle.laws.proofs.Numbers.{reliable_numbers, unreliable_numbers}
use Rattle.laws.proofs.Ends.{AllTo, all_ends}
use Rattle.peer.specs.Settings.{fit_settings}
use Rattle.peer.specs.Damage.{sound}
use Rattle.numbers.specs.Limits.{most_fragments}
use Rattle.peer.specs.Outcome.{Outcome, finished}
use Rattle.peer.specs.Gate.{gate_of}
use Rattle.peer.specs.Sounds.{Whole}
use Rattle.peer.proofs.Gates.{openness, sound_open, behind_done, behind_open}
use Rattle.peer.specs.declared.settings.Settings.{Settings}
use Rattle.peer.specs.declared.Peer.{Peer}
use Rattle.outbox.specs.declared.pieces.Piece.{Piece}
use Rattle.setup.specs.Queueing.{room, queued_all}
use Rattle.packets.specs.Packets.{cut_by}
use Rattle.packets.specs.Refusals.{send_gate, queue_gate}
use Rattle.send.specs.Calls.{fragment, commands, queues_all, sends_sound, sends}
use Rattle.laws.specs.Done.{Sent, Cutting, Numbered, reliably}
use Rattle.send.proofs.Sound.{queue_room, gate_channel, commands_fit}

-- which kind a start is, and its number
abbrev is_reliable : Start → Bool
is_reliable (start.Reliable m) = true
is_reliable (start.Unreliable m) = false

abbrev kind_of : Start → ℕ
kind_of (start.Reliable m) = 0
kind_of (start.Unreliable m) = 1

abbrev number_of : Start → ℕ
number_of (start.Reliable m) = m.0
number_of (start.Unreliable m) = m.0

-- an open gate's settings fit
fit_open : (f g : Bool) → gate_of f g ≡ Ok tt → f ≡ true
fit_open true g e = refl
fit_open false g e = absurd (omega (arith, ap openness e))

-- a packet's commands all go to the list of its first
cut_to : (b : Start) (channel : ℕ) (f : Fragment) (offset n : ℕ)
    → to_reliable (record { command = cut_command b channel f; packet = true; offset = offset; length = n }) ≡ is_reliable b
cut_to (start.Reliable m) channel f offset n = refl
cut_to (start.Unreliable m) channel f offset n = refl

pieces_to : (x : Cut) (left j offset : ℕ) → AllTo (is_reliable x.start) (cut_from x left j offset)
unfolding cut_from
pieces_to x zero j offset = tt
pieces_to x (suc left) j offset =
    (cut_to x.start x.channel (fragment_of x j offset (length_at x offset)) offset (length_at x offset), pieces_to x left (j + 1) (offset + length_at x offset))

all_first : (b : Bool) (xs : List Piece) → AllTo b xs → AllTo (reliably xs) xs
all_first b [] to = tt
all_first b (x ∷ xs) to = subst (λ (c : Bool). AllTo c (x ∷ xs)) (sym to.0) to

commands_to : (fragment channel n flags : ℕ) (p : Peer) → AllTo (reliably (commands fragment channel n flags p)) (commands fragment channel n flags p)
commands_to fragment channel n flags p = go (leb n fragment)
  where
    c : Channel
    c = channel_at p.channels channel

    one : Piece
    one = whole flags c.outgoing_unreliable channel n

    x : Cut
    x = cut_by (start_of flags c.outgoing_reliable c.outgoing_unreliable) channel n fragment

    go : (b : Bool) → AllTo (reliably (pick b (one ∷ []) (pieces x))) (pick b (one ∷ []) (pieces x))
    go true = (refl, tt)
    go false = all_first (is_reliable x.start) (pieces x) (pieces_to x x.count 0 0)

-- the start is the number after the channel's
start_reliable : (flags : ℕ) (r : Reliable) (u : Unreliable) (m : Reliable) → start_of flags r u ≡ start.Reliable m → m.0 ≡ step r.0
start_reliable flags r u m = go (both (is_fragment flags) (both (not (reliable_flag flags)) (not (spent u))))
  where
    go : (b : Bool) → pick b (start.Unreliable (record { 0 = step u.0 })) (start.Reliable (record { 0 = step r.0 })) ≡ start.Reliable m → m.0 ≡ step r.0
    go true e = absurd (omega (arith, ap kind_of e))
    go false e = sym (ap number_of e)

start_unreliable : (flags : ℕ) (r : Reliable) (u : Unreliable) (m : Unreliable) → start_of flags r u ≡ start.Unreliable m → m.0 ≡ step u.0
start_unreliable flags r u m = go (both (is_fragment flags) (both (not (reliable_flag flags)) (not (spent u))))
  where
    go : (b : Bool) → pick b (start.Unreliable (record { 0 = step u.0 })) (start.Reliable (record { 0 = step r.0 })) ≡ start.Unreliable m → m.0 ≡ step u.0
    go true e = sym (ap number_of e)
    go false e = absurd (omega (arith, ap kind_of e))

module _ (s : Settings) (channel n flags : ℕ) (p : Peer) (w : Whole p) (z : (sends s channel n flags p).answer.number ≡ 0) where
  abbrev xs : List Piece
  xs = commands (fragment s p) channel n flags p

  first : gate_of (fit_settings s) (sound p) ≡ Ok tt
  first = behind_done (gate_of (fit_settings s) (sound p)) p (sends_sound s channel n flags p) z

  rest : sends s channel n flags p ≡ sends_sound s channel n flags p
  rest = behind_open (gate_of (fit_settings s) (sound p)) p (sends_sound s channel n flags p) first

  second : send_gate s channel n p.standing ≡ Ok tt
  second = behind_done (send_gate s channel n p.standing) p (queues_all xs p) (ap (λ (o : Outcome Peer). o.answer.number) (sym rest) ∙ z)

  then_all : sends s channel n flags p ≡ queues_all xs p
  then_all = rest ∙ behind_open (send_gate s channel n p.standing) p (queues_all xs p) second

  third : queue_gate (length xs) (room p) ≡ Ok tt
  third = behind_done (queue_gate (length xs) (room p)) p (finished (queued_all xs p)) (ap (λ (o : Outcome Peer). o.answer.number) (sym then_all) ∙ z)

  ready : Ready xs p
  ready =
      record {
        whole = w;
        good = sound_open (fit_settings s) (sound p) first;
        fit = commands_fit (fragment s p) channel n flags p (gate_channel s channel n p.standing second);
        few = leb-true (length xs) (room p) (queue_room (leb (length xs) most_fragments) (leb (length xs) (room p)) third);
      }

  queued : (sends s channel n flags p).after ≡ queued_all xs p
  queued = ap (λ (o : Outcome Peer). o.after) (then_all ∙ behind_open (queue_gate (length xs) (room p)) p (finished (queued_all xs p)) third)

  pub send_done : Sent s xs p (sends s channel n flags p).after
  send_done =
      let fit = fit_open (fit_settings s) (sound p) first in
      let e = all_ends (reliably xs) xs p ready (commands_to (fragment s p) channel n flags p) in
      rw queued
      (record {
        ready = ready;
        setups = sym (runs_queued s fit xs p ready);
        each = runs_done s fit xs p ready;
        slots = taken-frees xs p ready;
        ends = e.ends;
        holds = λ i h. taken-filled xs p i ready h;
        sent = e.sent;
        other = e.other;
        dispatched = e.dispatched;
        others = λ i h. taken_others xs p i h;
      })

  -- and where it was cut
  module _ (long : fragment s p < n) where
    abbrev r : Reliable
    r = (channel_at p.channels channel).outgoing_reliable

    abbrev u : Unreliable
    u = (channel_at p.channels channel).outgoing_unreliable

    abbrev x : Cut
    x = cut_by (start_of flags r u) channel n (fragment s p)

    cut_is : xs ≡ pieces x
    cut_is = ap (λ (b : Bool). pick b (whole flags u channel n ∷ []) (pieces x)) (lt-leb n (fragment s p) long)

    good : sound p ≡ true
    good = sound_open (fit_settings s) (sound p) first

    wide : 1 ≤ fragment s p
    wide = length_low p.flow.mtu s.checksum (mtu_low p good)

    on : channel < p.standing.channels
    on = ltb-true channel p.standing.channels (gate_channel s channel n p.standing second)

    numbers : (b : Start) → start_of flags r u ≡ b → (i : ℕ) → i < x.count → Numbered b channel p i (get_or (filled (pieces x) p) i no_outgoing)
    numbers (start.Reliable m) e i h =
        let v : m.0 ≡ step r.0 = start_reliable flags r u m e in
        rw v at (reliable_numbers x p w.channels (omega (arith, on, count_high p good)) (rw cut_is at ready) i h m e v)
    numbers (start.Unreliable m) e i h =
        let v : m.0 ≡ step u.0 = start_unreliable flags r u m e in
        rw v at (unreliable_numbers x p w.channels (omega (arith, on, count_high p good)) (rw cut_is at ready) i h m e v (omega (arith, long)) wide)

    pub send_cut : Cutting x p
    send_cut =
        record {
          together = span-pieces x (omega (arith, long)) wide refl;
          part = λ i d h. piece_part x i d h;
          full = λ i d h. full_piece x (omega (arith, long)) wide refl i d h;
          last = λ i d h. last_piece x (omega (arith, long)) wide refl i d h;
          numbers = numbers (start_of flags r u) refl;
        }
