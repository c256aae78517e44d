-- A send's loop: after some of its commands, what all of them make of the record is what those left make of it as stored so far. And what
-- the send then comes to. The argument: a turn is setup's `turn_on`; at the end none is left, and what is stored is the send's record.
use Prim.Native.Nat.{ℕ, ◌+◌, ◌-◌, ◌≤◌, ◌<◌}
use mathlib.Core.Path.{◌≡◌, refl, ap, sym, ◌∙◌}
use mathlib.Core.Bool.{Bool, true, false, not}
use mathlib.Core.List.{List, [], ◌∷◌}
use native.Mathlib.Omega.{arith}
use lib.Dec.{leb}
use lib.ListN.{length, set, replicate}
use borrow.Author.Tests.{ltb-true, leb-true}
use Rattle.std.specs.Prelude.{⊤, Result, Ok, Err}
use Rattle.numbers.specs.Pick.{pick, both}
use Rattle.numbers.specs.Limits.{most_fragments}
use Rattle.numbers.specs.declared.counters.Reliable.{Reliable}
use Rattle.numbers.specs.declared.counters.Unreliable.{Unreliable}
use Rattle.numbers.specs.declared.refusals.Refusal.{Refusal}
use Rattle.record.specs.Lists.{outgoing}
use Rattle.cells.specs.Free.{marked_all}
use Rattle.record.specs.Sizes.{channels}
use Rattle.record.specs.Damage.{used_out}
use Rattle.record.specs.Updates.{with_outgoing_total, with_reliable, with_outgoing_group, with_queued, with_numbers}
use Rattle.record.specs.declared.groups.Channel.{Channel}
use Rattle.peer.specs.Damage.{sound}
use Rattle.peer.specs.Outcome.{Came, finished}
use Rattle.peer.specs.Gate.{then, behind}
use Rattle.peer.specs.Sounds.{Whole}
use Rattle.peer.specs.Calls.{answer_of}
use Rattle.peer.specs.Updates.{renewed, with_outgoing}
use Rattle.peer.specs.declared.settings.Settings.{Settings}
use Rattle.peer.specs.declared.Peer.{Peer}
use Rattle.peer.specs.declared.gate.Lent.TheVariants.{Nothing}
use Rattle.peer.proofs.Gates.{openness, open_sound, behind_shut, behind_open, then-behind, came_open, AtGate}
use Rattle.outbox.specs.Counting.{channel_at}
use Rattle.outbox.specs.CodeOutboxes.{queueing, outbox_of}
use Rattle.outbox.specs.declared.pieces.Piece.{Piece}
use Rattle.outbox.specs.CodeOutboxes.{Outbox}
use Rattle.outbox.specs.CodeOutboxes.{Queued}
use Rattle.setup.specs.Queueing.{room, queued_all}
use Rattle.setup.specs.Taking.{Ready}
use Rattle.setup.proofs.Stored.{stored, Says, says_first, stored_first, Turned, turn_on}
use Rattle.packets.specs.Packets.{is_reliable, is_unsequenced, spent, blank, reliable_byte, unreliable_byte, unsequenced_byte, whole, start_of, cut_command, pieces}
use Rattle.packets.specs.Packets.{cut_by}
use Rattle.packets.specs.Refusals.{send_gate, queue_gate}
use Rattle.send.specs.Calls.{fragment, commands, sends_sound, sends}
use Rattle.packets.specs.CodePlans.{packet_of, pieces_of, count_of, left_of, piece_at, next_at}
use Rattle.packets.specs.declared.Cut.{Cut}
use Rattle.packets.specs.declared.Start.{Start}
use Rattle.packets.specs.declared.Start.TheVariants as start
use Rattle.command.specs.declared.fields.Fragment.{Fragment}
use Rattle.command.specs.declared.fields.Fields.TheVariants.{SendReliable, SendUnreliable, SendUnsequenced}
use Rattle.packets.specs.declared.plans.Packet.{Packet}
use Rattle.packets.specs.declared.plans.Packet.TheVariants.{One, Pieces}
use Rattle.peer.proofs.Ranges.{count_high}
use Rattle.packets.proofs.Planning.{left_all, left-length, left_turn, left_end}
use Rattle.send.proofs.Sound.{queue_room, gate_channel, commands_fit}

module _ (x : Packet) (count channel : ℕ) (p₀ : Peer) where
  pub record Going (p : Peer) (o : Outbox) (j offset : ℕ) : Type 0 where
    pub low : j ≤ count
    pub on : (j offset : ℕ) → (piece_at x j offset).command.channel ≡ channel
    pub within : channel < channels
    pub here : channel < length p.channels
    pub says : Says o.marks (used_out o.lists)
    pub ready : Ready (left_of x (count - j) j offset) (stored p channel o p.outgoing)
    pub same : queued_all (pieces_of x) p₀ ≡ queued_all (left_of x (count - j) j offset) (stored p channel o p.outgoing)

  module _ (p : Peer) (o : Outbox) (j offset : ℕ) (g : Going p o j offset) where
    module _ (h : j < count) (q : Queued) (qe : q ≡ queueing o (piece_at x j offset)) where
      abbrev y : Piece
      y = piece_at x j offset

      rest : List Piece
      rest = left_of x (count - (j + 1)) (j + 1) (next_at x offset)

      split : left_of x (count - j) j offset ≡ y ∷ rest
      unfolding rest
      split = left_turn x count j offset h

      turned : Turned y rest p channel o q
      turned =
          turn_on y rest p channel (g.on j offset) g.here o g.says (rw split at g.ready) q qe

      pub going_exists : q.at < outgoing
      going_exists = turned.exists

      pub going_turn : (next : ℕ) → next ≡ next_at x offset → Going (with_outgoing p (set p.outgoing q.at q.slot)) q.outbox (j + 1) next
      unfolding rest queued_all
      going_turn next ne =
          rw ne
          (record {
            low = omega arith;
            on = g.on;
            within = g.within;
            here = g.here;
            says = turned.says;
            ready = turned.ready;
            same =
                g.same
                ∙ ap (λ (l : List Piece). queued_all l (stored p channel o p.outgoing)) split
                ∙ ap (queued_all rest) turned.next;
          })

    pub going_end : count ≤ j → queued_all (pieces_of x) p₀ ≡ stored p channel o p.outgoing
    unfolding queued_all
    going_end h = g.same ∙ ap (λ (l : List Piece). queued_all l (stored p channel o p.outgoing)) (left_end x count j offset h)

-- ---- what a packet's commands are: by the two numbers of one of the channels
abbrev packet_on : ℕ → List Channel → ℕ → ℕ → ℕ → Packet
packet_on flags cs channel = packet_of flags (channel_at cs channel).outgoing_reliable (channel_at cs channel).outgoing_unreliable channel

pub packet_pieces : (fragment channel n flags : ℕ) (p : Peer)
    → pieces_of (packet_on flags p.channels channel n fragment) ≡ commands fragment channel n flags p
packet_pieces fragment channel n flags p = go (leb n fragment)
  where
    u : Unreliable
    u = (channel_at p.channels channel).outgoing_unreliable

    x : Cut
    x = cut_by (start_of flags (channel_at p.channels channel).outgoing_reliable u) channel n fragment

    go : (b : Bool) → pieces_of (pick b (One (whole flags u channel n)) (Pieces x)) ≡ pick b (whole flags u channel n ∷ []) (pieces x)
    go true = refl
    go false = refl

cut_channel : (s : Start) (channel : ℕ) (f : Fragment) → (cut_command s channel f).channel ≡ channel
cut_channel (start.Reliable n) channel f = refl
cut_channel (start.Unreliable n) channel f = refl

whole-channel : (flags : ℕ) (u : Unreliable) (channel n : ℕ) → (whole flags u channel n).command.channel ≡ channel
whole-channel flags u channel n = go (both (is_unsequenced flags) (not (is_reliable flags))) (pick (is_reliable flags) true (spent u))
  where
    go : (a b : Bool)
        → (pick a (blank unsequenced_byte channel (SendUnsequenced (record { 0 = 0 }) n))
        (pick b (blank reliable_byte channel (SendReliable n)) (blank unreliable_byte channel (SendUnreliable (record { 0 = 0 }) n)))).channel
        ≡ channel
    go true b = refl
    go false true = refl
    go false false = refl

packet_on_lem : (flags : ℕ) (cs : List Channel) (channel n fragment j offset : ℕ) → (piece_at (packet_on flags cs channel n fragment) j offset).command.channel ≡ channel
packet_on_lem flags cs channel n fragment j offset = go (leb n fragment)
  where
    r : Reliable
    r = (channel_at cs channel).outgoing_reliable

    u : Unreliable
    u = (channel_at cs channel).outgoing_unreliable

    go : (b : Bool) → (piece_at (pick b (One (whole flags u channel n)) (Pieces (cut_by (start_of flags r u) channel n fragment))) j offset).command.channel ≡ channel
    go true = whole-channel flags u channel n
    go false = cut_channel (start_of flags r u) channel _

-- a gate after another is open only where both are
then_first : (g h : Result ⊤ Refusal) → then g h ≡ Ok tt → g ≡ Ok tt
then_first (Ok _) h e = refl
then_first (Err why) h e = e

then_second : (g h : Result ⊤ Refusal) → then g h ≡ Ok tt → h ≡ Ok tt
then_second (Ok _) h e = e
then_second (Err why) h e = absurd (omega (arith, ap openness e))

-- ---- the send: ws, g, o, size, x, count and k are what the code answered
module _ (s : Settings) (channel n flags : ℕ) (p : Peer) (g : AtGate s Nothing p)
    (passed : g.gate ≡ Ok tt) (o : Outbox) (oe : o ≡ outbox_of p.totals p.waiting p.flow p.unsequenced p.channels channel p.lists) (size : ℕ)
    (se : size ≡ fragment s p) (x : Packet) (xe : x ≡ packet_of flags o.counters.reliable o.counters.unreliable channel n size) (count : ℕ)
    (ce : count ≡ count_of x) (k : Result ⊤ Refusal) (ke : k ≡ then (send_gate s channel n p.standing) (queue_gate count (room p))) where
  good : sound p ≡ true
  good = open_sound g passed

  abbrev xs : List Piece
  xs = commands (fragment s p) channel n flags p

  is : x ≡ packet_on flags p.channels channel n (fragment s p)
  is =
      xe
      ∙ ap (λ (o : Outbox). packet_of flags o.counters.reliable o.counters.unreliable channel n size) oe
      ∙ ap (packet_on flags p.channels channel n) se

  pieces_are : pieces_of x ≡ xs
  pieces_are = ap pieces_of is ∙ packet_pieces (fragment s p) channel n flags p

  count_is : count ≡ length xs
  count_is = ce ∙ sym (left-length x) ∙ ap length pieces_are

  gates : Result ⊤ Refusal
  gates = then (send_gate s channel n p.standing) (queue_gate (length xs) (room p))

  gates_are : k ≡ gates
  unfolding gates
  gates_are =
      ke
      ∙ ap (λ (m : ℕ). then (send_gate s channel n p.standing) (queue_gate m (room p))) count_is

  send_is : sends_sound s channel n flags p ≡ behind gates p (finished (queued_all xs p))
  unfolding gates
  send_is = sym (then-behind (send_gate s channel n p.standing) (queue_gate (length xs) (room p)) p (finished (queued_all xs p)))

  pub send_shut : (why : Refusal) → k ≡ Err why → Came answer_of (sends s channel n flags p) (Err why) p
  send_shut why q =
      came_open g p (sends_sound s channel n flags p) answer_of (Err why) p passed
      (rw (send_is, behind_shut gates p (finished (queued_all xs p)) why (sym gates_are ∙ q)) (record { answer = refl; after = refl }))

  module _ (w : Whole p) (q : k ≡ Ok tt) where
    opened : gates ≡ Ok tt
    opened = sym gates_are ∙ q

    first : send_gate s channel n p.standing ≡ Ok tt
    unfolding gates
    first = then_first (send_gate s channel n p.standing) (queue_gate (length xs) (room p)) opened

    few : length xs ≤ room p
    unfolding gates
    few =
        leb-true (length xs) (room p)
        (queue_room (leb (length xs) most_fragments) (leb (length xs) (room p))
        (then_second (send_gate s channel n p.standing) (queue_gate (length xs) (room p)) opened))

    on : channel < p.standing.channels
    on = ltb-true channel p.standing.channels (gate_channel s channel n p.standing first)

    within : channel < channels
    within = omega (arith, on, count_high p good)

    here : channel < length p.channels
    here = omega (arith, within, w.channels)

    stored_is : stored p channel o p.outgoing ≡ p
    stored_is = ap (λ (o : Outbox). stored p channel o p.outgoing) oe ∙ stored_first p channel here (marked_all (replicate outgoing 0) (used_out p.lists))

    start_left : left_of x (count - 0) 0 0 ≡ xs
    start_left = ap (λ (m : ℕ). left_of x (m - 0) 0 0) ce ∙ left_all x ∙ pieces_are

    pub going_start : Going x count channel p p o 0 0
    going_start =
        record {
          low = omega arith;
          on = λ j offset. rw is (packet_on_lem flags p.channels channel n (fragment s p) j offset);
          within = within;
          here = here;
          says = rw oe (says_first (used_out p.lists));
          ready =
              rw (start_left, stored_is)
              (record { whole = w; good = good; fit = commands_fit (fragment s p) channel n flags p (gate_channel s channel n p.standing first); few = few });
          same = rw (start_left, stored_is, pieces_are);
        }

    -- own is the channel as the code read it; c is what it made
    pub send_left : (r : Peer) (o' : Outbox) (j offset : ℕ) → Going x count channel p r o' j offset → count ≤ j
        → (own c : Channel) → own ≡ channel_at r.channels channel → c ≡ with_numbers own o'.counters.reliable o'.counters.unreliable
        → Came answer_of (sends s channel n flags p) (Ok tt)
        (renewed r r.standing (with_outgoing_total r.totals o'.total) r.times r.loss (with_reliable r.flow o'.counters.own) o'.lists
        (with_outgoing_group r.unsequenced o'.counters.group) (with_queued r.waiting o'.queued) (set r.channels channel c) r.outgoing)
    send_left r o' j offset t h own c oe' ke' =
        came_open g p (sends_sound s channel n flags p) answer_of (Ok tt) _ passed
        (rw (send_is, behind_open gates p (finished (queued_all xs p)) opened)
        (record {
          answer = refl;
          after = rw (ke', oe') (sym (ap (λ (l : List Piece). queued_all l p) (sym pieces_are) ∙ going_end x count channel p r o' j offset t h));
        }))
