-- A send on the lent record: its loop keeps what the loop of Going keeps, of the record as it then is and its outbox, the lists put to it.
-- The argument: what is stored puts the outbox's lists over the record's, so lists that change in their places make no difference; all else is Going's.
use Prim.Native.Nat.{ℕ, ◌+◌, ◌≤◌, ◌<◌}
use mathlib.Core.Path.{◌≡◌, refl, sym, subst}
use mathlib.Core.List.{List}
use lib.ListN.{set}
use Rattle.std.specs.Prelude.{⊤, Result, Ok, Err}
use Rattle.numbers.specs.declared.refusals.Refusal.{Refusal}
use Rattle.record.specs.Updates.{with_numbers}
use Rattle.record.specs.declared.groups.Lists.{Lists}
use Rattle.peer.specs.Outcome.{Came}
use Rattle.peer.specs.Gate.{then}
use Rattle.peer.specs.Sounds.{Whole}
use Rattle.peer.specs.Calls.{answer_of}
use Rattle.peer.specs.Updates.{with_lists, with_outgoing}
use Rattle.peer.specs.declared.settings.Settings.{Settings}
use Rattle.peer.specs.declared.Peer.{Peer}
use Rattle.peer.specs.declared.gate.Lent.TheVariants.{Nothing}
use Rattle.peer.proofs.Gates.{AtGate}
use Rattle.outbox.specs.Counting.{channel_at}
use Rattle.outbox.specs.CodeOutboxes.{queueing, outbox_of}
use Rattle.outbox.specs.CodePlaces.{in_lists, queued_by, closed}
use Rattle.outbox.specs.CodeOutboxes.{Outbox}
use Rattle.outbox.specs.declared.Outbox as lent
use Rattle.outbox.proofs.PlaceLaws.{Sets}
use Rattle.setup.specs.Queueing.{room}
use Rattle.packets.specs.Refusals.{send_gate, queue_gate}
use Rattle.packets.specs.CodePlans.{packet_of, count_of, piece_at, next_at}
use Rattle.packets.specs.declared.plans.Packet.{Packet}
use Rattle.send.specs.Calls.{fragment, sends}
use Rattle.send.proofs.Going.{Going, going_start, going_turn, send_shut, send_left}

module _ (x : Packet) (count channel : ℕ) (p₀ : Peer) where
  -- the loop on the lent record: p as it then is, o without its lists, and its marks
  abbrev pub Goes : Peer → lent.Outbox → List ℕ → ℕ → ℕ → Type 0
  Goes p o marks j offset = Going x count channel p₀ p (in_lists o marks p.lists) j offset

  -- the record's own lists do not enter
  other_lists : (p : Peer) (l : Lists) (o : Outbox) (j offset : ℕ) → Going x count channel p₀ p o j offset → Going x count channel p₀ (with_lists p l) o j offset
  other_lists p l o j offset g =
      record { low = g.low; on = g.on; within = g.within; here = g.here; says = g.says; ready = g.ready; same = g.same }

  pub goes_turn : (p : Peer) (o : lent.Outbox) (marks : List ℕ) (j offset : ℕ) → Goes p o marks j offset → j < count → (r : lent.Outbox) (after : List ℕ) (y : Peer)
      → Sets p o marks (piece_at x j offset) r after y → (next : ℕ) → next ≡ next_at x offset → Goes y r after (j + 1) next
  goes_turn p o marks j offset g h r after y made next ne =
      let q = queueing (in_lists o marks p.lists) (piece_at x j offset) in
      let t = going_turn x count channel p₀ p (in_lists o marks p.lists) j offset g h q refl next ne in
      subst (λ (y : Peer). Goes y r after (j + 1) next) (sym made.1)
      (subst (λ (o : Outbox). Going x count channel p₀ (queued_by p q) o (j + 1) next) (sym made.0)
      (other_lists (with_outgoing p (set p.outgoing q.at q.slot)) q.outbox.lists q.outbox (j + 1) next t))

-- ---- the send: g, o with its marks, x, count and k are what the code answered
module _ (s : Settings) (channel n flags : ℕ) (p : Peer) (g : AtGate s Nothing p) (passed : g.gate ≡ Ok tt) (o : lent.Outbox) (marks : List ℕ)
    (oe : in_lists o marks p.lists ≡ outbox_of p.totals p.waiting p.flow p.unsequenced p.channels channel p.lists) (x : Packet)
    (xe : x ≡ packet_of flags o.counters.reliable o.counters.unreliable channel n (fragment s p)) (count : ℕ) (ce : count ≡ count_of x) (k : Result ⊤ Refusal)
    (ke : k ≡ then (send_gate s channel n p.standing) (queue_gate count (room p))) where
  pub lent_shut : (why : Refusal) → k ≡ Err why → Came answer_of (sends s channel n flags p) (Err why) p
  lent_shut =
      send_shut s channel n flags p g passed (in_lists o marks p.lists) oe (fragment s p) refl x xe count ce k ke

  module _ (w : Whole p) (opened : k ≡ Ok tt) where
    pub goes_start : Goes x count channel p p o marks 0 0
    goes_start =
        going_start s channel n flags p g passed (in_lists o marks p.lists) oe (fragment s p) refl x xe count ce k ke w opened

    -- y is the record after the loop, z with the numbers back
    pub lent_left : (y : Peer) (r : lent.Outbox) (after : List ℕ) (j offset : ℕ) → Goes x count channel p y r after j offset → count ≤ j → (z : Peer) → z ≡ closed y channel r
        → Came answer_of (sends s channel n flags p) (Ok tt) z
    lent_left y r after j offset t h z ze =
        subst (λ (z : Peer). Came answer_of (sends s channel n flags p) (Ok tt) z) (sym ze)
        (send_left s channel n flags p g passed (in_lists o marks p.lists) oe (fragment s p) refl x xe count ce k ke w opened y
        (in_lists r after y.lists) j offset t h (channel_at y.channels channel)
        (with_numbers (channel_at y.channels channel) r.counters.reliable r.counters.unreliable) refl refl)
