-- The reliable arrival on the lent record comes out as the rule says. The argument: what the code reads of the record is the record's, so the laws of
-- Calling hold of it; the changes one after the other are the rule's record, the channel altered twice being altered once.
use Rattle.std.specs.Prelude.{⊤, Result, Ok, Err, Option}
use Rattle.std.proofs.Common.{◌≡◌, ℕ, ◌<◌, Bool, List, length, set, sym, refl, ap, ◌∙◌, subst, get_or-set_same, set-set}
use Rattle.numbers.specs.declared.refusals.Refusal.{Refusal}
use Rattle.record.specs.Sizes.{channels}
use Rattle.record.specs.Fresh.{no_channel}
use Rattle.record.specs.declared.groups.Standing.{Standing}
use Rattle.record.specs.declared.groups.Channel.{Channel}
use Rattle.record.specs.declared.groups.Waiting.{Waiting}
use Rattle.record.specs.declared.groups.Incoming.{Incoming}
use Rattle.peer.specs.Outcome.{State, Outcome, Came}
use Rattle.peer.specs.Updates.{with_arrival, with_channels, with_waiting}
use Rattle.peer.specs.declared.settings.Settings.{Settings}
use Rattle.peer.specs.declared.Peer.{Peer}
use Rattle.peer.specs.declared.gate.Lent.TheVariants.{Store}
use Rattle.peer.proofs.Gates.{AtGate}
use Rattle.places.specs.Updates.{channel_at, with_incoming}
use Rattle.arrival.proofs.Laws.{Leaves}
use Rattle.arrival.specs.Storing.{free_slot, awaiting, filled}
use Rattle.dispatch.specs.Dispatching.{dispatched_by}
use Rattle.dispatch.specs.Calls.{with_dispatch, dispatched_on}
use Rattle.arrival.specs.Arrivals.{answer_of, arrival_gate, room_for, room_of, reply_of, arrived_slot}
use Rattle.arrival.specs.declared.Arrival.{Arrival}
use Rattle.arrival.specs.declared.Arrived.{Arrived}
use Rattle.arrival.specs.declared.Arrived.TheVariants as arrived
use Rattle.arrival.specs.declared.Fate.{Fate}
use Rattle.arrival.specs.declared.Fate.TheVariants as fate
use Rattle.arrive_reliable.specs.Holding.{is_passed, held_with}
use Rattle.arrive_reliable.specs.Calls.{send_reliable, channel_of, fate_of, fate_on, arrives_reliable}
use Rattle.arrive_reliable.specs.CodeSettling.{settled_on}
use Rattle.arrive_reliable.proofs.Calling.{arrive_shut, arrive_refused, channel_exists, arrive_left, arrive_stored}

-- what becomes of it, by what was read of the record
pub fate_read : (s : Settings) (a : Arrival) (p : Peer) (standing : Standing) (waiting : Waiting) (free : Option ℕ) (room : Fate) (passed : Bool) (f : Fate)
    → standing ≡ p.standing → waiting ≡ p.waiting → free ≡ free_slot p.lists p.channels p.standing.channels → room ≡ room_for s standing.state waiting.total free
    → passed ≡ is_passed p.incoming (channel_of a p) a.number.0 → f ≡ fate_of passed room → f ≡ fate_on s a p
fate_read s a p standing waiting free room passed f es ew ef er ep e =
    e
    ∙ ap (fate_of passed)
    (er
    ∙ ap (λ (x : Standing). room_for s x.state waiting.total free) es
    ∙ ap (λ (x : Waiting). room_for s p.standing.state x.total free) ew
    ∙ ap (room_for s p.standing.state p.waiting.total) ef)
    ∙ ap (λ (x : Bool). fate_of x (room_of s p)) ep

-- the changes of what is stored
pub settled : (p q r t u : Peer) (i n s : ℕ) (slot : Incoming) (waiting : Waiting) → i < length p.channels
    → q ≡ with_channels p (set p.channels i (held_with p.incoming (channel_at p i) n s)) → r ≡ with_incoming q (set q.incoming s slot) → t ≡ with_waiting r waiting
    → u ≡ dispatched_on i t → u ≡ settled_on i n s slot waiting p
settled p q r t u i n s slot waiting h eq er et eu =
    let slots = set p.incoming s slot in
    let own = held_with p.incoming (channel_at p i) n s in
    let d = dispatched_by slots own p.lists p.unsequenced in
    let stored = with_arrival p p.lists p.unsequenced waiting (set p.channels i own) slots in
    eu
    ∙ ap (dispatched_on i) (et ∙ ap (λ (x : Peer). with_waiting x waiting) (er ∙ ap (λ (x : Peer). with_incoming x (set x.incoming s slot)) eq))
    ∙ ap (λ (c : Channel). with_dispatch i (dispatched_by slots c p.lists p.unsequenced) stored) (get_or-set_same p.channels i own no_channel h)
    ∙ ap (λ (cs : List Channel). with_arrival p d.lists d.unsequenced waiting cs slots) (set-set p.channels i own d.channel)

-- g is what the gate answered
module _ (s : Settings) (a : Arrival) (datagram : List ℕ) (p : Peer) (store second : List ℕ) (g : AtGate s (Store (length store)) p) where
  abbrev found : State
  found = record { peer = p; store = store; second = second }

  abbrev outcome : Outcome State
  outcome = arrives_reliable s a datagram found

  pub lent_shut : (why : Refusal) → g.gate ≡ Err why → Came answer_of outcome (Err why) found
  lent_shut why q = arrive_shut s a datagram p store second g why q

  -- m is what the second gate answered
  module _ (opens : g.gate ≡ Ok tt) (standing : Standing) (st : standing ≡ p.standing) (m : Result ⊤ Refusal) (is : m ≡ arrival_gate send_reliable a s standing (length datagram)) where
    same : m ≡ arrival_gate send_reliable a s p.standing (length datagram)
    same = is ∙ ap (λ (x : Standing). arrival_gate send_reliable a s x (length datagram)) st

    pub lent_refused : (why : Refusal) → m ≡ Err why → Came answer_of outcome (Err why) found
    lent_refused why q = arrive_refused s a datagram p store second g opens m same why q

    module _ (may : m ≡ Ok tt) where
      pub lent_channel : a.channel < channels
      lent_channel = channel_exists s a datagram p store second g opens m same may

      -- f is what becomes of it
      module _ (f : Fate) (w : f ≡ fate_on s a p) where
        abbrev free : Option ℕ
        free = free_slot p.lists p.channels p.standing.channels

        abbrev room : Fate
        room = room_for s p.standing.state p.waiting.total free

        abbrev passed : Bool
        passed = is_passed p.incoming (channel_of a p) a.number.0

        pub lent_left : Leaves f → (r : Result Arrived Refusal) → r ≡ reply_of f → Came answer_of outcome r found
        lent_left k r q =
            arrive_left s a datagram p store second g opens m same may free refl room refl (channel_of a p) refl passed refl f w k r q

        pub lent_stored : (n : ℕ) → f ≡ fate.Stored n → (slot : Incoming) (before waiting : Waiting) (cells : List ℕ) (q : Peer) → slot ≡ arrived_slot a → before ≡ p.waiting
            → waiting ≡ awaiting before a.length → cells ≡ filled store n datagram a.place a.length → q ≡ settled_on a.channel a.number.0 n slot waiting p
            → Came answer_of outcome (Ok arrived.Stored) (record { peer = q; store = cells; second = second })
        lent_stored n t slot before waiting cells q ei eb ew ec done =
            let longer = held_with p.incoming (channel_of a p) a.number.0 n in
            subst (λ (y : Peer). Came answer_of outcome (Ok arrived.Stored) (record { peer = y; store = cells; second = second })) (sym done)
            (arrive_stored s a datagram p store second g opens m same may free refl room refl (channel_of a p) refl passed refl f w n t
            longer slot (dispatched_by (set p.incoming n slot) longer p.lists p.unsequenced) waiting cells refl ei refl
            (ew ∙ ap (λ (x : Waiting). awaiting x a.length) eb) ec)
