-- The unsequenced arrival on the lent record: what judges it and what stores it, each one change after the other, and the call made of both.
-- The argument: each record on the way is given by its equation; the outcomes are those of Calling, on the record that the numbers are.
use Rattle.std.specs.Prelude.{Option}
use Prim.Native.Nat.{ℕ}
use mathlib.Core.Path.{◌≡◌, refl, ap, sym, subst, ◌∙◌}
use mathlib.Core.List.{List}
use lib.ListN.{length, set}
use Rattle.std.specs.Prelude.{⊤, Result, Ok, Err}
use Rattle.numbers.specs.declared.counters.Group.{Group}
use Rattle.numbers.specs.declared.refusals.Refusal.{Refusal}
use Rattle.record.specs.Updates.{in_longer}
use Rattle.record.specs.declared.groups.Standing.{Standing}
use Rattle.record.specs.declared.groups.Unsequenced.{Unsequenced}
use Rattle.record.specs.declared.groups.Waiting.{Waiting}
use Rattle.record.specs.declared.groups.Incoming.{Incoming}
use Rattle.peer.specs.Outcome.{Came}
use Rattle.peer.specs.Updates.{with_unsequenced, with_waiting, with_arrival}
use Rattle.peer.specs.declared.settings.Settings.{Settings}
use Rattle.peer.specs.declared.Peer.{Peer}
use Rattle.peer.specs.declared.gate.Lent.TheVariants.{Store}
use Rattle.peer.proofs.Gates.{AtGate}
use Rattle.places.specs.Updates.{with_incoming}
use Rattle.queues.specs.Queues.{put_dispatched}
use Rattle.arrival.proofs.Laws.{Leaves}
use Rattle.arrival.specs.Storing.{free_slot, delivered, awaiting, filled}
use Rattle.arrival.specs.Arrivals.{answer_of, arrival_gate, room_for, room_of, reply_of, arrived_slot}
use Rattle.arrival.specs.Window.{judge_window}
use Rattle.arrival.specs.declared.Arrival.{Arrival}
use Rattle.arrival.specs.declared.Arrived.{Arrived}
use Rattle.arrival.specs.declared.Arrived.TheVariants as arrived
use Rattle.arrival.specs.declared.Fate.{Fate}
use Rattle.arrival.specs.declared.Fate.TheVariants as fate
use Rattle.arrival.specs.declared.Judged.{Judged}
use Rattle.arrive_unsequenced.specs.Calls.{send_unsequenced, judged_on, arrives_unsequenced}
use Rattle.arrive_unsequenced.proofs.Calling.{arrive_refused, arrive_left, arrive_stored}

-- what judges: each part is what its reader answered, q is the record after the groups were written
pub judged_lent : (s : Settings) (group : Group) (p q : Peer) (free : Option ℕ) (standing : Standing) (waiting : Waiting) (room : Fate) (unsequenced : Unsequenced) (j : Judged)
    → free ≡ free_slot p.lists p.channels p.standing.channels → standing ≡ p.standing → waiting ≡ p.waiting
    → room ≡ room_for s standing.state waiting.total free → unsequenced ≡ p.unsequenced → j ≡ judge_window unsequenced group room → q ≡ with_unsequenced p j.unsequenced
    → (j.fate ≡ (judged_on s group p).fate) × (q ≡ with_unsequenced p (judged_on s group p).unsequenced)
judged_lent s group p q free standing waiting room unsequenced j f st w z g k e =
    let room_is : room ≡ room_of s p =
    z
    ∙ ap (λ (x : Standing). room_for s x.state waiting.total free) st
    ∙ ap (λ (x : Waiting). room_for s p.standing.state x.total free) w
    ∙ ap (room_for s p.standing.state p.waiting.total) f in
    let same : j ≡ judged_on s group p = k ∙ ap (λ (x : Unsequenced). judge_window x group room) g ∙ ap (judge_window p.unsequenced group) room_is in
    (ap (λ (x : Judged). x.fate) same, e ∙ ap (λ (x : Judged). with_unsequenced p x.unsequenced) same)

-- what stores: u after the list, v after the slot, z after the waiting total
pub delivered_lent : (p u v z : Peer) (a : Arrival) (n : ℕ) (old new : Waiting) (slot : Incoming)
    → old ≡ p.waiting → slot ≡ arrived_slot a → new ≡ awaiting old a.length
    → u ≡ put_dispatched p (in_longer p.lists.dispatched n) → v ≡ with_incoming u (set u.incoming n slot) → z ≡ with_waiting v new
    → z ≡ with_arrival p (delivered p.lists n) p.unsequenced (awaiting p.waiting a.length) p.channels (set p.incoming n (arrived_slot a))
delivered_lent p u v z a n old new slot o i w b c d =
    d
    ∙ ap (with_waiting v) (w ∙ ap (λ (x : Waiting). awaiting x a.length) o)
    ∙ ap (λ (y : Peer). with_waiting y (awaiting p.waiting a.length))
    (c
    ∙ ap (λ (x : Incoming). with_incoming u (set u.incoming n x)) i
    ∙ ap (λ (y : Peer). with_incoming y (set y.incoming n (arrived_slot a))) b)

-- the call: g is the gate's answer, standing what was read of the record, m the second gate's answer
module _ (s : Settings) (a : Arrival) (group : Group) (datagram : List ℕ) (p : Peer) (store second : List ℕ)
    (g : AtGate s (Store (length store)) p) (opens : g.gate ≡ Ok tt)
    (standing : Standing) (b : standing ≡ p.standing) (m : Result ⊤ Refusal) (is : m ≡ arrival_gate send_unsequenced a s standing (length datagram)) where
  abbrev Comes : Result Arrived Refusal → Peer → List ℕ → Type 0
  Comes r y cells = Came answer_of (arrives_unsequenced s a group datagram (record { peer = p; store = store; second = second })) r (record { peer = y; store = cells; second = second })

  may_is : m ≡ arrival_gate send_unsequenced a s p.standing (length datagram)
  may_is = is ∙ ap (λ (x : Standing). arrival_gate send_unsequenced a s x (length datagram)) b

  pub lent_refused : (why : Refusal) → m ≡ Err why → Comes (Err why) p store
  lent_refused = arrive_refused s a group datagram p store second g opens m may_is

  -- f and q are what judged it answered and left
  module _ (may : m ≡ Ok tt) (f : Fate) (q : Peer) (t : f ≡ (judged_on s group p).fate) (r : q ≡ with_unsequenced p (judged_on s group p).unsequenced) where
    pub lent_left : Leaves f → (y : Result Arrived Refusal) → y ≡ reply_of f → Comes y q store
    lent_left k y z =
        subst (λ (x : Peer). Comes y x store) (sym r)
        (arrive_left s a group datagram p store second g opens m may_is may (free_slot p.lists p.channels p.standing.channels) refl
        (room_of s p) refl (judged_on s group p) refl (subst Leaves t k) y (z ∙ ap reply_of t))

    pub lent_stored : (n : ℕ) → f ≡ fate.Stored n → (z : Peer) (cells : List ℕ)
        → z ≡ with_arrival q (delivered q.lists n) q.unsequenced (awaiting q.waiting a.length) q.channels (set q.incoming n (arrived_slot a))
        → cells ≡ filled store n datagram a.place a.length
        → Comes (Ok arrived.Stored) z cells
    lent_stored n w z cells d h =
        subst (λ (x : Peer). Comes (Ok arrived.Stored) x cells)
        (sym (d
        ∙ ap (λ (y : Peer). with_arrival y (delivered y.lists n) y.unsequenced (awaiting y.waiting a.length) y.channels (set y.incoming n (arrived_slot a))) r))
        (arrive_stored s a group datagram p store second g opens m may_is may (free_slot p.lists p.channels p.standing.channels) refl
        (room_of s p) refl (judged_on s group p) refl n (sym t ∙ w) (arrived_slot a) (delivered p.lists n) (awaiting p.waiting a.length) cells refl refl refl h)
