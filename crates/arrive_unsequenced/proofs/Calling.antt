-- The unsequenced arrival comes out as the rule says: refused by either gate, left by its fate, or stored. The argument: each part that the
-- code makes is given by its equation, so the state made of them is the rule's; what is stored has a free slot, and that slot exists.
use Rattle.std.specs.Prelude.{Option}
use Prim.Native.Nat.{ℕ, ◌<◌}
use mathlib.Core.Path.{◌≡◌, refl, ap, sym, ◌∙◌}
use mathlib.Core.List.{List}
use lib.ListN.{length, set}
use Rattle.std.specs.Prelude.{⊤, Result, Ok, Err}
use Rattle.numbers.specs.declared.counters.Group.{Group}
use Rattle.numbers.specs.declared.refusals.Refusal.{Refusal}
use Rattle.cells.proofs.Lowest.{lowest_exists}
use Rattle.record.specs.Lists.{incoming}
use Rattle.record.specs.Damage.{below, used_in}
use Rattle.record.specs.declared.groups.Lists.{Lists}
use Rattle.record.specs.declared.groups.Waiting.{Waiting}
use Rattle.record.specs.declared.groups.Incoming.{Incoming}
use Rattle.peer.specs.Outcome.{State, Outcome, Came}
use Rattle.peer.specs.Gate.{behind}
use Rattle.peer.specs.Updates.{with_arrival}
use Rattle.peer.specs.declared.settings.Settings.{Settings}
use Rattle.peer.specs.declared.Peer.{Peer}
use Rattle.peer.specs.declared.gate.Lent.TheVariants.{Store}
use Rattle.peer.proofs.Gates.{came_shut, came_open, AtGate}
use Rattle.arrival.specs.Storing.{free_slot, delivered, awaiting, filled}
use Rattle.arrival.specs.Arrivals.{answer_of, arrival_gate, room_for, reply_of, arrived_slot}
use Rattle.arrival.specs.Window.{judge_window}
use Rattle.arrival.specs.declared.Arrival.{Arrival}
use Rattle.arrival.specs.declared.Arrived.{Arrived}
use Rattle.arrival.specs.declared.Arrived.TheVariants as arrived
use Rattle.arrival.specs.declared.Fate.{Fate}
use Rattle.arrival.specs.declared.Fate.TheVariants as fate
use Rattle.arrival.specs.declared.Judged.{Judged}
use Rattle.arrival.proofs.Laws.{Leaves, judged_stored, room_stored}
use Rattle.arrive_unsequenced.specs.Calls.{send_unsequenced, regrouped, unsequenced_after, judged_on, unsequenced_sound, arrives_unsequenced}

-- ws and g are what the code answered
module _ (s : Settings) (a : Arrival) (group : Group) (datagram : List ℕ) (p : Peer) (store second : List ℕ)
    (g : AtGate s (Store (length store)) p) where
  abbrev found : State
  found = record { peer = p; store = store; second = second }

  abbrev outcome : Outcome State
  outcome = arrives_unsequenced s a group datagram found

  -- what comes of it by a verdict
  abbrev by : Judged → Outcome State
  by j = record { answer = answer_of (reply_of j.fate); after = unsequenced_after j.fate j.unsequenced a datagram found }

  pub arrive_shut : (why : Refusal) → g.gate ≡ Err why → Came answer_of outcome (Err why) found
  arrive_shut why q =
      came_shut g found (unsequenced_sound s a group datagram found) answer_of (Err why) why refl q

  -- m is what the second gate answered
  module _ (opens : g.gate ≡ Ok tt) (m : Result ⊤ Refusal) (is : m ≡ arrival_gate send_unsequenced a s p.standing (length datagram)) where
    came : (r : Result Arrived Refusal) (y : State) → Came answer_of (behind m found (by (judged_on s group p))) r y → Came answer_of outcome r y
    came r y c =
        came_open g found (unsequenced_sound s a group datagram found) answer_of r y opens (rw is at c)

    pub arrive_refused : (why : Refusal) → m ≡ Err why → Came answer_of outcome (Err why) found
    arrive_refused why q = came (Err why) found (rw q (record { answer = refl; after = refl }))

    -- free, room and j are what the helpers answered
    module _ (may : m ≡ Ok tt) (free : Option ℕ) (f : free ≡ free_slot p.lists p.channels p.standing.channels)
        (room : Fate) (z : room ≡ room_for s p.standing.state p.waiting.total free) (j : Judged) (w : j ≡ judge_window p.unsequenced group room) where
      judged_is : j ≡ judged_on s group p
      judged_is =
          w ∙ ap (judge_window p.unsequenced group) (z ∙ ap (room_for s p.standing.state p.waiting.total) f)

      went : (r : Result Arrived Refusal) (y : State) → Came answer_of (by j) r y → Came answer_of outcome r y
      went r y c = came r y (rw may (rw judged_is at c))

      pub arrive_left : Leaves j.fate → (r : Result Arrived Refusal) → r ≡ reply_of j.fate
          → Came answer_of outcome r (regrouped found j.unsequenced)
      arrive_left k r q = went r (regrouped found j.unsequenced) (record { answer = ap answer_of q; after = go j.fate k })
        where
          go : (f : Fate) → Leaves f → regrouped found j.unsequenced ≡ unsequenced_after f j.unsequenced a datagram found
          go fate.Passed k = refl
          go fate.NoRoom k = refl
          go (fate.Stored n) k = absurd (k n refl)

      module _ (n : ℕ) (t : j.fate ≡ fate.Stored n) where
        pub slot_exists : n < incoming
        slot_exists =
            lowest_exists incoming (used_in p.lists (below p.channels p.standing.channels)) n
            (sym f ∙ room_stored s p.standing.state p.waiting.total free n
            (sym z ∙ judged_stored p.unsequenced group room n (sym (ap (λ (x : Judged). x.fate) w) ∙ t)))

        pub arrive_stored : (slot : Incoming) (lists : Lists) (waiting : Waiting) (cells : List ℕ)
            → slot ≡ arrived_slot a → lists ≡ delivered p.lists n → waiting ≡ awaiting p.waiting a.length
            → cells ≡ filled store n datagram a.place a.length
            → Came answer_of outcome (Ok arrived.Stored)
            (record { peer = with_arrival p lists j.unsequenced waiting p.channels (set p.incoming n slot); store = cells; second = second })
        arrive_stored slot lists waiting cells i l x y =
            went (Ok arrived.Stored) _ (rw t (record { answer = refl; after = rw (i, l, x, y) }))
