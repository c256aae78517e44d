-- The reliable arrival comes out as the rule says: refused by either gate, left by its fate, or stored. The argument: each part that the code
-- makes is given by its equation, so the state made of them is the rule's; past 6 the channel exists, and what is stored has a slot that exists.
use Rattle.std.specs.Prelude.{⊤, Result, Ok, Err, Option}
use Rattle.std.proofs.Common.{◌≡◌, ℕ, ◌<◌, Bool, true, false, List, length, set, sym, refl, ap, ◌∙◌, arith}
use Rattle.numbers.specs.declared.refusals.Refusal.{Refusal}
use Rattle.cells.proofs.Lowest.{lowest_exists}
use Rattle.record.specs.Lists.{incoming}
use Rattle.record.specs.Sizes.{channels}
use Rattle.record.specs.Damage.{below, used_in}
use Rattle.record.specs.declared.groups.Channel.{Channel}
use Rattle.record.specs.declared.groups.Waiting.{Waiting}
use Rattle.record.specs.declared.groups.Incoming.{Incoming}
use Rattle.peer.specs.Outcome.{State, Outcome, Came}
use Rattle.peer.specs.Gate.{behind}
use Rattle.peer.specs.Updates.{with_arrival}
use Rattle.peer.specs.declared.settings.Settings.{Settings}
use Rattle.peer.specs.declared.Peer.{Peer}
use Rattle.peer.specs.declared.gate.Lent.TheVariants.{Store}
use Rattle.peer.proofs.Gates.{open_sound, came_shut, came_open, AtGate}
use Rattle.peer.proofs.Ranges.{count_high}
use Rattle.arrival.specs.Storing.{free_slot, awaiting, filled}
use Rattle.dispatch.specs.Dispatching.{dispatched_by}
use Rattle.dispatch.specs.Dispatching.{Dispatched}
use Rattle.arrival.specs.Arrivals.{answer_of, arrival_gate, room_for, room_of, reply_of, arrived_slot}
use Rattle.arrival.specs.declared.Arrival.{Arrival}
use Rattle.arrival.specs.declared.Arrived.{Arrived}
use Rattle.arrival.specs.declared.Arrived.TheVariants as arrived
use Rattle.arrival.specs.declared.Fate.{Fate}
use Rattle.arrival.specs.declared.Fate.TheVariants as fate
use Rattle.arrival.proofs.Admitted.{admitted}
use Rattle.arrival.proofs.Laws.{Leaves, room_stored}
use Rattle.arrive_reliable.specs.Holding.{is_passed, held_with}
use Rattle.arrive_reliable.specs.Calls.{send_reliable, channel_of, dispatched_with, reliable_after, fate_of, fate_on, reliable_sound, arrives_reliable}

-- what is stored was not passed over
pub room_of_lem : (passed : Bool) (room : Fate) (n : ℕ) → fate_of passed room ≡ fate.Stored n → room ≡ fate.Stored n
room_of_lem true room n e = let z : ◌≡◌ {A = ℕ} 0 1 = cc in absurd (omega arith)
room_of_lem false room n e = e

-- ws and g are what the code answered
module _ (s : Settings) (a : Arrival) (datagram : List ℕ) (p : Peer) (store second : List ℕ)
    (g : AtGate s (Store (length store)) p) where
  abbrev found : State
  found = record { peer = p; store = store; second = second }

  abbrev outcome : Outcome State
  outcome = arrives_reliable s a datagram found

  -- what comes of it by its fate
  abbrev by : Fate → Outcome State
  by f = record { answer = answer_of (reply_of f); after = reliable_after f a datagram found }

  pub arrive_shut : (why : Refusal) → g.gate ≡ Err why → Came answer_of outcome (Err why) found
  arrive_shut why q =
      came_shut g found (reliable_sound s a datagram found) answer_of (Err why) why refl q

  -- m is what the second gate answered
  module _ (opens : g.gate ≡ Ok tt) (m : Result ⊤ Refusal) (is : m ≡ arrival_gate send_reliable a s p.standing (length datagram)) where
    came : (r : Result Arrived Refusal) (y : State) → Came answer_of (behind m found (by (fate_on s a p))) r y → Came answer_of outcome r y
    came r y c = came_open g found (reliable_sound s a datagram found) answer_of r y opens (rw is at c)

    pub arrive_refused : (why : Refusal) → m ≡ Err why → Came answer_of outcome (Err why) found
    arrive_refused why q = came (Err why) found (rw q (record { answer = refl; after = refl }))

    module _ (may : m ≡ Ok tt) where
      pub channel_exists : a.channel < channels
      channel_exists =
          let below = (admitted send_reliable a s p.standing (length datagram) (sym is ∙ may)).on in
          omega (arith, below, count_high p (open_sound g opens))

      -- free, room, own, passed and f are what the helpers answered
      module _ (free : Option ℕ) (l : free ≡ free_slot p.lists p.channels p.standing.channels)
          (room : Fate) (z : room ≡ room_for s p.standing.state p.waiting.total free) (own : Channel) (o : own ≡ channel_of a p)
          (passed : Bool) (b : passed ≡ is_passed p.incoming own a.number.0) (f : Fate) (w : f ≡ fate_of passed room) where
        room_is : room ≡ room_of s p
        room_is = z ∙ ap (room_for s p.standing.state p.waiting.total) l

        passed_is : passed ≡ is_passed p.incoming (channel_of a p) a.number.0
        passed_is = b ∙ ap (λ (c : Channel). is_passed p.incoming c a.number.0) o

        fate_is : f ≡ fate_on s a p
        fate_is =
            w ∙ ap (fate_of passed) room_is ∙ ap (λ (x : Bool). fate_of x (room_of s p)) passed_is

        went : (r : Result Arrived Refusal) (y : State) → Came answer_of (by f) r y → Came answer_of outcome r y
        went r y c = came r y (rw may (rw fate_is at c))

        pub arrive_left : Leaves f → (r : Result Arrived Refusal) → r ≡ reply_of f → Came answer_of outcome r found
        arrive_left k r q = went r found (record { answer = ap answer_of q; after = go f k })
          where
            go : (f : Fate) → Leaves f → found ≡ reliable_after f a datagram found
            go fate.Passed k = refl
            go fate.NoRoom k = refl
            go (fate.Stored n) k = absurd (k n refl)

        module _ (n : ℕ) (t : f ≡ fate.Stored n) where
          pub slot_exists : n < incoming
          slot_exists =
              lowest_exists incoming (used_in p.lists (below p.channels p.standing.channels)) n
              (sym l ∙ room_stored s p.standing.state p.waiting.total free n (sym z ∙ room_of_lem passed room n (sym w ∙ t)))

          -- longer is the channel with the slot, d what is ready of it then
          pub arrive_stored : (longer : Channel) (slot : Incoming) (d : Dispatched) (waiting : Waiting) (cells : List ℕ)
              → longer ≡ held_with p.incoming own a.number.0 n → slot ≡ arrived_slot a
              → d ≡ dispatched_by (set p.incoming n slot) longer p.lists p.unsequenced → waiting ≡ awaiting p.waiting a.length
              → cells ≡ filled store n datagram a.place a.length
              → Came answer_of outcome (Ok arrived.Stored)
              (record {
                peer = with_arrival p d.lists d.unsequenced waiting (set p.channels a.channel d.channel) (set p.incoming n slot);
                store = cells;
                second = second;
              })
          arrive_stored longer slot d waiting cells h i u x y =
              went (Ok arrived.Stored) _ (rw t (record { answer = refl; after = rw (whole, i, x, y) }))
            where
              held : longer ≡ held_with p.incoming (channel_of a p) a.number.0 n
              held = h ∙ ap (λ (c : Channel). held_with p.incoming c a.number.0 n) o

              whole : d ≡ dispatched_with n a p
              whole =
                  u ∙ ap (λ (c : Channel). dispatched_by (set p.incoming n slot) c p.lists p.unsequenced) held
                  ∙ ap (λ (j : Incoming). dispatched_by (set p.incoming n j) (held_with p.incoming (channel_of a p) a.number.0 n) p.lists p.unsequenced) i
