-- Soundness through the reliable arrival: a sound record stays sound, whatever becomes of the packet.
-- The argument: a packet that is stored joins the pool at a free slot and its channel's list at one place, which leaves a sound record; what the
-- call then leaves is that record after a dispatch, and a dispatch keeps a record sound.
use Rattle.std.specs.Prelude.{Some}
use Prim.Native.Nat.{ℕ, ◌+◌}
use mathlib.Core.Path.{◌≡◌, refl, ap, ◌∙◌}
use mathlib.Core.Bool.{true}
use mathlib.Core.List.{List, [], ◌∷◌, ◌++◌}
use native.Mathlib.Omega.{arith}
use lib.ListN.{length, take, drop, set, length-set}
use lib.Seq.{get_or-set_same, set-set}
use borrow.Author.Tests.{le-leb}
use Rattle.numbers.specs.declared.refusals.Refusal.{Refusal}
use Rattle.numbers.specs.declared.refusals.Refusal.TheVariants.{NotStored}
use Rattle.record.specs.Lists.{incoming, in_items}
use Rattle.record.specs.Sizes.{cell, store_length}
use Rattle.record.specs.Damage.{below, blocks, one_block, used_in}
use Rattle.record.specs.Fresh.{no_channel}
use Rattle.record.specs.declared.groups.Channel.{Channel}
use Rattle.record.specs.declared.groups.Incoming.{Incoming}
use Rattle.peer.specs.Damage.{sound}
use Rattle.peer.specs.Gate.{fits, gate_of}
use Rattle.peer.specs.Outcome.{State, Outcome, unchanged, on_peer}
use Rattle.peer.specs.Sounds.{Whole, Sounds}
use Rattle.peer.specs.declared.settings.Settings.{Settings}
use Rattle.peer.specs.declared.Peer.{Peer}
use Rattle.peer.specs.declared.gate.Lent.TheVariants.{Store}
use Rattle.peer.proofs.Gates.{sound_open, behind_has}
use Rattle.peer.proofs.InClauses.{incoming_clauses}
use Rattle.peer.proofs.Sound.{lent_sounds}
use Rattle.arrival.specs.Storing.{free_slot}
use Rattle.dispatch.specs.Calls.{dispatched_on}
use Rattle.dispatch.proofs.Sound.{dispatched_sound}
use Rattle.arrival.proofs.Laws.{room_stored}
use Rattle.arrival.proofs.Admitted.{Admitted, admitted, lent_whole}
use Rattle.arrival.specs.Arrivals.{passed_over, stored, answer_of, arrival_gate, room_of, reply_of, arrived_slot}
use Rattle.arrival.specs.declared.Arrival.{Arrival}
use Rattle.arrival.specs.declared.Fate.{Fate}
use Rattle.arrival.specs.declared.Fate.TheVariants as fate
use Rattle.arrive_reliable.specs.Holding.{number_distance, place_of, is_passed, held_with}
use Rattle.arrive_reliable.proofs.Calling.{room_of_lem}
use Rattle.arrive_reliable.specs.Calls.{send_reliable, channel_of, reliable_after, fate_on, reliable_sound, arrives_reliable}
use Rattle.laws.proofs.Holding.{joined, at_all_channels, joined_items, joined_by, joined_whole, joined-sound}

module _ (s : Settings) (a : Arrival) (datagram : List ℕ) (x : State) where
  abbrev p : Peer
  p = x.peer

  -- a property that refusals and each fate have
  pub reliable_has : (P : Outcome State → Type 0)
      → ((why : Refusal) → P (unchanged why x))
      → (sound p ≡ true → fate_on s a p ≡ fate.Passed → P (record { answer = passed_over; after = x }))
      → ((n : ℕ) → sound p ≡ true → length x.store ≡ store_length → Admitted a p.standing (length datagram) → fate_on s a p ≡ fate.Stored n
      → P (record { answer = stored; after = reliable_after (fate.Stored n) a datagram x }))
      → P (arrives_reliable s a datagram x)
  reliable_has P shut passed kept =
      behind_has (gate_of (fits s (Store (length x.store))) (sound p)) x (reliable_sound s a datagram x) P shut
      (λ e. behind_has (arrival_gate send_reliable a s p.standing (length datagram)) x _ P shut
      (λ own. by_fate (sound_open (fits s (Store (length x.store))) (sound p) e) (lent_whole s (length x.store) (sound p) e)
      (admitted send_reliable a s p.standing (length datagram) own)
      (fate_on s a p) refl))
    where
      by_fate : sound p ≡ true → length x.store ≡ store_length → Admitted a p.standing (length datagram) → (f : Fate) → fate_on s a p ≡ f
          → P (record { answer = answer_of (reply_of f); after = reliable_after f a datagram x })
      by_fate good long may fate.Passed e = passed good e
      by_fate good long may fate.NoRoom e = shut NotStored
      by_fate good long may (fate.Stored n) e = kept n good long may e

  pub held_free : (n : ℕ) → fate_on s a p ≡ fate.Stored n → free_slot p.lists p.channels p.standing.channels ≡ Some n
  held_free n e =
      room_stored s p.standing.state p.waiting.total _ n
      (room_of_lem (is_passed p.incoming (channel_of a p) a.number.0) (room_of s p) n e)

-- slot n, free before, in its channel's list
module _ (a : Arrival) (datagram : List ℕ) (x : State) (n : ℕ)
    (whole : Whole x.peer) (good : sound x.peer ≡ true) (may : Admitted a x.peer.standing (length datagram))
    (free : free_slot x.peer.lists x.peer.channels x.peer.standing.channels ≡ Some n) where
  abbrev q : Peer
  q = x.peer

  abbrev cs : List Channel
  cs = below q.channels q.standing.channels

  abbrev i : ℕ
  i = a.channel

  abbrev old : Channel
  old = channel_of a q

  abbrev new : Channel
  new = held_with q.incoming old a.number.0 n

  abbrev slot : Incoming
  slot = arrived_slot a

  -- the record that then is dispatched
  abbrev pub between : Peer
  between = joined q i a.number.0 n slot whole good may.on free

  -- what is left is that record, dispatched
  pub left_dispatched : (reliable_after (fate.Stored n) a datagram x).peer ≡ dispatched_on i between
  left_dispatched =
      rw (
        get_or-set_same q.channels i new no_channel (at_all_channels q i a.number.0 n slot whole good may.on free),
        set-set q.channels i new _,
      )

  abbrev place : ℕ
  place = place_of q.incoming (in_items old.held) old.incoming_reliable.0 (number_distance old.incoming_reliable.0 a.number.0)

  pub held_items : in_items new.held ≡ take place (in_items old.held) ++ (n ∷ drop place (in_items old.held))
  held_items = joined_items q i a.number.0 n slot whole good may.on free

  -- any sum over what is named has one more
  pub more_by : (f : List ℕ → ℕ) → ((xs ys : List ℕ) → f (xs ++ ys) ≡ f xs + f ys)
      → f (used_in q.lists (set cs i new)) ≡ f (n ∷ []) + f (used_in q.lists cs)
  more_by = joined_by q i a.number.0 n slot whole good may.on free

  -- a packet that came whole is no block
  pub between-sound : sound between ≡ true
  between-sound =
      let w = incoming_clauses q good in
      let none_more : 0 + blocks q.incoming (used_in q.lists cs) ≡ blocks q.incoming (used_in q.lists cs) = omega arith in
      joined-sound q i a.number.0 n slot whole good may.on free refl (le-leb a.length cell may.short)
      (ap (one_block q.marks) none_more ∙ w.block)

  pub between_whole : Whole between
  between_whole = joined_whole q i a.number.0 n slot whole good may.on free

  held_sound : sound (reliable_after (fate.Stored n) a datagram x).peer ≡ true
  held_sound = ap sound left_dispatched ∙ dispatched_sound i between between_whole between-sound may.on

-- the call
module _ (s : Settings) (a : Arrival) (datagram store second : List ℕ) where
  abbrev on : Peer → State
  on p = record { peer = p; store = store; second = second }

  stays : (p : Peer) → Whole p → sound p ≡ true → sound (reliable_sound s a datagram (on p)).after.peer ≡ true
  stays p whole good =
      behind_has (arrival_gate send_reliable a s p.standing (length datagram)) (on p) _ (λ (o : Outcome State). sound o.after.peer ≡ true)
      (λ why. good) (λ own. by_fate (admitted send_reliable a s p.standing (length datagram) own) (fate_on s a p) refl)
    where
      by_fate : Admitted a p.standing (length datagram) → (f : Fate) → fate_on s a p ≡ f
          → sound (reliable_after f a datagram (on p)).peer ≡ true
      by_fate may fate.Passed e = good
      by_fate may fate.NoRoom e = good
      by_fate may (fate.Stored n) e = held_sound a datagram (on p) n whole good may (held_free s a datagram (on p) n e)

  stays_whole : (p : Peer) → Whole p → Whole (reliable_sound s a datagram (on p)).after.peer
  stays_whole p l =
      behind_has (arrival_gate send_reliable a s p.standing (length datagram)) (on p) _ (λ (o : Outcome State). Whole o.after.peer)
      (λ why. l) (λ own. by_fate (fate_on s a p))
    where
      by_fate : (f : Fate) → Whole (reliable_after f a datagram (on p)).peer
      by_fate fate.Passed = l
      by_fate fate.NoRoom = l
      by_fate (fate.Stored n) =
          record {
            channels = length-set p.channels a.channel _ ∙ l.channels;
            outgoing = l.outgoing;
            incoming = length-set p.incoming n (arrived_slot a) ∙ l.incoming;
          }

  pub reliable_sounds : Sounds (λ (p : Peer). on_peer (arrives_reliable s a datagram (on p)))
  reliable_sounds =
      lent_sounds (λ (y : State). y.peer) on (λ p. refl) s (Store (length store)) (λ (p : Peer). reliable_sound s a datagram (on p)) stays stays_whole
