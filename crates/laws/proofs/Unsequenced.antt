-- Soundness through the unsequenced arrival: a sound record stays sound, whatever becomes of the packet.
-- The argument: soundness does not look at the window; a packet that is stored joins the pool at a free slot and dispatched at its end.
use Rattle.std.specs.Prelude.{Some}
use Prim.Native.Nat.{ℕ, ◌+◌, ◌≤◌, ◌<◌}
use mathlib.Core.Path.{◌≡◌, refl, ap, ◌∙◌}
use mathlib.Core.Bool.{Bool, true}
use mathlib.Core.List.{List, [], ◌∷◌, ◌++◌}
use native.Mathlib.Omega.{arith}
use lib.ListN.{length, set, length-set, length-append}
use borrow.Author.Tests.{le-leb, lt-ltb}
use Rattle.numbers.specs.Pick.{pick}
use Rattle.numbers.specs.Modulo.{sum}
use Rattle.numbers.specs.declared.counters.Group.{Group}
use Rattle.numbers.specs.declared.refusals.Refusal.{Refusal}
use Rattle.numbers.specs.declared.refusals.Refusal.TheVariants.{NotStored}
use Rattle.numbers.specs.Answers.{refused}
use Rattle.record.specs.Lists.{incoming, in_items}
use Rattle.record.proofs.Keeps.{times, times_append}
use Rattle.record.proofs.Views.{in_items_keep}
use Rattle.cells.specs.Runs.{pushed}
use Rattle.damage.proofs.SumLaws.{sum_append, blocks_append}
use Rattle.record.specs.Sizes.{cell, store_length}
use Rattle.record.specs.Damage.{below, held, lengths, blocks, one_block, used_in}
use Rattle.record.specs.declared.groups.Channel.{Channel}
use Rattle.record.specs.declared.groups.Unsequenced.{Unsequenced}
use Rattle.record.specs.declared.groups.Incoming.{Incoming}
use Rattle.peer.specs.Damage.{sound}
use Rattle.peer.specs.Gate.{fits, gate_of}
use Rattle.peer.specs.Outcome.{State, Outcome, unchanged, on_peer}
use Rattle.peer.specs.Sounds.{Whole, Sounds}
use Rattle.peer.specs.Updates.{with_unsequenced}
use Rattle.peer.specs.declared.settings.Settings.{Settings}
use Rattle.peer.specs.declared.Peer.{Peer}
use Rattle.peer.specs.declared.gate.Lent.TheVariants.{Store}
use Rattle.peer.proofs.Gates.{sound_open, behind_has}
use Rattle.peer.proofs.Clauses.{sound_clauses, clauses_sound}
use Rattle.peer.proofs.InClauses.{InClauses, incoming_clauses, clauses_in}
use Rattle.peer.proofs.Sound.{lent_sounds}
use Rattle.arrival.specs.Storing.{free_slot, delivered}
use Rattle.dispatch.proofs.Sound.{dispatched_fit}
use Rattle.arrival.proofs.Laws.{judged_stored, room_stored}
use Rattle.arrival.proofs.Admitted.{Admitted, admitted, lent_whole}
use Rattle.arrival.specs.Arrivals.{passed_over, stored, answer_of, arrival_gate, room_of, reply_of, arrived_slot, stored_at}
use Rattle.arrival.specs.declared.Arrival.{Arrival}
use Rattle.arrival.specs.declared.Fate.{Fate}
use Rattle.arrival.specs.declared.Fate.TheVariants as fate
use Rattle.arrive_unsequenced.specs.Calls.{send_unsequenced, regrouped, judged_on, unsequenced_after, unsequenced_sound, arrives_unsequenced}
use Rattle.laws.proofs.Pools.{free_exists, free_unnamed, free_room, lengths_own, own_unnamed, joined_clauses}

module _ (s : Settings) (a : Arrival) (group : Group) (datagram : List ℕ) (x : State) where
  abbrev p : Peer
  p = x.peer

  abbrev unsequenced : Unsequenced
  unsequenced = (judged_on s group p).unsequenced

  -- a property that refusals and each fate have
  pub unsequenced_has : (P : Outcome State → Type 0)
      → ((why : Refusal) → P (unchanged why x))
      → (sound p ≡ true → (judged_on s group p).fate ≡ fate.Passed → P (record { answer = passed_over; after = regrouped x unsequenced }))
      → (sound p ≡ true → (judged_on s group p).fate ≡ fate.NoRoom → P (record { answer = refused NotStored; after = regrouped x unsequenced }))
      → ((n : ℕ) → sound p ≡ true → length x.store ≡ store_length → Admitted a p.standing (length datagram) → (judged_on s group p).fate ≡ fate.Stored n
      → P (record { answer = stored; after = stored_at n a datagram x (delivered p.lists n) unsequenced p.channels }))
      → P (arrives_unsequenced s a group datagram x)
  unsequenced_has P shut passed full kept =
      behind_has (gate_of (fits s (Store (length x.store))) (sound p)) x (unsequenced_sound s a group datagram x) P shut
      (λ e. behind_has (arrival_gate send_unsequenced a s p.standing (length datagram)) x _ P shut
      (λ own. by_fate (sound_open (fits s (Store (length x.store))) (sound p) e) (lent_whole s (length x.store) (sound p) e)
      (admitted send_unsequenced a s p.standing (length datagram) own)
      (judged_on s group p).fate refl))
    where
      by_fate : sound p ≡ true → length x.store ≡ store_length → Admitted a p.standing (length datagram) → (f : Fate) → (judged_on s group p).fate ≡ f
          → P (record { answer = answer_of (reply_of f); after = unsequenced_after f unsequenced a datagram x })
      by_fate good long may fate.Passed e = passed good e
      by_fate good long may fate.NoRoom e = full good e
      by_fate good long may (fate.Stored n) e = kept n good long may e

  -- a packet that is stored: its slot was free
  pub stored_free : (n : ℕ) → (judged_on s group p).fate ≡ fate.Stored n → free_slot p.lists p.channels p.standing.channels ≡ Some n
  stored_free n e = room_stored s p.standing.state p.waiting.total _ n (judged_stored p.unsequenced group (room_of s p) n e)

-- soundness does not look at the groups
pub regrouped_sound : (p : Peer) (g : Unsequenced) → sound p ≡ true → sound (with_unsequenced p g) ≡ true
unfolding sound
regrouped_sound p g h = h

-- slot n, free before, at the end of dispatched
module _ (a : Arrival) (datagram : List ℕ) (x : State) (g : Unsequenced) (n : ℕ)
    (whole : Whole x.peer) (good : sound x.peer ≡ true) (may : Admitted a x.peer.standing (length datagram))
    (free : free_slot x.peer.lists x.peer.channels x.peer.standing.channels ≡ Some n) where
  abbrev q : Peer
  q = x.peer

  abbrev cs : List Channel
  cs = below q.channels q.standing.channels

  abbrev used : List ℕ
  used = used_in q.lists cs

  abbrev clauses : InClauses q.marks q.incoming q.lists cs q.standing.channels q.waiting.total
  clauses = incoming_clauses q good

  room : length (in_items q.lists.dispatched) < incoming
  room =
      omega (
        arith,
        free_room q.marks q.incoming q.lists cs q.standing.channels q.waiting.total clauses n free,
        length-append (in_items q.lists.dispatched) (held cs),
      )

  pub joins : in_items (delivered q.lists n).dispatched ≡ in_items q.lists.dispatched ++ (n ∷ [])
  joins =
      let items = in_items q.lists.dispatched in
      in_items_keep q.lists.dispatched (pushed incoming items n)
      ∙ ap (λ (b : Bool). pick b (items ++ (n ∷ [])) items) (lt-ltb (length items) incoming room)

  abbrev slot : Incoming
  slot = arrived_slot a

  abbrev pool : List Incoming
  pool = set q.incoming n slot

  delivered_used : used_in (delivered q.lists n) cs ≡ (in_items q.lists.dispatched ++ (n ∷ [])) ++ held cs
  delivered_used = ap (λ (xs : List ℕ). xs ++ held cs) joins

  -- any sum over what is named has one more
  pub more_by : (f : List ℕ → ℕ) → ((xs ys : List ℕ) → f (xs ++ ys) ≡ f xs + f ys)
      → f (used_in (delivered q.lists n) cs) ≡ f (n ∷ []) + f used
  more_by f adds =
      let items = in_items q.lists.dispatched in
      let now = ap f delivered_used in
      omega (arith, now, adds (items ++ (n ∷ [])) (held cs), adds items (n ∷ []), adds items (held cs))

  delivered-sound : sound (stored_at n a datagram x (delivered q.lists n) g q.channels).peer ≡ true
  delivered-sound =
      let w = sound_clauses q good in
      let exists = free_exists q.marks q.incoming q.lists cs q.standing.channels q.waiting.total clauses n free in
      let unnamed = free_unnamed q.marks q.incoming q.lists cs q.standing.channels q.waiting.total clauses n free in
      let here : n < length q.incoming = omega (arith, exists, whole.incoming) in
      let apart = times_append (in_items q.lists.dispatched) (held cs) n in
      clauses_sound (stored_at n a datagram x (delivered q.lists n) g q.channels).peer
      (record {
        range = w.range;
        lists = dispatched_fit q.lists (delivered q.lists n).dispatched w.lists longer_fits;
        held = w.held;
        exists = w.exists;
        single = w.single;
        fit = w.fit;
        sent = w.sent;
        arrived =
            clauses_in q.marks pool (delivered q.lists n) cs q.standing.channels (sum 32 q.waiting.total a.length)
            (joined_clauses q.incoming n slot here q.marks q.lists (delivered q.lists n) cs cs q.standing.channels q.waiting.total clauses unnamed
            exists (le-leb a.length cell may.short) may.on
            (λ k. omega (arith, more_by (λ (xs : List ℕ). times xs k) (λ xs ys. times_append xs ys k)))
            (own_unnamed q.incoming n slot here 0 cs (omega (arith, apart, unnamed)) clauses.own)
            (omega (arith, more_by (lengths pool) (sum_append pool), lengths_own q.incoming n slot here))
            (more_by (blocks pool) (blocks_append pool)) (ap (one_block q.marks) none_more ∙ clauses.block));
      })
    where
      none_more : 0 + blocks q.incoming used ≡ blocks q.incoming used
      none_more = omega arith

      longer_fits : (delivered q.lists n).dispatched.len ≤ incoming
      longer_fits =
          let items = in_items q.lists.dispatched in
          let is : pushed incoming items n ≡ items ++ (n ∷ []) =
          ap (λ (b : Bool). pick b (items ++ (n ∷ [])) items) (lt-ltb (length items) incoming room) in
          let long : length (pushed incoming items n) ≡ length items + 1 = ap length is ∙ length-append items (n ∷ []) in
          omega (arith, long, room)

-- the call
module _ (s : Settings) (a : Arrival) (group : Group) (datagram store second : List ℕ) where
  abbrev on : Peer → State
  on p = record { peer = p; store = store; second = second }

  stays : (p : Peer) → Whole p → sound p ≡ true → sound (unsequenced_sound s a group datagram (on p)).after.peer ≡ true
  stays p whole good =
      behind_has (arrival_gate send_unsequenced a s p.standing (length datagram)) (on p) _ (λ (o : Outcome State). sound o.after.peer ≡ true)
      (λ why. good)
      (λ own. by_fate (admitted send_unsequenced a s p.standing (length datagram) own) (judged_on s group p).fate refl)
    where
      by_fate : Admitted a p.standing (length datagram) → (f : Fate) → (judged_on s group p).fate ≡ f
          → sound (unsequenced_after f (judged_on s group p).unsequenced a datagram (on p)).peer ≡ true
      by_fate may fate.Passed e = regrouped_sound p (judged_on s group p).unsequenced good
      by_fate may fate.NoRoom e = regrouped_sound p (judged_on s group p).unsequenced good
      by_fate may (fate.Stored n) e =
          delivered-sound a datagram (on p) (judged_on s group p).unsequenced n whole good may (stored_free s a group datagram (on p) n e)

  stays_whole : (p : Peer) → Whole p → Whole (unsequenced_sound s a group datagram (on p)).after.peer
  stays_whole p l =
      behind_has (arrival_gate send_unsequenced a s p.standing (length datagram)) (on p) _ (λ (o : Outcome State). Whole o.after.peer)
      (λ why. l) (λ own. by_fate (judged_on s group p).fate)
    where
      by_fate : (f : Fate) → Whole (unsequenced_after f (judged_on s group p).unsequenced a datagram (on p)).peer
      by_fate fate.Passed = record { channels = l.channels; outgoing = l.outgoing; incoming = l.incoming }
      by_fate fate.NoRoom = record { channels = l.channels; outgoing = l.outgoing; incoming = l.incoming }
      by_fate (fate.Stored n) =
          record { channels = l.channels; outgoing = l.outgoing; incoming = length-set p.incoming n (arrived_slot a) ∙ l.incoming }

  pub unsequenced_sounds : Sounds (λ (p : Peer). on_peer (arrives_unsequenced s a group datagram (on p)))
  unsequenced_sounds =
      lent_sounds (λ (y : State). y.peer) on (λ p. refl) s (Store (length store)) (λ (p : Peer). unsequenced_sound s a group datagram (on p)) stays
      stays_whole
