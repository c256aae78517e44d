-- What an arrival does beside the window, whatever its answer: `unsequenced_stores`, `reliable_stores`; and dispatched only grows at its end:
-- `unsequenced_adds`, `reliable_adds`. The argument: each fate of the definition in turn; the laws of a filled cell; a dispatch only adds.
use Rattle.std.specs.Prelude.{Some}
use Prim.Native.Nat.{ℕ, ◌+◌, ◌*◌}
use mathlib.Core.Path.{◌≡◌, refl, ap}
use mathlib.Core.Bool.{true}
use mathlib.Core.List.{List, [], ◌∷◌, ◌++◌}
use native.Mathlib.Omega.{arith}
use lib.ListN.{length}
use lib.Seq.{get_or-set_same, get_or-set_other}
use Rattle.numbers.specs.declared.counters.Group.{Group}
use Rattle.numbers.specs.declared.refusals.Refusal.TheVariants.{NotStored}
use Rattle.record.specs.Lists.{incoming, in_items}
use Rattle.record.specs.Sizes.{cell, store_length}
use Rattle.record.specs.Damage.{below}
use Rattle.record.specs.Fresh.{no_incoming}
use Rattle.record.specs.declared.groups.Lists.{Lists}
use Rattle.record.specs.declared.groups.Unsequenced.{Unsequenced}
use Rattle.record.specs.declared.groups.Channel.{Channel}
use Rattle.peer.specs.Damage.{sound}
use Rattle.peer.specs.Outcome.{State, Outcome}
use Rattle.peer.specs.Sounds.{Whole}
use Rattle.peer.specs.declared.settings.Settings.{Settings}
use Rattle.peer.specs.declared.Peer.{Peer}
use Rattle.peer.proofs.InClauses.{incoming_clauses, total_low}
use Rattle.arrival.specs.Storing.{free_slot}
use Rattle.arrival.proofs.Cells.{laid-length, laid_payload, laid_others}
use Rattle.dispatch.proofs.Moving.{dispatch_order}
use Rattle.arrival.proofs.Admitted.{Admitted, not_passed, not_refused}
use Rattle.arrival.specs.Arrivals.{arrived_slot, stored_at}
use Rattle.arrival.specs.declared.Arrival.{Arrival}
use Rattle.arrival.specs.declared.Fate.TheVariants as fate
use Rattle.arrive_unsequenced.specs.Calls.{judged_on, arrives_unsequenced}
use Rattle.arrive_reliable.specs.Calls.{reliable_after, arrives_reliable}
use Rattle.laws.specs.Stores.{Stores, Leaves, Arrives, leaves, stores, Adds}
use Rattle.laws.proofs.Pools.{free_exists}
use Rattle.laws.proofs.Unsequenced.{unsequenced_has, stored_free, joins}
use Rattle.laws.proofs.Reliable.{reliable_has, held_free, between, between_whole, between-sound, left_dispatched}

-- a packet stored in slot n, wherever the lists then name it
module _ (a : Arrival) (datagram : List ℕ) (x : State) (n : ℕ)
    (whole : Whole x.peer) (good : sound x.peer ≡ true) (long : length x.store ≡ store_length)
    (may : Admitted a x.peer.standing (length datagram))
    (free : free_slot x.peer.lists x.peer.channels x.peer.standing.channels ≡ Some n) (l : Lists) (g : Unsequenced) (cs : List Channel) where
  stored_stores : Stores a datagram x (stored_at n a datagram x l g cs)
  stored_stores =
      let p = x.peer in
      let now = below p.channels p.standing.channels in
      let w = incoming_clauses p good in
      let exists = free_exists p.marks p.incoming p.lists now p.standing.channels p.waiting.total w n free in
      let low = total_low p.marks p.incoming p.lists now p.standing.channels p.waiting.total w in
      let short = may.short in
      record {
        slot = n;
        free = free;
        holds = get_or-set_same p.incoming n (arrived_slot a) no_incoming (omega (arith, exists, whole.incoming));
        slots = λ k other. get_or-set_other p.incoming n k (arrived_slot a) no_incoming other;
        payload = laid_payload x.store (n * cell) datagram a.place a.length (omega (arith, exists, short, long)) may.inside;
        bytes = λ i out. laid_others x.store (n * cell) datagram a.place a.length i out;
        length = laid-length x.store (n * cell) datagram a.place a.length;
        total = omega (arith, low, short);
        second = refl;
      }

nothing : (xs : List ℕ) → xs ≡ xs ++ []
nothing [] = refl
nothing (x ∷ xs) = ap (λ (ys : List ℕ). x ∷ ys) (nothing xs)

same : (x : State) → Leaves x x
same x = record { slots = refl; store = refl; second = refl; total = refl }

none : (p : Peer) → Adds p p
none p = record { joined = []; is = nothing (in_items p.lists.dispatched) }

module _ (s : Settings) (a : Arrival) (group : Group) (datagram : List ℕ) (x : State) (whole : Whole x.peer) where
  pub unsequenced_stores : Arrives a datagram x (arrives_unsequenced s a group datagram x)
  unsequenced_stores =
      unsequenced_has s a group datagram x (Arrives a datagram x)
      (λ why. leaves (same x) (not_refused why))
      (λ good e. leaves (record { slots = refl; store = refl; second = refl; total = refl }) not_passed)
      (λ good e. leaves (record { slots = refl; store = refl; second = refl; total = refl }) (not_refused NotStored))
      (λ n good long may e. stores (stored_stores a datagram x n whole good long may (stored_free s a group datagram x n e) _ _ _) refl)

  pub unsequenced_adds : Adds x.peer (arrives_unsequenced s a group datagram x).after.peer
  unsequenced_adds =
      unsequenced_has s a group datagram x (λ (o : Outcome State). Adds x.peer o.after.peer)
      (λ why. none x.peer)
      (λ good e. record { joined = []; is = nothing (in_items x.peer.lists.dispatched) })
      (λ good e. record { joined = []; is = nothing (in_items x.peer.lists.dispatched) })
      (λ n good long may e.
      record {
        joined = n ∷ [];
        is = joins a datagram x (judged_on s group x.peer).unsequenced n whole good may (stored_free s a group datagram x n e);
      })

module _ (s : Settings) (a : Arrival) (datagram : List ℕ) (x : State) (whole : Whole x.peer) where
  pub reliable_stores : Arrives a datagram x (arrives_reliable s a datagram x)
  reliable_stores =
      reliable_has s a datagram x (Arrives a datagram x)
      (λ why. leaves (same x) (not_refused why))
      (λ good e. leaves (same x) not_passed)
      (λ n good long may e. stores (stored_stores a datagram x n whole good long may (held_free s a datagram x n e) _ _ _) refl)

  pub reliable_adds : Adds x.peer (arrives_reliable s a datagram x).after.peer
  reliable_adds =
      reliable_has s a datagram x (λ (o : Outcome State). Adds x.peer o.after.peer)
      (λ why. none x.peer)
      (λ good e. none x.peer)
      (λ n good long may e. dispatched n good may (held_free s a datagram x n e))
    where
      dispatched : (n : ℕ) → sound x.peer ≡ true → Admitted a x.peer.standing (length datagram)
          → free_slot x.peer.lists x.peer.channels x.peer.standing.channels ≡ Some n
          → Adds x.peer (reliable_after (fate.Stored n) a datagram x).peer
      dispatched n good may free =
          let q = between a datagram x n whole good may free in
          let o = dispatch_order a.channel q (between_whole a datagram x n whole good may free) (between-sound a datagram x n whole good may free) may.on in
          rw (left_dispatched a datagram x n whole good may free) (record { joined = _; is = o.joined })
