-- A reliable arrival of the next number, with nothing of its own and no want of room in its way, is stored and joins dispatched at once, with all that
-- was held behind it without a gap. The argument: the next number is at distance 1 and is not held, so all that is held is farther; it is stored before all
-- that is held, follows the last number, and a dispatch takes what follows in series.
use Rattle.std.specs.Prelude.{Some}
use Prim.Native.Nat.{ℕ, suc, ◌+◌, ◌-◌, ◌≤◌, ◌<◌}
use mathlib.Core.Path.{◌≡◌, refl, ap, sym, subst, ◌∙◌}
use mathlib.Core.Bool.{Bool, true, false}
use mathlib.Core.List.{List, [], ◌∷◌, ◌++◌}
use native.Mathlib.Omega.{arith}
use lib.Dec.{eqb, ltb}
use lib.ListN.{length, take, drop, get_or, set}
use lib.Seq.{get_or-set_same}
use borrow.Author.Tests.{eqb-false, eq-eqb, le-leb}
use Rattle.numbers.specs.Pick.{pick}
use Rattle.numbers.specs.Counters.{step}
use Rattle.record.specs.Lists.{in_items}
use Rattle.record.specs.Damage.{all}
use Rattle.record.specs.Fresh.{no_channel, no_incoming}
use Rattle.record.specs.declared.groups.Channel.{Channel}
use Rattle.record.specs.declared.groups.Incoming.{Incoming}
use Rattle.peer.specs.Damage.{sound}
use Rattle.peer.specs.Gate.{fits, gate_of}
use Rattle.peer.specs.Sounds.{Whole}
use Rattle.peer.specs.Outcome.{State}
use Rattle.peer.specs.declared.settings.Settings.{Settings}
use Rattle.peer.specs.declared.Peer.{Peer}
use Rattle.peer.specs.declared.gate.Lent.TheVariants.{Store}
use Rattle.peer.proofs.Gates.{behind_open}
use Rattle.peer.proofs.Ranges.{count_high}
use Rattle.dispatch.specs.Dispatching.{follows, number_after, ready_count}
use Rattle.arrival.specs.Storing.{free_slot}
use Rattle.arrival.specs.Arrivals.{stored, answer_of, arrival_gate, reply_of, room_of, arrived_slot}
use Rattle.arrival.specs.declared.Arrival.{Arrival}
use Rattle.arrival.specs.declared.Fate.{Fate}
use Rattle.arrival.specs.declared.Fate.TheVariants as fate
use Rattle.arrival.proofs.Admitted.{Admitted, admitted}
use Rattle.arrive_reliable.specs.Holding.{number_distance, number_at, holds, farthest, is_passed, place_of, held_with}
use Rattle.arrive_reliable.specs.Calls.{send_reliable, channel_of, fate_of, fate_on, reliable_after, reliable_sound, arrives_reliable}
use Rattle.laws.proofs.Holding.{in_pool}
use Rattle.laws.proofs.Reliable.{held_free, between, between_whole, between-sound, left_dispatched, held_items}
use Rattle.link.specs.Runs.{run, reset_state}
use Rattle.promises.specs.Reports.{taken_by, numbers_joined, series}
use Rattle.promises.specs.Held.{last_in, held_in, span_at, is_apart, is_free}
use Rattle.promises.specs.Next.{Fits, Delivers, NextDelivered}
use Rattle.promises.proofs.Fitting.{fits_open, fits_admitted, fits_room}
use Rattle.promises.proofs.Sounding.{fresh_whole, reset_stands, run_stands}
use Rattle.promises.proofs.Reporting.{rises_series, ready_rises, joined, is_more}
use Rattle.promises.proofs.HeldLaws.{neither_first, Climbs, Stands, next_near, near_next, nearest}
use Rattle.promises.proofs.HeldWays.{Orderly}
use Rattle.promises.proofs.Held.{stored_orderly, fresh_orderly, run_orderly, none_ready}

-- ---- where the next number is not held, all that is held is farther, and takes other numbers
module _ (slots : List Incoming) (last : ℕ) (h : last < 65536) where
  farther : (ss : List ℕ) → Climbs slots last 0 ss → holds slots ss (step last) ≡ false → Climbs slots last 1 ss
  unfolding holds
  farther [] c e = tt
  farther (s ∷ ss) c e =
      let m = number_at slots s in
      let far = c.0.past in
      let low = c.0.low in
      let differs : m ≡ step last → ⊥ = eqb-false m (step last) (neither_first (eqb m (step last)) (holds slots ss (step last)) e) in
      let other : number_distance last m ≡ 1 → ⊥ = λ z. differs (near_next last m h low z) in
      (record { low = low; past = omega (arith, far, other) }, c.1)

  next_apart : (k : ℕ) (ss : List ℕ) → 1 ≤ k → Climbs slots last k ss
      → all (λ (s : ℕ). is_apart 1 1 (number_distance last (number_at slots s)) (span_at slots s)) ss ≡ true
  unfolding all
  next_apart k [] l c = refl
  next_apart k (s ∷ ss) l c =
      let far = c.0.past in
      rw (
        le-leb 2 (number_distance last (number_at slots s)) (omega (arith, far, l)),
        next_apart (number_distance last (number_at slots s) + (span_at slots s - 1)) ss (omega (arith, far, l)) c.1,
      )

-- ---- the next number
module _ (s : Settings) (a : Arrival) (datagram : List ℕ) (x : State) (w : Whole x.peer) (good : sound x.peer ≡ true)
    (k : Orderly a.channel x.peer) (f : Fits send_reliable s a datagram x) (e : a.number.0 ≡ step (last_in x a.channel))
    (not_held : holds x.peer.incoming (held_in x a.channel) a.number.0 ≡ false) where
  abbrev p : Peer
  p = x.peer

  abbrev i : ℕ
  i = a.channel

  abbrev last : ℕ
  last = last_in x i

  abbrev items : List ℕ
  items = in_items (channel_of a p).held

  stands : Stands p.incoming last items
  stands = (k f.on).stands

  -- all that is held is farther
  beyond : Climbs p.incoming last 1 items
  beyond = farther p.incoming last stands.low items stands.climbs (sym (ap (holds p.incoming items) e) ∙ not_held)

  one_past : number_distance last a.number.0 ≡ 1
  one_past = ap (number_distance last) e ∙ next_near last stands.low

  apart : is_free x i a.number.0 1 ≡ true
  apart =
      ap (λ (d : ℕ). all (λ (s : ℕ). is_apart d 1 (number_distance last (number_at p.incoming s)) (span_at p.incoming s)) items) one_past
      ∙ next_apart p.incoming last stands.low 1 items (omega arith) beyond

  not_passed : is_passed p.incoming (channel_of a p) a.number.0 ≡ false
  not_passed = by (number_distance last a.number.0) (holds p.incoming items a.number.0) one_past not_held
    where
      by : (d : ℕ) (b : Bool) → d ≡ 1 → b ≡ false → pick (eqb d 0) true (pick (ltb farthest d) true b) ≡ false
      by d b z q = rw (z, q)

  abbrev n : ℕ
  n = (fits_room send_reliable s a datagram x f).0

  stored_there : fate_on s a p ≡ fate.Stored n
  stored_there = ap (λ (b : Bool). fate_of b (room_of s p)) not_passed ∙ (fits_room send_reliable s a datagram x f).1

  comes : arrives_reliable s a datagram x ≡ record { answer = stored; after = reliable_after (fate.Stored n) a datagram x }
  comes =
      behind_open (gate_of (fits s (Store (length x.store))) (sound p)) x (reliable_sound s a datagram x)
      (fits_open send_reliable s a datagram x f good)
      ∙ behind_open (arrival_gate send_reliable a s p.standing (length datagram)) x _ (fits_admitted send_reliable s a datagram x f)
      ∙ ap (λ (t : Fate). record { answer = answer_of (reply_of t); after = reliable_after t a datagram x }) stored_there

  may : Admitted a p.standing (length datagram)
  may = admitted send_reliable a s p.standing (length datagram) (fits_admitted send_reliable s a datagram x f)

  low : a.number.0 < 65536
  low = omega (arith, e)

  free : free_slot p.lists p.channels p.standing.channels ≡ Some n
  free = held_free s a datagram x n stored_there

  abbrev pool : List Incoming
  pool = set p.incoming n (arrived_slot a)

  -- it is the first of the list, and follows
  first_held : in_items (held_with p.incoming (channel_of a p) a.number.0 n).held ≡ n ∷ items
  first_held =
      held_items a datagram x n w good may free
      ∙ ap (λ (j : ℕ). take j items ++ (n ∷ drop j items)) nearest_now
    where
      nearest_now : place_of p.incoming items last (number_distance last a.number.0) ≡ 0
      nearest_now = ap (place_of p.incoming items last) one_past ∙ nearest p.incoming last 1 items beyond

  own : get_or pool n no_incoming ≡ arrived_slot a
  own =
      get_or-set_same p.incoming n (arrived_slot a) no_incoming (in_pool p i a.number.0 n (arrived_slot a) w good may.on free)

  follows-last : follows last (get_or pool n no_incoming) ≡ true
  follows-last = ap (follows last) own ∙ eq-eqb a.number.0 (step last) e

  -- how many went that stood behind it, and how many numbers came after the first
  abbrev behind_it : ℕ
  behind_it = ready_count pool items (number_after (get_or pool n no_incoming))

  abbrev more : ℕ
  more = let j = get_or pool n no_incoming in length (series j.number.0 (j.fragments - 1) ++ taken_by pool (take behind_it items))

  abbrev taken : List ℕ → List ℕ
  taken ss = taken_by pool (take (ready_count pool ss last) ss)

  taken_long : length (taken (n ∷ items)) ≡ suc more
  unfolding ready_count taken_by
  taken_long = ap (λ (b : Bool). length (taken_by pool (take (pick b (suc behind_it) 0) (n ∷ items)))) follows-last

  abbrev then_held : Peer
  then_held = between a datagram x n w good may free

  now_held : get_or then_held.channels i no_channel ≡ held_with p.incoming (channel_of a p) a.number.0 n
  now_held = get_or-set_same p.channels i _ no_channel (omega (arith, f.on, count_high p good, w.channels))

  all_joined : numbers_joined x (reliable_after (fate.Stored n) a datagram x) ≡ series last (suc more)
  all_joined =
      let of : Channel → List ℕ =
      λ c. taken_by pool (take (ready_count pool (in_items c.held) c.incoming_reliable.0) (in_items c.held)) in
      ap (joined i p) (left_dispatched a datagram x n w good may free)
      ∙ is_more i then_held (between_whole a datagram x n w good may free) (between-sound a datagram x n w good may free) f.on
      ∙ ap of now_held
      ∙ ap taken first_held
      ∙ rises_series last (taken (n ∷ items)) (ready_rises pool (n ∷ items) last)
      ∙ ap (series last) taken_long

  pub delivers : Delivers i x (arrives_reliable s a datagram x)
  delivers =
      subst (Delivers i x) (sym comes)
      (record {
        answer = refl;
        more = more;
        joined = all_joined;
        left = none_ready i (reliable_after (fate.Stored n) a datagram x) (stored_orderly s a datagram x n low w good may stored_there apart i k) f.on;
      })

pub next_delivered : NextDelivered
next_delivered t kept store second calls s a datagram fit m g f e not_held =
    let x = reset_state t.mtu kept store second in
    let y = (run calls x).end in
    let stands = run_stands calls x (reset_stands t kept store second fit) in
    delivers s a datagram y stands.whole stands.good
    (run_orderly a.channel calls x m g (fresh_whole t.mtu kept) (fresh_orderly a.channel t.mtu kept)) f e not_held
