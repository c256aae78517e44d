-- What goes in and what joins dispatched, by its kind: what is stored is reliable or unsequenced by its byte; what joins by an unsequenced arrival is its
-- payload, what joins by a reliable one, a piece (Piecing) or a dispatch is of its channel, and by no other call anything joins. The argument: a stored arrival passed its
-- gate; a sound record's channel lists hold slots of their own channel; nothing arrives before begin, which alone makes channels count.
use Rattle.std.specs.Prelude.{None, Option, Some}
use Prim.Native.Nat.{ℕ, zero, suc, ◌+◌, ◌%◌, ◌≤◌, ◌<◌}
use mathlib.Core.Path.{◌≡◌, refl, ap, sym, ◌∙◌}
use mathlib.Core.Bool.{Bool, true, false, not}
use mathlib.Core.List.{List, [], ◌∷◌, ◌++◌, map, map-append, append_assoc}
use native.Mathlib.Omega.{arith}
use lib.Dec.{eqb, leb}
use lib.ListN.{length, take, drop, get_or, length-map, length-take, drop_of_length-le}
use lib.Seq.{drop-length, drop_at, get_or-take}
use borrow.Author.Tests.{eqb-true, ne_eqb}
use Rattle.std.specs.Prelude.{⊤, Result, Ok, Err}
use Rattle.numbers.specs.Pick.{pick, both}
use Rattle.numbers.specs.Counters.{step}
use Rattle.numbers.specs.declared.counters.Group.{Group}
use Rattle.numbers.specs.Limits.{mtu_fits}
use Rattle.numbers.specs.declared.refusals.Refusal.{Refusal}
use Rattle.numbers.specs.declared.refusals.Refusal.TheVariants.{OutOfRange, NotReceiving, LengthTooLarge, BadCommand}
use Rattle.numbers.proofs.Settled.{refused_not_done}
use Rattle.numbers.proofs.BoolLaws.{both_left, both_right, both_true, both_false, both_with_true}
use Rattle.record.specs.Lists.{out_items, in_items}
use Rattle.cells.specs.Runs.{first}
use Rattle.record.specs.Sizes.{channels}
use Rattle.record.specs.Fresh.{no_channel, no_incoming}
use Rattle.record.specs.Damage.{all, below, own}
use Rattle.record.specs.declared.groups.Channel.{Channel}
use Rattle.record.specs.declared.groups.Unsequenced.{Unsequenced}
use Rattle.record.specs.declared.groups.Incoming.{Incoming}
use Rattle.record.specs.declared.groups.Standing.{Standing}
use Rattle.peer.specs.Damage.{sound}
use Rattle.peer.specs.Gate.{fits, gate_of, then, behind, on_record}
use Rattle.peer.specs.States.{last_state}
use Rattle.peer.specs.Outcome.{State, Outcome, finished, unchanged}
use Rattle.peer.specs.Sounds.{Whole}
use Rattle.peer.specs.declared.settings.Settings.{Settings}
use Rattle.peer.specs.declared.Peer.{Peer}
use Rattle.peer.specs.declared.gate.Lent.TheVariants as lent
use Rattle.peer.proofs.Gates.{openness, sound_open, behind_has}
use Rattle.peer.proofs.InClauses.{incoming_clauses, shorter_items}
use Rattle.peer.proofs.Ranges.{count_high}
use Rattle.arrival.specs.Arrivals.{stored, names, is_receiving, is_whole, arrival_gate, stored_at}
use Rattle.lifecycle.specs.Calls.{begin_fits, begun, begins_sound, begins, stated, sets_state_sound, sets_state}
use Rattle.setup.specs.Queueing.{room, queued, queued_all}
use Rattle.setup.specs.Calls.{setup_gate, sets_up_sound}
use Rattle.setup.proofs.Sound.{queued-standing, queued_all-standing}
use Rattle.packets.specs.Refusals.{send_gate, queue_gate}
use Rattle.send.specs.Calls.{fragment, commands, queues_all, sends_sound}
use Rattle.setup.specs.Pings.{ping_piece, ping_gate, pings_sound}
use Rattle.send_step.specs.Steps.{list_of, sent_as}
use Rattle.send_step.specs.Calls.{steps_from, steps_sound}
use Rattle.send_step.specs.declared.heads.Queue.{Queue}
use Rattle.acknowledge.specs.Calls.{heard_in, acknowledges_by, acknowledges_sound}
use Rattle.timeouts.specs.Calls.{checks_sound}
use Rattle.round_trip.specs.Calls.{throttles_sound}
use Rattle.arrival.specs.Storing.{delivered}
use Rattle.receive.specs.Calls.{taken, receives_from, receives_sound, receives}
use Rattle.dispatch.specs.Calls.{dispatch_gate, dispatched_on, dispatches_sound, dispatches}
use Rattle.dispatch.proofs.Calling.{chosen, ready as ready_in}
use Rattle.dispatch.proofs.Sound.{below_count}
use Rattle.dispatch.proofs.Moving.{dispatch_order}
use Rattle.arrival.specs.declared.Arrival.{Arrival}
use Rattle.arrival.specs.declared.Fate.TheVariants as fate
use Rattle.arrival.proofs.Admitted.{Admitted}
use Rattle.arrive_unsequenced.specs.Calls.{send_unsequenced, judged_on, unsequenced_sound, arrives_unsequenced}
use Rattle.arrive_reliable.specs.Calls.{send_reliable, reliable_after, reliable_sound, arrives_reliable}
use Rattle.arrive_fragment.specs.Calls.{send_fragment}
use Rattle.laws.specs.Stores.{Arrives, leaves, stores}
use Rattle.laws.proofs.Stores.{unsequenced_stores}
use Rattle.laws.proofs.Unsequenced.{unsequenced_has, stored_free, joins}
use Rattle.laws.proofs.Reliable.{reliable_has, held_free, between, between_whole, between-sound, left_dispatched}
use Rattle.link_out.specs.Steps.{calls_out}
use Rattle.link_out.specs.declared.calls.Call.{Call as Outward}
use Rattle.link_out.specs.declared.calls.Call.TheVariants as out
use Rattle.link_in.specs.Steps.{beside}
use Rattle.link.specs.Runs.{says_one, Packet}
use Rattle.promises.specs.Counts.{count, those}
use Rattle.promises.specs.Reports.{dispatched_in, numbers_taken, taken_by, numbers_joined, series}
use Rattle.promises.specs.Packets.{packet_at, ready, payload, newly, is_reliable, reliable_on, is_either, all_taken}
use Rattle.promises.proofs.Answers.{refused_one}
use Rattle.promises.proofs.Presence.{count_none, those_append, Still, stored_own}
use Rattle.promises.proofs.Passing.{same_slot}
use Rattle.promises.proofs.Picks.{picked}

-- ---- how many of a list pass
abbrev always : Packet → Bool
always k = true

count-always : (ks : List Packet) → count always ks ≡ length ks
unfolding count
count-always [] = refl
count-always (k ∷ ks) = omega (arith, count-always ks)

count_low : (f : Packet → Bool) (ks : List Packet) → count f ks ≤ length ks
unfolding count
count_low f [] = omega arith
count_low f (k ∷ ks) = go (f k) (count_low f ks)
  where
    go : (b : Bool) → count f ks ≤ length ks → pick b 1 0 + count f ks ≤ suc (length ks)
    go true h = omega (arith, h)
    go false h = omega (arith, h)

-- what is taken from a list all of which passes
pub all_kinds : (out left put : List Packet) → ((f : Packet → Bool) → count f out + count f left ≡ count f put) → count is_either put ≡ length put
    → count is_either out ≡ length out
all_kinds out left put once known =
    omega (
      arith,
      once is_either,
      once always,
      known,
      count-always out,
      count-always left,
      count-always put,
      count_low is_either out,
      count_low is_either left,
    )

-- one packet, if it went in
pub put_all : (f : Packet → Bool) (b : Bool) (k : Packet) → (b ≡ true → f k ≡ true) → let ks = pick b (k ∷ []) [] in count f ks ≡ length ks
unfolding count
put_all f true k h = rw (h refl)
put_all f false k h = refl

pub put_none : (f : Packet → Bool) (b : Bool) (k : Packet) → (b ≡ true → f k ≡ false) → count f (pick b (k ∷ []) []) ≡ 0
unfolding count
put_none f true k h = rw (h refl)
put_none f false k h = refl

-- ---- a stored arrival's byte names its command
pub gate_names : (command : ℕ) (a : Arrival) (s : Settings) (standing : Standing) (end : ℕ) → arrival_gate command a s standing end ≡ Ok tt
    → names a.byte command ≡ true
gate_names command a s standing end e = go (names a.byte command) refl e
  where
    go : (b : Bool) → names a.byte command ≡ b
        → then (pick b (Ok tt) (Err BadCommand))
        (then (pick (is_receiving a.channel standing) (Ok tt) (Err NotReceiving)) (pick (is_whole a s end) (Ok tt) (Err LengthTooLarge)))
        ≡ Ok tt
        → names a.byte command ≡ true
    go true t e = t
    go false t e = absurd (omega (arith, ap openness e))

-- where the test fails, nothing needs be shown of it
pub shut_one : {b c : Bool} → b ≡ false → b ≡ true → c ≡ true
shut_one f t = cc

module _ (s : Settings) (a : Arrival) (datagram : List ℕ) (x : State) where
  unsequenced_named : (group : Group) → says_one (arrives_unsequenced s a group datagram x).answer ≡ true → names a.byte send_unsequenced ≡ true
  unsequenced_named group =
      let P : Outcome State → Type 0 = λ o. says_one o.answer ≡ true → names a.byte send_unsequenced ≡ true in
      behind_has (gate_of (fits s (lent.Store (length x.store))) (sound x.peer)) x (unsequenced_sound s a group datagram x) P
      (λ why t. shut_one (refused_one why) t)
      (λ e. behind_has (arrival_gate send_unsequenced a s x.peer.standing (length datagram)) x _ P (λ why t. shut_one (refused_one why) t)
      (λ opens t. gate_names send_unsequenced a s x.peer.standing (length datagram) opens))

  reliable_named : says_one (arrives_reliable s a datagram x).answer ≡ true → names a.byte send_reliable ≡ true
  reliable_named =
      let P : Outcome State → Type 0 = λ o. says_one o.answer ≡ true → names a.byte send_reliable ≡ true in
      behind_has (gate_of (fits s (lent.Store (length x.store))) (sound x.peer)) x (reliable_sound s a datagram x) P
      (λ why t. shut_one (refused_one why) t)
      (λ e. behind_has (arrival_gate send_reliable a s x.peer.standing (length datagram)) x _ P (λ why t. shut_one (refused_one why) t)
      (λ opens t. gate_names send_reliable a s x.peer.standing (length datagram) opens))

  -- what goes in is of either kind
  either_by : (b : Bool) → names a.byte send_unsequenced ≡ true → pick b true (names a.byte send_unsequenced) ≡ true
  either_by true e = refl
  either_by false e = e

  pub unsequenced_known : (group : Group) → let ks = pick (says_one (arrives_unsequenced s a group datagram x).answer) (payload a datagram ∷ []) [] in
      count is_either ks ≡ length ks
  unsequenced_known group =
      put_all is_either (says_one (arrives_unsequenced s a group datagram x).answer) (payload a datagram)
      (λ t. either_by (is_reliable (payload a datagram)) (unsequenced_named group t))

  pub reliable_known : let ks = pick (says_one (arrives_reliable s a datagram x).answer) (payload a datagram ∷ []) [] in count is_either ks ≡ length ks
  reliable_known =
      put_all is_either (says_one (arrives_reliable s a datagram x).answer) (payload a datagram)
      (λ t. ap (λ (b : Bool). pick (pick b true (names a.byte send_fragment)) true (names a.byte send_unsequenced)) (reliable_named t))

-- not reliable; and of a channel
abbrev pub other : Packet → Bool
other k = not (is_reliable k)

abbrev is_of : ℕ → Packet → Bool
is_of on k = eqb k.channel on

-- what goes in by a reliable arrival is reliable, by an unsequenced one it is not
module _ (s : Settings) (a : Arrival) (datagram : List ℕ) (x : State) where
  pub reliable_put : count other (pick (says_one (arrives_reliable s a datagram x).answer) (payload a datagram ∷ []) []) ≡ 0
  reliable_put =
      put_none other (says_one (arrives_reliable s a datagram x).answer) (payload a datagram)
      (λ t. ap (λ (b : Bool). not (pick b true (names a.byte send_fragment))) (reliable_named s a datagram x t))

  pub unsequenced_put : (group : Group) (channel : ℕ)
      → those (reliable_on channel) (pick (says_one (arrives_unsequenced s a group datagram x).answer) (payload a datagram ∷ []) []) ≡ []
  unfolding those
  unsequenced_put group channel = go (says_one (arrives_unsequenced s a group datagram x).answer) (unsequenced_named s a datagram x group)
    where
      go : (b : Bool) → (b ≡ true → names a.byte send_unsequenced ≡ true)
          → those (reliable_on channel) (pick b (payload a datagram ∷ []) []) ≡ []
      go true h =
          let nine : a.byte % 16 ≡ 9 = eqb-true (a.byte % 16) 9 (h refl) in
          let six : names a.byte send_reliable ≡ false = ne_eqb (a.byte % 16) 6 (λ z. omega (arith, z, nine)) in
          let eight : names a.byte send_fragment ≡ false = ne_eqb (a.byte % 16) 8 (λ z. omega (arith, z, nine)) in
          let neither : is_reliable (payload a datagram) ≡ false = ap (λ (b : Bool). pick b true (names a.byte send_fragment)) six ∙ eight in
          ap (λ (b : Bool). pick b (payload a datagram ∷ []) []) (both_false (eqb a.channel channel) (is_reliable (payload a datagram)) neither)
      go false h = refl

-- reliable ones of one channel: all of them, or none
pub those-on : (channel on : ℕ) (ks : List Packet) → count (is_of on) ks ≡ length ks → count other ks ≡ 0
    → those (reliable_on channel) ks ≡ pick (eqb on channel) ks []
unfolding count those
those-on channel on [] h o = go (eqb on channel)
  where
    go : (b : Bool) → ◌≡◌ {A = List Packet} [] (pick b [] [])
    go true = refl
    go false = refl
those-on channel on (k ∷ ks) h o = go (eqb k.channel on) refl (is_reliable k) refl h o (λ h o. those-on channel on ks h o)
  where
    more : (b : Bool) → those (reliable_on channel) ks ≡ pick b ks []
        → pick b (k ∷ those (reliable_on channel) ks) (those (reliable_on channel) ks) ≡ pick b (k ∷ ks) []
    more true t = ap (λ (ls : List Packet). k ∷ ls) t
    more false t = t

    go : (b : Bool) → eqb k.channel on ≡ b → (r : Bool) → is_reliable k ≡ r
        → pick b 1 0 + count (is_of on) ks ≡ suc (length ks) → pick (not r) 1 0 + count other ks ≡ 0
        → (count (is_of on) ks ≡ length ks → count other ks ≡ 0 → those (reliable_on channel) ks ≡ pick (eqb on channel) ks [])
        → pick (reliable_on channel k) (k ∷ those (reliable_on channel) ks) (those (reliable_on channel) ks) ≡ pick (eqb on channel) (k ∷ ks) []
    go true e true n h o rest =
        let test : reliable_on channel k ≡ eqb on channel =
        ap (both (eqb k.channel channel)) n ∙ both_with_true (eqb k.channel channel)
        ∙ ap (λ (i : ℕ). eqb i channel) (eqb-true k.channel on e) in
        ap (λ (b : Bool). pick b (k ∷ those (reliable_on channel) ks) (those (reliable_on channel) ks)) test
        ∙ more (eqb on channel) (rest (omega (arith, h)) (omega (arith, o)))
    go true e false n h o rest = absurd (omega (arith, o))
    go false e r n h o rest = absurd (omega (arith, h, count_low (is_of on) ks))

-- the numbers that a channel's reliable ones take
abbrev pub numbers_on : ℕ → List Packet → List ℕ
numbers_on channel ks = all_taken (those (reliable_on channel) ks)

taken_append : (ks ls : List Packet) → all_taken (ks ++ ls) ≡ all_taken ks ++ all_taken ls
unfolding all_taken
taken_append [] ls = refl
taken_append (k ∷ ks) ls =
    let own = numbers_taken k.number k.fragments in
    ap (λ (ns : List ℕ). own ++ ns) (taken_append ks ls) ∙ sym (append_assoc own (all_taken ks) (all_taken ls))

pub numbers_append : (channel : ℕ) (ks ls : List Packet) → numbers_on channel (ks ++ ls) ≡ numbers_on channel ks ++ numbers_on channel ls
numbers_append channel ks ls =
    ap all_taken (those_append (reliable_on channel) ks ls) ∙ taken_append (those (reliable_on channel) ks) (those (reliable_on channel) ls)

-- a series begins with a series
pub series_front : (n : ℕ) (xs ys : List ℕ) (k : ℕ) → xs ++ ys ≡ series n k → xs ≡ series n (length xs)
unfolding series
series_front n [] ys k e = refl
series_front n (x ∷ xs) ys zero e = absurd (omega (arith, ap length e))
series_front n (x ∷ xs) ys (suc k) e =
    ap (λ (zs : List ℕ). x ∷ zs) (series_front (step n) xs ys k (ap (drop 1) e))
    ∙ ap (λ (m : ℕ). m ∷ series (step n) (length xs)) (ap (λ (zs : List ℕ). get_or zs 0 0) e)

-- ---- what is new in dispatched
-- by its slots
newly_is : (x y : State) (js : List ℕ) → dispatched_in y ≡ dispatched_in x ++ js → newly x y ≡ map (packet_at y) js
newly_is x y js e =
    let was = dispatched_in x in
    ap (λ (ss : List ℕ). drop (length (ready x)) (map (packet_at y) ss)) e
    ∙ ap (drop (length (ready x))) (map-append (packet_at y) was js)
    ∙ drop_at (map (packet_at y) was) (map (packet_at y) js) (length (ready x)) (length-map was (packet_at y) ∙ sym (length-map was (packet_at x)))

-- nothing, where dispatched is not longer
none_newly : (x y : State) → length (dispatched_in y) ≤ length (dispatched_in x) → newly x y ≡ []
none_newly x y h =
    drop_of_length-le (ready y) {i = length (ready x)}
    (omega (arith, h, length-map (dispatched_in x) (packet_at x), length-map (dispatched_in y) (packet_at y)))

drop-map : (f : ℕ → Packet) (n : ℕ) (ss : List ℕ) → drop n (map f ss) ≡ map f (drop n ss)
drop-map f zero ss = refl
drop-map f (suc n) [] = refl
drop-map f (suc n) (s ∷ ss) = drop-map f n ss

taken_slots : (y : State) (ss : List ℕ) → all_taken (map (packet_at y) ss) ≡ taken_by y.peer.incoming ss
unfolding all_taken taken_by
taken_slots y [] = refl
taken_slots y (s ∷ ss) =
    let i = get_or y.peer.incoming s no_incoming in
    ap (λ (ns : List ℕ). numbers_taken i.number.0 i.fragments ++ ns) (taken_slots y ss)

-- the numbers that it takes
pub numbers_newly : (x y : State) → all_taken (newly x y) ≡ numbers_joined x y
numbers_newly x y =
    ap (λ (n : ℕ). all_taken (drop n (ready y))) (length-map (dispatched_in x) (packet_at x))
    ∙ ap all_taken (drop-map (packet_at y) (length (dispatched_in x)) (dispatched_in y))
    ∙ taken_slots y (drop (length (dispatched_in x)) (dispatched_in y))

-- ---- a sound record's channel list holds slots of its channel
pub own_at : (slots : List Incoming) (j : ℕ) (cs : List Channel) (i : ℕ) → own slots j cs ≡ true → i < length cs
    → all (λ (s : ℕ). eqb (get_or slots s no_incoming).channel (j + i)) (in_items (get_or cs i no_channel).held) ≡ true
unfolding own
own_at slots j [] i e h = absurd (omega (arith, h))
own_at slots j (c ∷ cs) zero e h =
    let at : ℕ → Bool = λ n. all (λ (s : ℕ). eqb (get_or slots s no_incoming).channel n) (in_items c.held) in
    let here : j + 0 ≡ j = omega arith in
    ap at here ∙ both_left (at j) (own slots (j + 1) cs) e
own_at slots j (c ∷ cs) (suc i) e h =
    let next : j + suc i ≡ j + 1 + i = omega arith in
    let first : Bool = all (λ (s : ℕ). eqb (get_or slots s no_incoming).channel j) (in_items c.held) in
    ap (λ (n : ℕ). all (λ (s : ℕ). eqb (get_or slots s no_incoming).channel n) (in_items (get_or cs i no_channel).held)) next
    ∙ own_at slots (j + 1) cs i (both_right first (own slots (j + 1) cs) e) (omega (arith, h))

all_take : (f : ℕ → Bool) (n : ℕ) (xs : List ℕ) → all f xs ≡ true → all f (take n xs) ≡ true
unfolding all
all_take f zero xs e = refl
all_take f (suc n) [] e = refl
all_take f (suc n) (x ∷ xs) e =
    both_true (f x) (all f (take n xs)) (both_left (f x) (all f xs) e) (all_take f n xs (both_right (f x) (all f xs) e))

count-all : (f : Packet → Bool) (g : ℕ → Packet) (xs : List ℕ) → all (λ (s : ℕ). f (g s)) xs ≡ true → count f (map g xs) ≡ length (map g xs)
unfolding all count
count-all f g [] e = refl
count-all f g (x ∷ xs) e =
    let is : ◌≡◌ {A = ℕ} (pick (f (g x)) 1 0) 1 = ap (λ (b : Bool). pick b 1 0) (both_left (f (g x)) (all (λ (s : ℕ). f (g s)) xs) e) in
    omega (arith, is, count-all f g xs (both_right (f (g x)) (all (λ (s : ℕ). f (g s)) xs) e))

module _ (channel : ℕ) (p : Peer) (whole : Whole p) (good : sound p ≡ true) (h : channel < p.standing.channels) where
  pub moved_own : all (λ (s : ℕ). eqb (get_or p.incoming s no_incoming).channel channel) (take (ready_in channel p) (in_items (chosen channel p).held))
      ≡ true
  moved_own =
      let f : ℕ → Bool = λ s. eqb (get_or p.incoming s no_incoming).channel channel in
      let cs = below p.channels p.standing.channels in
      let here : channel < length cs =
      omega (arith, h, count_high p good, whole.channels, length-take p.standing.channels p.channels) in
      let from_none : channel ≡ 0 + channel = omega arith in
      let theirs = own_at p.incoming 0 cs channel (incoming_clauses p good).own here in
      all_take f (ready_in channel p) (in_items (chosen channel p).held)
      (ap (λ (c : Channel). all f (in_items c.held)) (sym (get_or-take p.standing.channels p.channels channel no_channel h))
      ∙ ap (λ (n : ℕ). all (λ (s : ℕ). eqb (get_or p.incoming s no_incoming).channel n) (in_items (get_or cs channel no_channel).held)) from_none
      ∙ theirs)

-- ---- what a call on a channel lets join: packets of that channel, none before begin
-- before begin no channel counts
abbrev pub Unbegun : Peer → Type 0
Unbegun p = p.standing.channels ≡ 0

same_newly : (x : State) → newly x x ≡ []
same_newly x = drop-length (ready x)

pub record Joined (on : ℕ) (x y : State) : Type 0 where
  pub of : count (is_of on) (newly x y) ≡ length (newly x y)
  pub none : Unbegun x.peer → newly x y ≡ []
  pub same : Unbegun y.peer → Unbegun x.peer

pub none_joined : (on : ℕ) (x : State) → Joined on x x
none_joined on x =
    let e = same_newly x in
    record { of = ap (count (is_of on)) e ∙ count_none (is_of on) ∙ sym (ap (λ (ks : List Packet). length ks) e); none = λ z. e; same = λ z. z }

pub slots_joined : (on : ℕ) (x y : State) (js : List ℕ) → dispatched_in y ≡ dispatched_in x ++ js
    → all (λ (s : ℕ). eqb (get_or y.peer.incoming s no_incoming).channel on) js ≡ true
    → on < x.peer.standing.channels → (Unbegun y.peer → Unbegun x.peer) → Joined on x y
slots_joined on x y js e theirs h same =
    let is = newly_is x y js e in
    record {
      of = ap (count (is_of on)) is ∙ count-all (is_of on) (packet_at y) js theirs ∙ sym (ap (λ (ks : List Packet). length ks) is);
      none = λ z. absurd (omega (arith, h, z));
      same = same;
    }

pub dispatch_joined : (s : Settings) (channel : ℕ) (x : State) → Whole x.peer → Joined channel x (beside x (dispatches s channel x.peer)).after
dispatch_joined s channel x whole =
    let p = x.peer in
    let P : Outcome Peer → Type 0 = λ o. Joined channel x (record { peer = o.after; store = x.store; second = x.second }) in
    let same : Joined channel x x = none_joined channel x in
    behind_has (gate_of (fits s lent.Nothing) (sound p)) p (dispatches_sound channel p) P (λ why. same)
    (λ e. behind_has (dispatch_gate channel p.standing) p (finished (dispatched_on channel p)) P (λ why. same)
    (λ opens.
    let good = sound_open (fits s lent.Nothing) (sound p) e in
    let h = below_count channel p.standing opens in
    slots_joined channel x (record { peer = dispatched_on channel p; store = x.store; second = x.second }) _ (dispatch_order channel p whole good h).joined
    (moved_own channel p whole good h) h (λ z. z)))

pub reliable_joined : (s : Settings) (a : Arrival) (datagram : List ℕ) (x : State) → Whole x.peer
    → Joined a.channel x (arrives_reliable s a datagram x).after
reliable_joined s a datagram x whole =
    let same : Joined a.channel x x = none_joined a.channel x in
    reliable_has s a datagram x (λ (o : Outcome State). Joined a.channel x o.after) (λ why. same) (λ good e. same)
    (λ n good long may e.
    let free = held_free s a datagram x n e in
    let q = between a datagram x n whole good may free in
    let whole_q = between_whole a datagram x n whole good may free in
    let good_q = between-sound a datagram x n whole good may free in
    slots_joined a.channel x (reliable_after (fate.Stored n) a datagram x) _
    (ap (λ (r : Peer). in_items r.lists.dispatched) (left_dispatched a datagram x n whole good may free)
    ∙ (dispatch_order a.channel q whole_q good_q may.on).joined)
    (moved_own a.channel q whole_q good_q may.on) may.on (λ z. z))

-- ---- what an unsequenced arrival lets join is what it puts in
pub record Enters (a : Arrival) (datagram : List ℕ) (x : State) (o : Outcome State) : Type 0 where
  pub is : newly x o.after ≡ pick (says_one o.answer) (payload a datagram ∷ []) []
  pub none : Unbegun x.peer → newly x o.after ≡ []
  pub same : Unbegun o.after.peer → Unbegun x.peer

module _ (s : Settings) (a : Arrival) (group : Group) (datagram : List ℕ) (x : State) (whole : Whole x.peer) where
  abbrev left : Unsequenced
  left = (judged_on s group x.peer).unsequenced

  stored_enters : (n : ℕ) → sound x.peer ≡ true → Admitted a x.peer.standing (length datagram) → (judged_on s group x.peer).fate ≡ fate.Stored n
      → let o : Outcome State = record { answer = stored; after = stored_at n a datagram x (delivered x.peer.lists n) left x.peer.channels } in
      Arrives a datagram x o → Enters a datagram x o
  stored_enters n good may e (leaves l not) = absurd (not refl)
  stored_enters n good may e (stores k is) =
      let y = stored_at n a datagram x (delivered x.peer.lists n) left x.peer.channels in
      let free = stored_free s a group datagram x n e in
      record {
        is =
            newly_is x y (n ∷ []) (joins a datagram x left n whole good may free)
            ∙ ap (λ (m : ℕ). packet_at y m ∷ []) (same_slot n k.slot free k.free)
            ∙ ap (λ (j : Packet). j ∷ []) (stored_own a datagram x y k good may.short);
        none = λ z. absurd (omega (arith, z, may.on));
        same = λ z. z;
      }

  pub unsequenced_enters : Enters a datagram x (arrives_unsequenced s a group datagram x)
  unsequenced_enters =
      unsequenced_has s a group datagram x (λ (o : Outcome State). Arrives a datagram x o → Enters a datagram x o)
      (λ why k.
      record {
        is = same_newly x ∙ sym (ap (λ (b : Bool). pick b (payload a datagram ∷ []) []) (refused_one why));
        none = λ z. same_newly x;
        same = λ z. z;
      })
      (λ good e k. record { is = same_newly x; none = λ z. same_newly x; same = λ z. z })
      (λ good e k. record { is = same_newly x; none = λ z. same_newly x; same = λ z. z })
      (λ n good long may e k. stored_enters n good may e k)
      (unsequenced_stores s a group datagram x whole)

-- ---- the other calls: nothing joins, and none but begin makes channels count
abbrev pub Before : Peer → Peer → Type 0
Before p q = Unbegun q → Unbegun p

behind_before : (p : Peer) (g : Result ⊤ Refusal) (rest : Outcome Peer) → Before p rest.after → Before p (behind g p rest).after
behind_before p g rest h = behind_has g p rest (λ (o : Outcome Peer). Before p o.after) (λ why z. z) (λ e. h)

on_before : (s : Settings) (p : Peer) (rest : Outcome Peer) → Before p rest.after → Before p (on_record s p rest).after
on_before s p rest h = behind_before p (gate_of (fits s lent.Nothing) (sound p)) rest h

standing_before : (p q : Peer) → q.standing ≡ p.standing → Before p q
standing_before p q e z = sym (ap (λ (t : Standing). t.channels) e) ∙ z

pub state_before : (s : Settings) (state : ℕ) (p : Peer) → Before p (sets_state s state p).after
state_before s state p =
    on_before s p (sets_state_sound state p)
    (picked (λ (o : Outcome Peer). Before p o.after) (leb state last_state) (finished (stated state p)) (unchanged OutOfRange p) (λ z. z) (λ z. z))

step_before : (f : Option ℕ) (q : Queue) (time : ℕ) (p : Peer) → Before p (steps_from f q time p).after
unfolding sent_as
step_before None q time p z = z
step_before (Some n) q time p z = z

by_before : (t : Option ℕ) (channel number clock : ℕ) (p : Peer) → Before p (acknowledges_by t channel number clock p).after
by_before None channel number clock p z = z
by_before (Some sample) channel number clock p z = z

pub outward_before : (s : Settings) (c : Outward) (p : Peer) → Before p (calls_out s c p).after
outward_before s out.Ping p =
    on_before s p (pings_sound p)
    (behind_before p (ping_gate p.standing (room p)) (finished (queued ping_piece p)) (standing_before p (queued ping_piece p) (queued-standing ping_piece p)))
outward_before s (out.Send channel long flags) p =
    let xs = commands (fragment s p) channel long flags p in
    on_before s p (sends_sound s channel long flags p)
    (behind_before p (send_gate s channel long p.standing) (queues_all xs p)
    (behind_before p (queue_gate (length xs) (room p)) (finished (queued_all xs p)) (standing_before p (queued_all xs p) (queued_all-standing xs p))))
outward_before s (out.Setup x) p =
    on_before s p (sets_up_sound x p)
    (behind_before p (setup_gate x p.standing.channels (room p)) (finished (queued x p)) (standing_before p (queued x p) (queued-standing x p)))
outward_before s (out.SendStep q time) p = on_before s p (steps_sound q time p) (step_before (first (out_items (list_of q p.lists))) q time p)
outward_before s (out.Acknowledgement channel number sent clock) p =
    on_before s p (acknowledges_sound channel number.0 sent clock p) (by_before (heard_in p.standing.state clock sent) channel number.0 clock p)
outward_before s (out.TimeoutCheck clock) p = on_before s p (checks_sound clock p) (λ z. z)
outward_before s (out.Throttle sample) p = on_before s p (throttles_sound sample p) (λ z. z)

-- begin is done only where no channel counts
pub record Begins (p : Peer) (o : Outcome Peer) : Type 0 where
  pub at : o.answer.number ≡ 0 → Unbegun p
  pub before : Before p o.after

pub begin_at : (s : Settings) (mtu count : ℕ) (p : Peer) → Begins p (begins s mtu count p)
begin_at s mtu count p =
    behind_has (gate_of (fits s lent.Nothing) (sound p)) p (begins_sound mtu count p) (Begins p)
    (λ why. record { at = λ e. absurd (refused_not_done why e); before = λ z. z })
    (λ e. go (begin_fits mtu count p.standing.channels) refl)
  where
    go : (b : Bool) → begin_fits mtu count p.standing.channels ≡ b → Begins p (pick b (finished (begun mtu count p)) (unchanged OutOfRange p))
    go true e =
        let none = eqb-true p.standing.channels 0
        (both_right (leb count channels) _ (both_right (leb 1 count) _ (both_right (mtu_fits mtu) _ e))) in
        record { at = λ d. none; before = λ z. none }
    go false e = record { at = λ d. absurd (omega (arith, d)); before = λ z. z }

pub still_newly : (x : State) (q : Peer) → Still x.peer q → newly x (record { peer = q; store = x.store; second = x.second }) ≡ []
still_newly x q k = none_newly x (record { peer = q; store = x.store; second = x.second }) (omega (arith, ap (λ (ss : List ℕ). length ss) k.items))

-- receive takes one off dispatched, and changes no count
pub record Shorter (x y : State) : Type 0 where
  pub none : newly x y ≡ []
  pub same : Before x.peer y.peer

pub receive_shorter : (s : Settings) (x : State) → Shorter x (beside x (receives s x.peer)).after
receive_shorter s x =
    behind_has (gate_of (fits s lent.Nothing) (sound x.peer)) x.peer (receives_sound x.peer)
    (λ (o : Outcome Peer). Shorter x (record { peer = o.after; store = x.store; second = x.second }))
    (λ why. record { none = same_newly x; same = λ z. z }) (λ e. go (dispatched_in x) refl)
  where
    go : (xs : List ℕ) → dispatched_in x ≡ xs → Shorter x (beside x (receives_from (first xs) x.peer)).after
    go [] e = record { none = same_newly x; same = λ z. z }
    go (n ∷ rest) e =
        let left = shorter_items x.peer.lists.dispatched n rest e in
        record {
          none =
              none_newly x (record { peer = taken n x.peer; store = x.store; second = x.second })
              (omega (arith, ap (λ (ss : List ℕ). length ss) e, ap (λ (ss : List ℕ). length ss) left));
          same = λ z. z;
        }
