-- On each channel the reliable numbers of what is queued are 1, 2, 3 and so on. The argument: a channel's counter, for 255 the peer's own, is the
-- last number that was queued on it; a setup steps exactly the counter whose number its command gets; begin makes the channels new, but before it nothing
-- was queued on any of them.
use Rattle.std.specs.Prelude.{Option, Some, None}
use Prim.Native.Nat.{ℕ, ◌≤◌, ◌<◌}
use mathlib.Core.Path.{◌≡◌, refl, ap, ap₂, sym, subst, ◌∙◌}
use mathlib.Core.Bool.{Bool, true, false}
use mathlib.Core.List.{List, [], ◌∷◌, ◌++◌, map, map-append, append_assoc, append-nil}
use native.Mathlib.Omega.{arith}
use lib.Dec.{leb, ltb, eqb}
use lib.ListN.{length, replicate}
use lib.Seq.{get_or-set_same, get_or-set_other}
use borrow.Author.Tests.{eqb-true, eqb-false, eq-eqb, ne_eqb, ltb-true}
use Rattle.numbers.specs.Pick.{pick, both}
use Rattle.numbers.specs.Modulo.{minus}
use Rattle.numbers.specs.Limits.{mtu_fits}
use Rattle.numbers.specs.Counters.{step}
use Rattle.numbers.specs.declared.counters.Reliable.{Reliable}
use Rattle.numbers.specs.declared.refusals.Refusal.TheVariants.{OutOfRange}
use Rattle.numbers.proofs.BoolLaws.{both_right}
use Rattle.record.specs.Channels.{is_itself, on_channel}
use Rattle.record.specs.Lists.{out_items}
use Rattle.cells.specs.Runs.{first}
use Rattle.record.specs.Fresh.{no_channel}
use Rattle.record.specs.Sizes.{channels, itself}
use Rattle.record.specs.Updates.{with_numbers, with_transit}
use Rattle.record.specs.declared.groups.Channel.{Channel}
use Rattle.record.specs.declared.groups.Flow.{Flow}
use Rattle.record.specs.declared.groups.Outgoing.{Outgoing}
use Rattle.record.specs.declared.groups.Standing.{Standing}
use Rattle.peer.specs.Damage.{sound}
use Rattle.peer.specs.Fresh.{fresh_peer}
use Rattle.peer.specs.Gate.{fits, gate_of, on_record}
use Rattle.peer.specs.Outcome.{Outcome, finished, unchanged}
use Rattle.peer.specs.Sounds.{Whole}
use Rattle.peer.specs.declared.settings.Settings.{Settings}
use Rattle.peer.specs.declared.Peer.{Peer}
use Rattle.peer.specs.declared.defaults.Kept.{Kept}
use Rattle.peer.specs.declared.gate.Lent.TheVariants as lent
use Rattle.peer.proofs.Gates.{behind_has}
use Rattle.peer.proofs.Ranges.{count_high}
use Rattle.lifecycle.specs.Calls.{begin_fits, begun, begins_sound, begins}
use Rattle.command.specs.Flags.{acknowledged, unsequenced}
use Rattle.outbox.specs.Counting.{group_step, unreliable_step, counters_after, reliable_of, channel_at, counters_at, numbered}
use Rattle.outbox.specs.declared.counting.Counters.{Counters}
use Rattle.outbox.specs.declared.pieces.Piece.{Piece}
use Rattle.setup.specs.Queueing.{stamp_of, made, queued_at, queued, queued_all}
use Rattle.setup.specs.Taking.{Ready, filled}
use Rattle.setup.proofs.Sound.{fit_on, queued-standing}
use Rattle.setup.proofs.Taking.{queued_at_lem}
use Rattle.setup.proofs.Taking.{step as setup}
use Rattle.send_step.specs.Steps.{list_of, is_acknowledged, carrying, head, sent_as}
use Rattle.send_step.specs.Calls.{steps_from, steps_sound, steps}
use Rattle.send_step.specs.declared.heads.Queue.{Queue}
use Rattle.queues.specs.declared.Out.{Out}
use Rattle.queues.specs.declared.Out.TheVariants as out
use Rattle.acknowledge.specs.Removal.{spot_of, flow_left, flow_without}
use Rattle.acknowledge.specs.declared.removal.Spot.{Spot}
use Rattle.acknowledge.specs.Calls.{heard_in, acknowledges_by, acknowledges_sound, acknowledges}
use Rattle.timeouts.specs.Calls.{checks_sound, checks}
use Rattle.laws.proofs.Carrying.{same_all}
use Rattle.promises.specs.Counts.{those}
use Rattle.promises.specs.Outbook.{Item, item_of, numbered_on}
use Rattle.promises.proofs.Reporting.{Rises, last_from, rises_on, last_on_lem}
use Rattle.promises.proofs.OutAside.{given_on, Uncounted, uncounted, set_given}

-- ---- the numbers queued on a channel
abbrev pub numbers_on : ℕ → List Item → List ℕ
numbers_on c is = map (λ (i : Item). i.reliable) (those (numbered_on c) is)

those_append : {A : Type 0} (f : A → Bool) (ks ls : List A) → those f (ks ++ ls) ≡ those f ks ++ those f ls
unfolding those
those_append f [] ls = refl
those_append {A} f (k ∷ ks) ls = go (f k) (those_append f ks ls)
  where
    go : (b : Bool) → those f (ks ++ ls) ≡ those f ks ++ those f ls
        → pick b (k ∷ those f (ks ++ ls)) (those f (ks ++ ls)) ≡ pick b (k ∷ those f ks) (those f ks) ++ those f ls
    go true e = ap (λ (ms : List A). k ∷ ms) e
    go false e = e

numbers_append : (c : ℕ) (is js : List Item) → numbers_on c (is ++ js) ≡ numbers_on c is ++ numbers_on c js
numbers_append c is js =
    ap (map (λ (i : Item). i.reliable)) (those_append (numbered_on c) is js)
    ∙ map-append (λ (i : Item). i.reliable) (those (numbered_on c) is) (those (numbered_on c) js)

one_numbered : (c : ℕ) (i : Item) → numbered_on c i ≡ true → numbers_on c (i ∷ []) ≡ i.reliable ∷ []
unfolding those
one_numbered c i e = ap (λ (b : Bool). map (λ (j : Item). j.reliable) (pick b (i ∷ []) [])) e

one_other : (c : ℕ) (i : Item) → numbered_on c i ≡ false → numbers_on c (i ∷ []) ≡ []
unfolding those
one_other c i e = ap (λ (b : Bool). map (λ (j : Item). j.reliable) (pick b (i ∷ []) [])) e

-- ---- what stands along a run, on one channel
-- the last number given out on it
abbrev last_by : ℕ → Reliable → List Channel → ℕ
last_by c own cs = pick (eqb c itself) own.0 (given_on cs c).0

abbrev last_on : ℕ → Peer → ℕ
last_on c p = last_by c p.flow.own_number p.channels

pub record Counted (c : ℕ) (is : List Item) (p : Peer) : Type 0 where
  pub rises : Rises 0 (numbers_on c is)
  pub last : last_on c p ≡ last_from 0 (numbers_on c is)
  pub early : p.standing.channels ≡ 0 → eqb c itself ≡ false → numbers_on c is ≡ []

pub uncounted_counted : (c : ℕ) (is : List Item) (p q : Peer) → Uncounted p q → Counted c is p → Counted c is q
uncounted_counted c is p q u k =
    record {
      rises = k.rises;
      last = ap₂ (λ (a b : Reliable). pick (eqb c itself) a.0 b.0) u.own (u.given c) ∙ k.last;
      early = λ z far. k.early (sym u.many ∙ z) far;
    }

-- ---- what one setup does to it: the command gets the next number, or none of this channel
data Gives (c : ℕ) (i : Item) (before after : ℕ) : Type 0 where
  next : numbered_on c i ≡ true → i.reliable ≡ step before → after ≡ i.reliable → Gives c i before after
  other : numbered_on c i ≡ false → after ≡ before → Gives c i before after

-- the counters after a command, by the tests, and its number
module _ (byte channel offset : ℕ) (k : Counters) where
  abbrev stepped : Counters
  stepped = counters_after byte channel offset k

  own_steps : is_itself channel ≡ true → stepped.own.0 ≡ step k.own.0
  own_steps e = rw e

  own_leaves : is_itself channel ≡ true → stepped.reliable ≡ k.reliable
  own_leaves e = rw e

  own_number_lem : is_itself channel ≡ true → (reliable_of byte channel stepped).0 ≡ step k.own.0
  own_number_lem e = rw e

  asking_leaves : is_itself channel ≡ false → acknowledged byte ≡ true → stepped.own ≡ k.own
  asking_leaves e a = rw (e, a)

  asking_steps : is_itself channel ≡ false → acknowledged byte ≡ true → stepped.reliable.0 ≡ step k.reliable.0
  asking_steps e a = rw (e, a)

  asking_number : is_itself channel ≡ false → acknowledged byte ≡ true → (reliable_of byte channel stepped).0 ≡ step k.reliable.0
  asking_number e a = rw (e, a)

  -- the rest steps no reliable number
  rest_leaves : {A : Type 0} (part : Counters → A) → part (group_step k) ≡ part k → part (unreliable_step k) ≡ part k
      → is_itself channel ≡ false → acknowledged byte ≡ false → part stepped ≡ part k
  rest_leaves part g u e a = rw (e, a) (go (unsequenced byte) (eqb offset 0))
    where
      go : (b z : Bool) → part (pick b (group_step k) (pick z (unreliable_step k) k)) ≡ part k
      go true z = g
      go false true = u
      go false false = refl

-- a channel below the count is there
on_there : (channel count : ℕ) → on_channel channel count ≡ true → is_itself channel ≡ false → channel < count
on_there channel count on far = go (ltb channel count) refl on
  where
    go : (b : Bool) → ltb channel count ≡ b → pick b true (is_itself channel) ≡ true → channel < count
    go true e h = ltb-true channel count e
    go false e h =
        let y : false ≡ true = sym far ∙ h in
        let z : ◌≡◌ {A = ℕ} 0 1 = cc in
        absurd (omega arith)

by_own : (c : ℕ) (own : Reliable) (cs : List Channel) → eqb c itself ≡ true → last_by c own cs ≡ own.0
by_own c own cs e = rw e

by_given : (c : ℕ) (own : Reliable) (cs : List Channel) → eqb c itself ≡ false → last_by c own cs ≡ (given_on cs c).0
by_given c own cs e = rw e

module _ (x : Piece) (p : Peer) (whole : Whole p) (most : p.standing.channels ≤ channels)
    (on : on_channel x.command.channel p.standing.channels ≡ true) (c : ℕ) where
  abbrev byte : ℕ
  byte = x.command.byte

  abbrev channel : ℕ
  channel = x.command.channel

  abbrev k : Counters
  k = counters_at p.flow.own_number p.channels channel p.unsequenced.outgoing

  abbrev after : Counters
  after = (stamp_of x p).counters

  abbrev item : Item
  item = item_of (made x p)

  abbrev now : ℕ
  now = last_by c after.own (numbered p.channels channel after)

  off : eqb channel c ≡ false → numbered_on c item ≡ false
  off e = ap (λ (b : Bool). both b (pick (eqb c itself) true (acknowledged byte))) e

  -- a channel whose counter did not step
  kept_given : after.reliable ≡ k.reliable → given_on (numbered p.channels channel after) c ≡ given_on p.channels c
  kept_given e = set_given p.channels channel (with_numbers (channel_at p.channels channel) after.reliable after.unreliable) e c

  -- none of this channel's: 255 is the peer itself
  own_other : eqb c itself ≡ true → numbered_on c item ≡ false → after.own ≡ k.own → Gives c item (last_on c p) now
  own_other d n e =
      other n
      (by_own c after.own (numbered p.channels channel after) d ∙ ap (λ (r : Reliable). r.0) e
      ∙ sym (by_own c p.flow.own_number p.channels d))

  given_other : eqb c itself ≡ false → numbered_on c item ≡ false → given_on (numbered p.channels channel after) c ≡ given_on p.channels c
      → Gives c item (last_on c p) now
  given_other d n e =
      other n
      (by_given c after.own (numbered p.channels channel after) d ∙ ap (λ (r : Reliable). r.0) e
      ∙ sym (by_given c p.flow.own_number p.channels d))

  own_gives : is_itself channel ≡ true → (d : Bool) → eqb c itself ≡ d → Gives c item (last_on c p) now
  own_gives a true d =
      let same : channel ≡ c = eqb-true channel itself a ∙ sym (eqb-true c itself d) in
      let number = own_number_lem byte channel x.offset k a in
      next (rw (eq-eqb channel c same, d)) (number ∙ ap step (sym (by_own c p.flow.own_number p.channels d)))
      (by_own c after.own (numbered p.channels channel after) d ∙ own_steps byte channel x.offset k a ∙ sym number)
  own_gives a false d =
      given_other d (off (ne_eqb channel c (λ z. eqb-false c itself d (sym z ∙ eqb-true channel itself a))))
      (kept_given (own_leaves byte channel x.offset k a))

  asking_gives : is_itself channel ≡ false → acknowledged byte ≡ true → (d : Bool) → eqb c itself ≡ d → (e : Bool) → eqb channel c ≡ e
      → Gives c item (last_on c p) now
  asking_gives a b true d e t =
      own_other d (off (ne_eqb channel c (λ z. eqb-false channel itself a (z ∙ eqb-true c itself d)))) (asking_leaves byte channel x.offset k a b)
  asking_gives a b false d true t =
      let same : channel ≡ c = eqb-true channel c t in
      let number = asking_number byte channel x.offset k a b in
      let there : channel < length p.channels = omega (arith, on_there channel p.standing.channels on a, most, whole.channels) in
      next (rw (t, d, b))
      (number ∙ ap (λ (n : ℕ). step (given_on p.channels n).0) same ∙ ap step (sym (by_given c p.flow.own_number p.channels d)))
      (by_given c after.own (numbered p.channels channel after) d
      ∙ ap (λ (n : ℕ). (given_on (numbered p.channels channel after) n).0) (sym same)
      ∙ ap (λ (y : Channel). y.outgoing_reliable.0) (get_or-set_same p.channels channel _ no_channel there)
      ∙ asking_steps byte channel x.offset k a b ∙ sym number)
  asking_gives a b false d false t =
      given_other d (off t)
      (ap (λ (y : Channel). y.outgoing_reliable) (get_or-set_other p.channels channel c _ no_channel (λ i. eqb-false channel c t (sym i))))

  rest_gives : is_itself channel ≡ false → acknowledged byte ≡ false → (d : Bool) → eqb c itself ≡ d → Gives c item (last_on c p) now
  rest_gives a b true d =
      own_other d (off (ne_eqb channel c (λ z. eqb-false channel itself a (z ∙ eqb-true c itself d))))
      (rest_leaves byte channel x.offset k (λ (j : Counters). j.own) refl refl a b)
  rest_gives a b false d =
      given_other d (rw (d, b) (neither (eqb channel c)))
      (kept_given (rest_leaves byte channel x.offset k (λ (j : Counters). j.reliable) refl refl a b))
    where
      neither : (e : Bool) → both e false ≡ false
      neither true = refl
      neither false = refl

  gives : Gives c item (last_on c p) now
  gives = go (is_itself channel) refl (acknowledged byte) refl
    where
      go : (a : Bool) → is_itself channel ≡ a → (b : Bool) → acknowledged byte ≡ b → Gives c item (last_on c p) now
      go true a b h = own_gives a (eqb c itself) refl
      go false a true h = asking_gives a h (eqb c itself) refl (eqb channel c) refl
      go false a false h = rest_gives a h (eqb c itself) refl

  -- before begin only the peer's own numbers are given out
  early_off : p.standing.channels ≡ 0 → eqb c itself ≡ false → numbered_on c item ≡ false
  early_off z far = go (is_itself channel) refl
    where
      go : (a : Bool) → is_itself channel ≡ a → numbered_on c item ≡ false
      go true a = off (ne_eqb channel c (λ e. eqb-false c itself far (sym e ∙ eqb-true channel itself a)))
      go false a = absurd (omega (arith, z, on_there channel p.standing.channels on a))

-- ---- a command more
gives_counted : (c : ℕ) (is : List Item) (i : Item) (p q : Peer) → q.standing.channels ≡ p.standing.channels
    → (p.standing.channels ≡ 0 → eqb c itself ≡ false → numbered_on c i ≡ false) → Gives c i (last_on c p) (last_on c q) → Counted c is p
    → Counted c (is ++ (i ∷ [])) q
gives_counted c is i p q many early (next n r a) k =
    let log = numbers_on c is in
    let e : numbers_on c (is ++ (i ∷ [])) ≡ log ++ (i.reliable ∷ []) =
    numbers_append c is (i ∷ []) ∙ ap (λ (ns : List ℕ). log ++ ns) (one_numbered c i n) in
    record {
      rises = subst (Rises 0) (sym e) (rises_on 0 log (i.reliable ∷ []) k.rises (r ∙ ap step k.last, tt));
      last = a ∙ sym (ap (last_from 0) e ∙ last_on_lem 0 log (i.reliable ∷ []));
      early =
          λ z far.
          let y : true ≡ false = sym n ∙ early (sym many ∙ z) far in
          let w : ◌≡◌ {A = ℕ} 0 1 = cc in
          absurd (omega arith);
    }
gives_counted c is i p q many early (other n a) k =
    let log = numbers_on c is in
    let e : numbers_on c (is ++ (i ∷ [])) ≡ log =
    numbers_append c is (i ∷ []) ∙ ap (λ (ns : List ℕ). log ++ ns) (one_other c i n) ∙ append-nil log in
    record {
      rises = subst (Rises 0) (sym e) k.rises;
      last = a ∙ k.last ∙ sym (ap (last_from 0) e);
      early = λ z far. e ∙ k.early (sym many ∙ z) far;
    }

piece_counted : (c : ℕ) (is : List Item) (x : Piece) (xs : List Piece) (p : Peer) → Ready (x ∷ xs) p → Counted c is p
    → Counted c (is ++ (item_of (made x p) ∷ [])) (queued x p)
unfolding queued_at
piece_counted c is x xs p r k =
    let t = setup x xs p r in
    let on = fit_on x xs p r.fit in
    let most = count_high p r.good in
    gives_counted c is (item_of (made x p)) p (queued x p) (ap (λ (s : Standing). s.channels) (queued-standing x p))
    (early_off x p r.whole most on c)
    (subst (λ (q : Peer). Gives c (item_of (made x p)) (last_on c p) (last_on c q)) (sym (queued_at_lem x p t.slot t.low))
    (gives x p r.whole most on c)) k

pub pieces_counted : (c : ℕ) (xs : List Piece) (is : List Item) (p : Peer) → Ready xs p → Counted c is p
    → Counted c (is ++ map item_of (filled xs p)) (queued_all xs p)
unfolding queued_all filled
pieces_counted c [] is p r k = subst (λ (js : List Item). Counted c js p) (sym (append-nil is)) k
pieces_counted c (x ∷ xs) is p r k =
    let i = item_of (made x p) in
    subst (λ (js : List Item). Counted c js (queued_all xs (queued x p))) (append_assoc is (i ∷ []) (map item_of (filled xs (queued x p))))
    (pieces_counted c xs (is ++ (i ∷ [])) (queued x p) (setup x xs p r).next (piece_counted c is x xs p r k))

-- ---- reset and begin
new_given : (c : ℕ) → (given_on (replicate channels no_channel) c).0 ≡ 0
unfolding no_channel
new_given c = ap (λ (d : Channel). d.outgoing_reliable.0) (same_all channels c no_channel)

pub fresh_counted : (c mtu : ℕ) (k : Kept) → Counted c [] (fresh_peer mtu k)
unfolding fresh_peer those
fresh_counted c mtu k = record { rises = tt; last = go (eqb c itself); early = λ z far. refl }
  where
    go : (b : Bool) → pick b 0 (given_on (replicate channels no_channel) c).0 ≡ 0
    go true = refl
    go false = new_given c

begun_counted : (c : ℕ) (is : List Item) (mtu count : ℕ) (p : Peer) → p.standing.channels ≡ 0 → Counted c is p → Counted c is (begun mtu count p)
begun_counted c is mtu count p zero k = record { rises = k.rises; last = go (eqb c itself) refl; early = λ z far. k.early zero far }
  where
    go : (b : Bool) → eqb c itself ≡ b → pick b p.flow.own_number.0 (given_on (replicate channels no_channel) c).0 ≡ last_from 0 (numbers_on c is)
    go true e = sym (by_own c p.flow.own_number p.channels e) ∙ k.last
    go false e = new_given c ∙ sym (ap (last_from 0) (k.early zero e))

pub begin_counted : (s : Settings) (mtu count : ℕ) (p : Peer) (c : ℕ) (is : List Item) → Counted c is p → Counted c is (begins s mtu count p).after
begin_counted s mtu count p c is k =
    behind_has (gate_of (fits s lent.Nothing) (sound p)) p (begins_sound mtu count p) (λ (o : Outcome Peer). Counted c is o.after) (λ why. k)
    (λ e. go (begin_fits mtu count p.standing.channels) refl)
  where
    go : (b : Bool) → begin_fits mtu count p.standing.channels ≡ b
        → Counted c is (pick b (finished (begun mtu count p)) (unchanged OutOfRange p)).after
    go true e =
        let zero_now = both_right (leb count channels) _
        (both_right (leb 1 count) _ (both_right (mtu_fits mtu) _ e)) in
        begun_counted c is mtu count p (eqb-true p.standing.channels 0 zero_now) k
    go false e = k

-- ---- send step, acknowledgement and timeout check give out none
behind_uncounted : (s : Settings) (p : Peer) (rest : Outcome Peer) → Uncounted p rest.after → Uncounted p (on_record s p rest).after
behind_uncounted s p rest u =
    behind_has (gate_of (fits s lent.Nothing) (sound p)) p rest (λ (o : Outcome Peer). Uncounted p o.after) (λ why. uncounted p) (λ e. u)

pub step_uncounted : (s : Settings) (k : Queue) (time : ℕ) (p : Peer) → Uncounted p (steps s k time p).after
unfolding sent_as
step_uncounted s k time p = behind_uncounted s p (steps_sound k time p) (go (first (out_items (list_of k p.lists))))
  where
    own : (o : Outgoing) (b : Bool) → (pick b (carrying p.flow o) p.flow).own_number ≡ p.flow.own_number
    own o true = refl
    own o false = refl

    go : (f : Option ℕ) → Uncounted p (steps_from f k time p).after
    go None = uncounted p
    go (Some n) = record { own = own (head p n time) (is_acknowledged (head p n time)); many = refl; given = λ c. refl }

left_own : (list : Out) (o : Outgoing) (f : Flow) → (flow_left list o f).own_number ≡ f.own_number
left_own out.Sent o f = go o.packet
  where
    go : (b : Bool) → (pick b (with_transit f (minus 32 f.transit o.length)) f).own_number ≡ f.own_number
    go true = refl
    go false = refl
left_own out.Reliable o f = refl
left_own out.Outgoing o f = refl

removal_own : (w : Option Spot) (o : Outgoing) (f : Flow) → (flow_without w o f).own_number ≡ f.own_number
removal_own (Some w) o f = left_own w.list o f
removal_own None o f = refl

pub acknowledge_uncounted : (s : Settings) (channel number sent clock : ℕ) (p : Peer)
    → Uncounted p (acknowledges s channel number sent clock p).after
acknowledge_uncounted s channel number sent clock p =
    behind_uncounted s p (acknowledges_sound channel number sent clock p) (go (heard_in p.standing.state clock sent))
  where
    go : (t : Option ℕ) → Uncounted p (acknowledges_by t channel number clock p).after
    go None = uncounted p
    go (Some sample) = record { own = removal_own (spot_of p.outgoing number channel p.lists) _ p.flow; many = refl; given = λ c. refl }

pub check_uncounted : (s : Settings) (clock : ℕ) (p : Peer) → Uncounted p (checks s clock p).after
check_uncounted s clock p = behind_uncounted s p (checks_sound clock p) (record { own = refl; many = refl; given = λ c. refl })
