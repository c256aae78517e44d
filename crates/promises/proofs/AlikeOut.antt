-- The sending side on two records that are the same, and reset, begin, set state: each call gives the same answer, and what it leaves is alike.
-- The argument: a call reads groups, what the lists name and what the slots named hold, which are equal on both sides; a slot that it writes it writes
-- alike, and its lists then name nothing but that slot and what they named.
use Rattle.std.specs.Prelude.{None, Option, Some}
use Prim.Native.Nat.{ℕ, ◌+◌, ◌≤◌, ◌<◌}
use mathlib.Core.Path.{◌≡◌, refl, ap, ap₂, sym, subst, ◌∙◌}
use mathlib.Core.Bool.{Bool, true, false}
use mathlib.Core.List.{List, [], ◌∷◌, ◌++◌}
use native.Mathlib.Omega.{arith}
use lib.Dec.{ltb, leb}
use lib.ListN.{length, set, get_or-eq_default}
use borrow.Author.Tests.{eqb-true, ltb-true}
use Rattle.std.specs.Prelude.{⊤, Result, Ok}
use Rattle.numbers.specs.Pick.{pick}
use Rattle.numbers.specs.declared.refusals.Refusal.{Refusal}
use Rattle.numbers.specs.declared.refusals.Refusal.TheVariants.{OutOfRange}
use Rattle.numbers.specs.Modulo.{sum}
use Rattle.throttle.specs.Throttling.{by_tests}
use Rattle.record.specs.Channels.{is_itself, on_channel}
use Rattle.record.proofs.ChannelLaws.{itself_on}
use Rattle.record.specs.Lists.{outgoing, out_items}
use Rattle.record.specs.declared.outgoing.OutList.{OutList}
use Rattle.record.proofs.Views.{out_items_keep}
use Rattle.record.proofs.Keeps.{one, times, times_append, pushed_adds, without_takes}
use Rattle.cells.specs.Runs.{first, pushed, without}
use Rattle.cells.specs.Free.{lowest, how_many}
use Rattle.cells.proofs.Lowest.{lowest_exists}
use Rattle.record.specs.Sizes.{itself}
use Rattle.record.specs.Fresh.{no_outgoing, no_channel}
use Rattle.record.specs.Damage.{used_out}
use Rattle.record.specs.Updates.{with_state, with_count, with_mtu, with_reliable, with_outgoing_total, with_outgoing_group, with_queued}
use Rattle.record.specs.Updates.{with_sent_list, with_reliable_list, with_outgoing_list, longer, shorter}
use Rattle.record.specs.declared.groups.Standing.{Standing}
use Rattle.record.specs.declared.groups.Flow.{Flow}
use Rattle.record.specs.declared.groups.Lists.{Lists}
use Rattle.record.specs.declared.groups.Times.{Times}
use Rattle.record.specs.declared.groups.Totals.{Totals}
use Rattle.record.specs.declared.groups.Unsequenced.{Unsequenced}
use Rattle.record.specs.declared.groups.Waiting.{Waiting}
use Rattle.record.specs.declared.groups.Throttling.{Throttling}
use Rattle.record.specs.declared.groups.Trips.{Trips}
use Rattle.record.specs.declared.groups.Outgoing.{Outgoing}
use Rattle.peer.specs.Damage.{sound}
use Rattle.peer.specs.Sounds.{Whole}
use Rattle.peer.specs.Outcome.{Outcome, finished, unchanged}
use Rattle.peer.specs.States.{last_state}
use Rattle.peer.specs.Gate.{fits, gate_of, behind, on_record}
use Rattle.peer.specs.declared.settings.Settings.{Settings}
use Rattle.peer.specs.declared.Peer.{Peer}
use Rattle.peer.specs.declared.gate.Lent.TheVariants as lent
use Rattle.peer.proofs.Gates.{sound_open}
use Rattle.laws.proofs.SameLaws.{agree_less, agree_set, agree_new, named_first, named_with, Lined, lined_used, ranked_set, ranked_at, Like}
use Rattle.laws.proofs.SameLaws.{out_shape, channel_shape, out_items_lem, out_kept}
use Rattle.laws.specs.Same.{ChannelView}
use Rattle.laws.proofs.SamePairs.{behind_pair, ranked_by, rebuilt_like}
use Rattle.lifecycle.specs.Calls.{begin_fits, begun, begins_sound, begins, stated, sets_state_sound, sets_state}
use Rattle.round_trip.specs.Interval.{throttle_of, throttled}
use Rattle.round_trip.specs.Calls as throttling
use Rattle.outbox.specs.Counting.{channel_at, stamped}
use Rattle.outbox.specs.Pieces.{slot_of, grown, to_reliable, lists_with}
use Rattle.outbox.specs.declared.counting.Counters.{Counters}
use Rattle.outbox.specs.declared.counting.Stamped.{Stamped}
use Rattle.outbox.specs.declared.pieces.Piece.{Piece}
use Rattle.setup.specs.Queueing.{room, stamp_of, made, queued_at, queued_in, queued, queued_all}
use Rattle.setup.specs.Taking.{all_fit}
use Rattle.setup.specs.Calls.{setup_gate, sets_up_sound, sets_up}
use Rattle.setup.proofs.Sound.{queued_whole, fit_on, fit_rest, setup_open}
use Rattle.packets.specs.Packets.{fragment_length, whole, cut_by, start_of, pieces}
use Rattle.packets.specs.Refusals.{send_gate, queue_gate}
use Rattle.send.specs.Calls.{fragment, commands, queues_all, sends_sound, sends}
use Rattle.send.proofs.Sound.{gate_channel, commands_fit}
use Rattle.setup.specs.Pings.{ping_piece, ping_gate, pings_sound, pings}
use Rattle.send_step.specs.Steps.{list_of, attempted, head, is_acknowledged, without_head, lists_sent, packet_sent, flow_sent, times_sent, sent_as}
use Rattle.send_step.specs.Calls as stepping
use Rattle.send_step.specs.declared.heads.Queue.{Queue}
use Rattle.send_step.specs.declared.heads.Queue.TheVariants as queue
use Rattle.throttle.specs.declared.Turn.TheVariants as turn

-- two results of a call: one answer, and records that are alike
pub record Twin (o r : Outcome Peer) : Type 0 where
  pub answer : o.answer ≡ r.answer
  pub like : Like o.after r.after

pub ap₃ : {A B C D : Type 0} (f : A → B → C → D) {a a' : A} {b b' : B} {c c' : C} → a ≡ a' → b ≡ b' → c ≡ c' → f a b c ≡ f a' b' c'
ap₃ {A} {B} {C} f {a = a} {b' = b'} {c' = c'} d e g = ap₂ (λ (x : B) (y : C). f a x y) e g ∙ ap (λ (x : A). f x b' c') d

-- ---- what lists name, slot by slot
longer_adds : (l : OutList) (n s : ℕ) → times (out_items (longer l n)) s ≤ one n s + times (out_items l) s
longer_adds l n s =
    let e = ap (λ (xs : List ℕ). times xs s) (out_items_keep l (pushed outgoing (out_items l) n)) in
    omega (arith, e, pushed_adds outgoing (out_items l) n s)

shorter_takes : (l : OutList) (s : ℕ) → times (out_items (shorter l)) s ≤ times (out_items l) s
shorter_takes l s =
    let e = ap (λ (xs : List ℕ). times xs s) (out_items_keep l (without (out_items l) 0)) in
    omega (arith, e, without_takes (out_items l) 0 s)

pub used_adds : (l : Lists) (s : ℕ) → times (used_out l) s ≡ times (out_items l.sent) s + (times (out_items l.send_reliable) s + times (out_items l.outgoing) s)
used_adds l s =
    omega (
      arith,
      times_append (out_items l.sent) (out_items l.send_reliable ++ out_items l.outgoing) s,
      times_append (out_items l.send_reliable) (out_items l.outgoing) s,
    )

-- a list of one record and that of the other, a slot longer or without its head
longer_like : (l m : OutList) (n : ℕ) → out_shape l ≡ out_shape m → out_shape (longer l n) ≡ out_shape (longer m n)
longer_like l m n e =
    out_kept l m (pushed outgoing (out_items l) n) (pushed outgoing (out_items m) n) (ap (λ (xs : List ℕ). pushed outgoing xs n) (out_items_lem l m e))

shorter_like : (l m : OutList) → out_shape l ≡ out_shape m → out_shape (shorter l) ≡ out_shape (shorter m)
shorter_like l m e =
    out_kept l m (without (out_items l) 0) (without (out_items m) 0) (ap (λ (xs : List ℕ). without xs 0) (out_items_lem l m e))

-- ---- a send step on both
module _ (l m : Lists) (e : Lined l m) where
  queue_same : (r : Queue) → out_items (list_of r l) ≡ out_items (list_of r m)
  queue_same queue.Outgoing = out_items_lem l.outgoing m.outgoing e.outgoing
  queue_same queue.Reliable = out_items_lem l.send_reliable m.send_reliable e.send_reliable

  without_lined : (r : Queue) → Lined (without_head r l) (without_head r m)
  without_lined queue.Outgoing =
      record {
        sent = e.sent;
        send_reliable = e.send_reliable;
        outgoing = shorter_like l.outgoing m.outgoing e.outgoing;
        dispatched = e.dispatched;
      }
  without_lined queue.Reliable =
      record {
        sent = e.sent;
        send_reliable = shorter_like l.send_reliable m.send_reliable e.send_reliable;
        outgoing = e.outgoing;
        dispatched = e.dispatched;
      }

  sent_lined : (r : Queue) (n : ℕ) (o : Outgoing) → Lined (lists_sent r l n o) (lists_sent r m n o)
  sent_lined r n o = go (is_acknowledged o)
    where
      go : (b : Bool) → Lined (pick b (with_sent_list (without_head r l) (longer l.sent n)) (without_head r l))
          (pick b (with_sent_list (without_head r m) (longer m.sent n)) (without_head r m))
      go true =
          record {
            sent = longer_like l.sent m.sent n e.sent;
            send_reliable = (without_lined r).send_reliable;
            outgoing = (without_lined r).outgoing;
            dispatched = (without_lined r).dispatched;
          }
      go false = without_lined r

without_names : (r : Queue) (l : Lists) (s : ℕ) → times (out_items (without_head r l).send_reliable) s + times (out_items (without_head r l).outgoing) s
    ≤ times (out_items l.send_reliable) s + times (out_items l.outgoing) s
without_names queue.Outgoing l s = omega (arith, shorter_takes l.outgoing s)
without_names queue.Reliable l s = omega (arith, shorter_takes l.send_reliable s)

without_same : (r : Queue) (l : Lists) → (without_head r l).sent ≡ l.sent
without_same queue.Outgoing l = refl
without_same queue.Reliable l = refl

sent_names : (r : Queue) (l : Lists) (n : ℕ) (o : Outgoing) (s : ℕ) → times (used_out (lists_sent r l n o)) s ≤ one n s + times (used_out l) s
sent_names r l n o s = go (is_acknowledged o)
  where
    go : (b : Bool) → times (used_out (pick b (with_sent_list (without_head r l) (longer l.sent n)) (without_head r l))) s ≤ one n s + times (used_out l) s
    go true =
        omega (
          arith,
          used_adds (with_sent_list (without_head r l) (longer l.sent n)) s,
          used_adds l s,
          without_names r l s,
          longer_adds l.sent n s,
        )
    go false =
        let z = ap (λ (x : OutList). times (out_items x) s) (without_same r l) in
        omega (arith, used_adds (without_head r l) s, used_adds l s, without_names r l s, z)

-- the head of a list is named
head_named : (r : Queue) (l : Lists) (n : ℕ) (rest : List ℕ) → out_items (list_of r l) ≡ n ∷ rest → 0 < times (used_out l) n
head_named queue.Outgoing l n rest e =
    let here = ap (λ (xs : List ℕ). times xs n) e in omega (arith, here, used_adds l n, named_first n rest)
head_named queue.Reliable l n rest e =
    let here = ap (λ (xs : List ℕ). times xs n) e in omega (arith, here, used_adds l n, named_first n rest)

-- ---- a piece set up on both
-- a channel that counts, or 255, has the same shape in both
channel_like : (p q : Peer) → Like p q → Whole p → Whole q → (channel : ℕ) → on_channel channel p.standing.channels ≡ true
    → channel_shape (channel_at p.channels channel) ≡ channel_shape (channel_at q.channels channel)
channel_like p q k wp wq channel on = go (ltb channel p.standing.channels) refl on
  where
    none : (r : Peer) → Whole r → channel ≡ itself → channel_at r.channels channel ≡ no_channel
    none r w e = get_or-eq_default r.channels no_channel (let n = w.channels in omega (arith, n, e))

    go : (b : Bool) → ltb channel p.standing.channels ≡ b → pick b true (is_itself channel) ≡ true
        → channel_shape (channel_at p.channels channel) ≡ channel_shape (channel_at q.channels channel)
    go true t o = ranked_at p.channels q.channels p.standing.channels channel (ranked_by p q k) (ltb-true channel p.standing.channels t)
    go false t o = let e = eqb-true channel itself o in ap channel_shape (none p wp e ∙ sym (none q wq e))

-- the counters and a channel with other numbers, by the shape of the channel
abbrev counters_by : Flow → ChannelView → Unsequenced → Counters
counters_by f v g = record { own = f.own_number; reliable = v.outgoing_reliable; unreliable = v.outgoing_unreliable; group = g.outgoing }

abbrev renumbered : ChannelView → Counters → ChannelView
renumbered v c =
    record {
      outgoing_reliable = c.reliable;
      outgoing_unreliable = c.unreliable;
      incoming_reliable = v.incoming_reliable;
      incoming_unreliable = v.incoming_unreliable;
      held = v.held;
    }

with_lined : (l m : Lists) → Lined l m → (x : Piece) (n : ℕ) → Lined (lists_with l x n) (lists_with m x n)
with_lined l m e x n = go (to_reliable x)
  where
    go : (b : Bool) → Lined (pick b (with_reliable_list l (longer l.send_reliable n)) (with_outgoing_list l (longer l.outgoing n)))
        (pick b (with_reliable_list m (longer m.send_reliable n)) (with_outgoing_list m (longer m.outgoing n)))
    go true =
        record { sent = e.sent; send_reliable = longer_like l.send_reliable m.send_reliable n e.send_reliable; outgoing = e.outgoing; dispatched = e.dispatched }
    go false =
        record { sent = e.sent; send_reliable = e.send_reliable; outgoing = longer_like l.outgoing m.outgoing n e.outgoing; dispatched = e.dispatched }

with_names : (l : Lists) (x : Piece) (n s : ℕ) → times (used_out (lists_with l x n)) s ≤ one n s + times (used_out l) s
with_names l x n s = go (to_reliable x)
  where
    go : (b : Bool) → times (used_out (pick b (with_reliable_list l (longer l.send_reliable n)) (with_outgoing_list l (longer l.outgoing n)))) s
        ≤ one n s + times (used_out l) s
    go true = omega (arith, used_adds (with_reliable_list l (longer l.send_reliable n)) s, used_adds l s, longer_adds l.send_reliable n s)
    go false = omega (arith, used_adds (with_outgoing_list l (longer l.outgoing n)) s, used_adds l s, longer_adds l.outgoing n s)

module _ (x : Piece) (p q : Peer) (k : Like p q) (wp : Whole p) (wq : Whole q) (on : on_channel x.command.channel p.standing.channels ≡ true) where
  shape_same : channel_shape (channel_at p.channels x.command.channel) ≡ channel_shape (channel_at q.channels x.command.channel)
  shape_same = channel_like p q k wp wq x.command.channel on

  stamp_same : stamp_of x p ≡ stamp_of x q
  stamp_same =
      ap (stamped x.command.byte x.command.channel x.offset) (ap₃ counters_by k.flow shape_same k.unsequenced)

  counters_same : (stamp_of x p).counters ≡ (stamp_of x q).counters
  counters_same = ap (λ (t : Stamped). t.counters) stamp_same

  made_same : made x p ≡ made x q
  made_same = ap₂ (λ (t : Stamped) (w : Waiting). slot_of x t (sum 32 w.queued 1)) stamp_same k.waiting

  queued_at_like : (n : ℕ) → n < outgoing → Like (queued_at n x p) (queued_at n x q)
  unfolding queued_at
  queued_at_like n low =
      rebuilt_like p q k k.standing (ap (λ (t : Totals). with_outgoing_total t (grown t.outgoing x)) k.totals) k.times k.loss k.throttling
      k.trips (ap₂ (λ (f : Flow) (c : Counters). with_reliable f c.own) k.flow counters_same) (with_lined p.lists q.lists k.lists x n)
      (ap₂ (λ (g : Unsequenced) (c : Counters). with_outgoing_group g c.group) k.unsequenced counters_same)
      (ap (λ (w : Waiting). with_queued w (sum 32 w.queued 1)) k.waiting)
      (ranked_set p.channels q.channels p.standing.channels x.command.channel _ _ (ranked_by p q k) (ap₂ renumbered shape_same counters_same))
      (agree_less no_outgoing (n ∷ used_out p.lists) (set p.outgoing n (made x p)) (set q.outgoing n (made x q))
      (agree_new no_outgoing (used_out p.lists) p.outgoing q.outgoing k.outs n (made x p) (made x q)
      (let e = wp.outgoing in omega (arith, e, low)) (let e = wq.outgoing in omega (arith, e, low)) made_same)
      (used_out (lists_with p.lists x n)) (λ s h. omega (arith, h, with_names p.lists x n s)))
      k.marks

  queued_like : Like (queued x p) (queued x q)
  unfolding queued
  queued_like =
      subst (λ (xs : List ℕ). Like (queued x p) (queued_in (lowest outgoing xs) x q)) (lined_used p.lists q.lists k.lists)
      (go (lowest outgoing (used_out p.lists)) refl)
    where
      go : (f : Option ℕ) → lowest outgoing (used_out p.lists) ≡ f → Like (queued_in f x p) (queued_in f x q)
      go (Some n) e = queued_at_like n (lowest_exists outgoing (used_out p.lists) n e)
      go None e = k

all_like : (xs : List Piece) (p q : Peer) → Like p q → Whole p → Whole q → all_fit p.standing.channels xs ≡ true → Like (queued_all xs p) (queued_all xs q)
unfolding queued_all
all_like [] p q k wp wq fit = k
all_like (x ∷ xs) p q k wp wq fit =
    all_like xs (queued x p) (queued x q) (queued_like x p q k wp wq (fit_on x xs p fit)) (queued_whole x p wp) (queued_whole x q wq) (fit_rest x xs p fit)

-- a packet's commands, by the shape of its channel
abbrev commands_by : ℕ → ℕ → ℕ → ℕ → ChannelView → List Piece
commands_by size channel long flags v =
    pick (leb long size) (whole flags v.outgoing_unreliable channel long ∷ [])
    (pieces (cut_by (start_of flags v.outgoing_reliable v.outgoing_unreliable) channel long size))

module _ (p q : Peer) (k : Like p q) where
  -- behind any gate that is the same on both
  behind_twin : (g h : Result ⊤ Refusal) (o r : Outcome Peer) → g ≡ h → (g ≡ Ok tt → Twin o r) → Twin (behind g p o) (behind h q r)
  behind_twin g h o r e rest = behind_pair Twin g h p q o r e (λ why. record { answer = refl; like = k }) rest

  -- and the gate of every call
  module _ (alike : sound p ≡ sound q) where
    pub on_twin : (s : Settings) (o r : Outcome Peer) → (sound p ≡ true → Twin o r) → Twin (on_record s p o) (on_record s q r)
    on_twin s o r rest =
        behind_twin (gate_of (fits s lent.Nothing) (sound p)) (gate_of (fits s lent.Nothing) (sound q)) o r (ap (gate_of (fits s lent.Nothing)) alike)
        (λ e. rest (sound_open (fits s lent.Nothing) (sound p) e))

    -- ---- begin, set state, throttle
    pub begin_twin : (s : Settings) (mtu count : ℕ) → Twin (begins s mtu count p) (begins s mtu count q)
    begin_twin s mtu count =
        on_twin s (begins_sound mtu count p) (begins_sound mtu count q)
        (λ good.
        subst (λ (n : Standing). Twin (begins_sound mtu count p) (pick (begin_fits mtu count n.channels) (finished (begun mtu count q)) (unchanged OutOfRange q)))
        k.standing (go (begin_fits mtu count p.standing.channels)))
      where
        begun_like : Like (begun mtu count p) (begun mtu count q)
        begun_like =
            rebuilt_like p q k (ap (λ (n : Standing). with_count n count) k.standing) k.totals k.times k.loss k.throttling k.trips
            (ap (λ (f : Flow). with_mtu f mtu) k.flow) k.lists k.unsequenced k.waiting refl k.outs k.marks

        go : (b : Bool) → Twin (pick b (finished (begun mtu count p)) (unchanged OutOfRange p)) (pick b (finished (begun mtu count q)) (unchanged OutOfRange q))
        go true = record { answer = refl; like = begun_like }
        go false = record { answer = refl; like = k }

    pub state_twin : (s : Settings) (state : ℕ) → Twin (sets_state s state p) (sets_state s state q)
    state_twin s state = on_twin s (sets_state_sound state p) (sets_state_sound state q) (λ good. go (leb state last_state))
      where
        go : (b : Bool) → Twin (pick b (finished (stated state p)) (unchanged OutOfRange p)) (pick b (finished (stated state q)) (unchanged OutOfRange q))
        go true =
            record {
              answer = refl;
              like =
                  rebuilt_like p q k (ap (λ (n : Standing). with_state n state) k.standing) k.totals k.times k.loss k.throttling k.trips
                  k.flow k.lists k.unsequenced k.waiting (ranked_by p q k) k.outs k.marks;
            }
        go false = record { answer = refl; like = k }

    pub throttle_twin : (s : Settings) (sample : ℕ) → Twin (throttling.throttles s sample p) (throttling.throttles s sample q)
    throttle_twin s sample =
        on_twin s (throttling.throttles_sound sample p) (throttling.throttles_sound sample q)
        (λ good.
        record {
          answer =
              ap₂ (λ (t : Throttling) (u : Trips). throttling.answer_of (Ok (by_tests (throttle_of t u) sample turn.Held turn.Raised turn.Lowered turn.Held)))
              k.throttling k.trips;
          like =
              rebuilt_like p q k k.standing k.totals k.times k.loss
              (ap₂ (λ (t : Throttling) (u : Trips). throttled sample t u) k.throttling k.trips) k.trips k.flow k.lists k.unsequenced
              k.waiting (ranked_by p q k) k.outs k.marks;
        })

    -- ---- send step: the head of the list named
    module _ (long : length p.outgoing ≡ length q.outgoing) where
      sent_like : (r : Queue) (n : ℕ) (o : Outgoing) → 0 < times (used_out p.lists) n → Like (sent_as r n o p) (sent_as r n o q)
      unfolding sent_as
      sent_like r n o here =
          rebuilt_like p q k k.standing k.totals
          (ap₂ (λ (t : Times) (xs : List ℕ). times_sent t xs o) k.times (out_items_lem p.lists.sent q.lists.sent k.lists.sent))
          (ap packet_sent k.loss) k.throttling k.trips (ap (λ (f : Flow). flow_sent f o) k.flow) (sent_lined p.lists q.lists k.lists r n o)
          k.unsequenced k.waiting (ranked_by p q k)
          (agree_less no_outgoing (used_out p.lists) (set p.outgoing n o) (set q.outgoing n o)
          (agree_set no_outgoing (used_out p.lists) p.outgoing q.outgoing k.outs n o o long refl)
          (used_out (lists_sent r p.lists n o))
          (λ s. named_with (used_out p.lists) (used_out (lists_sent r p.lists n o)) n here s (sent_names r p.lists n o s)))
          k.marks

      pub step_twin : (s : Settings) (r : Queue) (time : ℕ) → Twin (stepping.steps s r time p) (stepping.steps s r time q)
      step_twin s r time =
          on_twin s (stepping.steps_sound r time p) (stepping.steps_sound r time q)
          (λ good.
          subst (λ (xs : List ℕ). Twin (stepping.steps_sound r time p) (stepping.steps_from (first xs) r time q))
          (queue_same p.lists q.lists k.lists r) (go (out_items (list_of r p.lists)) refl))
        where
          go : (xs : List ℕ) → out_items (list_of r p.lists) ≡ xs → Twin (stepping.steps_from (first xs) r time p) (stepping.steps_from (first xs) r time q)
          go [] e = record { answer = refl; like = k }
          go (n ∷ rest) e =
              let here = head_named r p.lists n rest e in
              let same = ap₂ (λ (o : Outgoing) (t : Trips). attempted o t time) (k.outs n here) k.trips in
              record {
                answer = ap stepping.sent same;
                like =
                    subst (λ (o : Outgoing). Like (sent_as r n (head p n time) p) (sent_as r n o q)) same (sent_like r n (head p n time) here);
              }

    -- ---- setup, ping, send
    room_same : room p ≡ room q
    room_same = ap (how_many outgoing) (lined_used p.lists q.lists k.lists)

    module _ (wp : Whole p) (wq : Whole q) where
      pub setup_twin : (s : Settings) (x : Piece) → Twin (sets_up s x p) (sets_up s x q)
      setup_twin s x =
          on_twin s (sets_up_sound x p) (sets_up_sound x q)
          (λ good.
          behind_twin (setup_gate x p.standing.channels (room p)) (setup_gate x q.standing.channels (room q)) (finished (queued x p)) (finished (queued x q))
          (ap₂ (λ (n : Standing) (r : ℕ). setup_gate x n.channels r) k.standing room_same)
          (λ e. record { answer = refl; like = queued_like x p q k wp wq (setup_open x p e).0 }))

      pub ping_twin : (s : Settings) → Twin (pings s p) (pings s q)
      ping_twin s =
          on_twin s (pings_sound p) (pings_sound q)
          (λ good.
          behind_twin (ping_gate p.standing (room p)) (ping_gate q.standing (room q)) (finished (queued ping_piece p)) (finished (queued ping_piece q))
          (ap₂ ping_gate k.standing room_same)
          (λ e. record { answer = refl; like = queued_like ping_piece p q k wp wq (itself_on p.standing.channels) }))

      commands_same : (s : Settings) (channel long flags : ℕ) → ltb channel p.standing.channels ≡ true
          → commands (fragment s p) channel long flags p ≡ commands (fragment s q) channel long flags q
      commands_same s channel long flags on =
          ap₂ (λ (f : Flow) (v : ChannelView). commands_by (fragment_length f.mtu s.checksum) channel long flags v) k.flow
          (channel_like p q k wp wq channel (rw on refl))

      pub send_twin : (s : Settings) (channel long flags : ℕ) → Twin (sends s channel long flags p) (sends s channel long flags q)
      send_twin s channel long flags =
          on_twin s (sends_sound s channel long flags p) (sends_sound s channel long flags q)
          (λ good.
          behind_twin (send_gate s channel long p.standing) (send_gate s channel long q.standing) (queues_all (xs p) p) (queues_all (xs q) q)
          (ap (send_gate s channel long) k.standing)
          (λ e.
          let on = gate_channel s channel long p.standing e in
          subst (λ (ys : List Piece). Twin (queues_all (xs p) p) (queues_all ys q)) (commands_same s channel long flags on) (all_twin on)))
        where
          xs : Peer → List Piece
          xs r = commands (fragment s r) channel long flags r

          all_twin : ltb channel p.standing.channels ≡ true → Twin (queues_all (xs p) p) (queues_all (xs p) q)
          all_twin on =
              behind_twin (queue_gate (length (xs p)) (room p)) (queue_gate (length (xs p)) (room q)) (finished (queued_all (xs p) p))
              (finished (queued_all (xs p) q)) (ap (queue_gate (length (xs p))) room_same)
              (λ e. record { answer = refl; like = all_like (xs p) p q k wp wq (commands_fit (fragment s p) channel long flags p on) })
