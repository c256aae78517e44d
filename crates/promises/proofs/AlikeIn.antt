-- The receiving side on two records that are the same, but for pieces (AlikePieces): each call gives the same answer and leaves the same stores, and what it
-- leaves is alike, the slots named included. The argument: what follows, what is held and which slot is free go by what the lists name and by what those slots
-- hold, equal on both sides; an arrival writes the same slot alike, and the lists then name nothing but that slot and what they named.
use Rattle.std.specs.Prelude.{Some}
use Prim.Native.Nat.{ℕ, suc, ◌+◌, ◌≤◌, ◌<◌}
use mathlib.Core.Path.{◌≡◌, refl, ap, ap₂, sym, subst, ◌∙◌}
use mathlib.Core.Bool.{Bool, true, false}
use mathlib.Core.List.{List, [], ◌∷◌}
use native.Mathlib.Omega.{arith}
use lib.Dec.{eqb, ltb}
use lib.ListN.{length, get_or, set, length-take}
use lib.Seq.{take-set-lt, get_or-take}
use Rattle.std.specs.Prelude.{⊤, Result, Ok}
use Rattle.numbers.specs.Pick.{pick}
use Rattle.numbers.specs.Answers.{Answer}
use Rattle.numbers.specs.declared.counters.Group.{Group}
use Rattle.numbers.specs.declared.refusals.Refusal.{Refusal}
use Rattle.record.specs.Lists.{incoming, in_items}
use Rattle.record.proofs.Views.{in_items_keep}
use Rattle.record.proofs.Keeps.{one, times, times_append, pushed_adds, inserted_adds, without_takes, times_moved}
use Rattle.cells.specs.Runs.{first, pushed, inserted, without, moved_from, moved_to}
use Rattle.cells.specs.Free.{lowest}
use Rattle.cells.proofs.Lowest.{lowest_exists}
use Rattle.record.specs.Sizes as sizes
use Rattle.record.specs.Flags.{flagged}
use Rattle.record.specs.Fresh.{no_outgoing, no_incoming, no_channel}
use Rattle.record.specs.Damage.{below, held, used_out, used_in}
use Rattle.record.specs.declared.groups.Standing.{Standing}
use Rattle.record.specs.declared.groups.Waiting.{Waiting}
use Rattle.record.specs.declared.groups.Unsequenced.{Unsequenced}
use Rattle.record.specs.declared.groups.Lists.{Lists}
use Rattle.record.specs.declared.groups.Channel.{Channel}
use Rattle.record.specs.declared.groups.Incoming.{Incoming}
use Rattle.peer.specs.Damage.{sound}
use Rattle.peer.specs.Sounds.{Whole}
use Rattle.peer.specs.Outcome.{State, Outcome, finished}
use Rattle.peer.specs.Gate.{fits, gate_of, behind, on_record}
use Rattle.peer.specs.Updates.{with_unsequenced}
use Rattle.peer.specs.declared.settings.Settings.{Settings}
use Rattle.peer.specs.declared.Peer.{Peer}
use Rattle.peer.specs.declared.gate.Lent.TheVariants as lent
use Rattle.peer.proofs.Gates.{sound_open}
use Rattle.peer.proofs.Ranges.{count_high}
use Rattle.laws.specs.Same.{ListView, ChannelView}
use Rattle.laws.proofs.SameLaws.{Agree, agree_less, agree_new, named_first, Lined, lined_named, ranked_set, ranked_at, Like, named, Within}
use Rattle.laws.proofs.SameLaws.{in_shape, channel_shape, in_items_lem, in_kept}
use Rattle.laws.proofs.SamePairs.{behind_pair, ranked_by, rebuilt_like}
use Rattle.arrival.specs.Storing.{free_slot, delivered, awaiting}
use Rattle.dispatch.specs.Dispatching.{follows, number_after, ready_count, ready_last, moved_on, dispatched_by}
use Rattle.dispatch.specs.Dispatching.{Dispatched}
use Rattle.arrive_reliable.specs.Holding.{number_distance, holds, farthest, is_passed, place_of, held_with}
use Rattle.dispatch.specs.Calls.{dispatch_gate, dispatched_on, dispatches_sound, dispatches}
use Rattle.dispatch.proofs.Sums.{held-set, held_within}
use Rattle.dispatch.proofs.Sound.{below_count}
use Rattle.receive.specs.Calls as receiving
use Rattle.arrival.specs.Arrivals.{answer_of, arrival_gate, room_for, room_of, reply_of, arrived_slot, stored_at}
use Rattle.arrival.specs.Window.{judge_window}
use Rattle.arrival.specs.declared.Arrival.{Arrival}
use Rattle.arrival.specs.declared.Fate.{Fate}
use Rattle.arrival.specs.declared.Fate.TheVariants as fate
use Rattle.arrival.specs.declared.Judged.{Judged}
use Rattle.arrival.proofs.Admitted.{admitted}
use Rattle.arrive_unsequenced.specs.Calls.{send_unsequenced, unsequenced_after, judged_on, unsequenced_sound, arrives_unsequenced}
use Rattle.arrive_reliable.specs.Calls.{send_reliable, channel_of, dispatched_with, reliable_after, fate_of, fate_on, reliable_sound, arrives_reliable}
use Rattle.laws.proofs.Unsequenced.{stored_free}
use Rattle.laws.proofs.Reliable.{held_free}
use Rattle.promises.proofs.AlikeOut.{ap₃}

-- two results of a call on the record: one answer, and records that are alike, the incoming pool too
pub record Twins (o r : Outcome Peer) : Type 0 where
  pub answer : o.answer ≡ r.answer
  pub like : Like o.after r.after
  pub within : Within o.after r.after

-- and of one that is lent the stores
pub record Landed (o r : Outcome State) : Type 0 where
  pub answer : o.answer ≡ r.answer
  pub store : o.after.store ≡ r.after.store
  pub second : o.after.second ≡ r.after.second
  pub like : Like o.after.peer r.after.peer
  pub within : Within o.after.peer r.after.peer

used_adds : (l : Lists) (cs : List Channel) (s : ℕ) → times (used_in l cs) s ≡ times (in_items l.dispatched) s + times (held cs) s
used_adds l cs s = times_append (in_items l.dispatched) (held cs) s

-- ---- what slots of a list are, by what they hold
module _ (a b : List Incoming) where
  ready_agree : (xs : List ℕ) (n : ℕ) → Agree no_incoming xs a b → ready_count a xs n ≡ ready_count b xs n
  unfolding ready_count
  ready_agree [] n h = refl
  ready_agree (s ∷ ss) n h =
      ap (λ (k : ℕ). pick (follows n (get_or a s no_incoming)) (suc k) 0) (ready_agree ss (number_after (get_or a s no_incoming)) (λ x k. h x (omega (arith, k))))
      ∙ ap (λ (i : Incoming). pick (follows n i) (suc (ready_count b ss (number_after i))) 0) (h s (named_first s ss))

  last_agree : (xs : List ℕ) (n : ℕ) → Agree no_incoming xs a b → ready_last a xs n ≡ ready_last b xs n
  unfolding ready_last
  last_agree [] n h = refl
  last_agree (s ∷ ss) n h =
      ap (λ (k : ℕ). pick (follows n (get_or a s no_incoming)) k n) (last_agree ss (number_after (get_or a s no_incoming)) (λ x k. h x (omega (arith, k))))
      ∙ ap (λ (i : Incoming). pick (follows n i) (ready_last b ss (number_after i)) n) (h s (named_first s ss))

  holds_agree : (xs : List ℕ) (n : ℕ) → Agree no_incoming xs a b → holds a xs n ≡ holds b xs n
  unfolding holds
  holds_agree [] n h = refl
  holds_agree (s ∷ ss) n h =
      ap₂ (λ (i : Incoming) (c : Bool). pick (eqb i.number.0 n) true c) (h s (named_first s ss)) (holds_agree ss n (λ x k. h x (omega (arith, k))))

  nearer_agree : (xs : List ℕ) (last d : ℕ) → Agree no_incoming xs a b → place_of a xs last d ≡ place_of b xs last d
  unfolding place_of
  nearer_agree [] last d h = refl
  nearer_agree (s ∷ ss) last d h =
      ap₂ (λ (i : Incoming) (k : ℕ). pick (ltb d (number_distance last i.number.0)) 0 (suc k)) (h s (named_first s ss))
      (nearer_agree ss last d (λ x k. h x (omega (arith, k))))

-- ---- what is ready joins dispatched
record Gone (d e : Dispatched) : Type 0 where
  channel : channel_shape d.channel ≡ channel_shape e.channel
  lists : Lined d.lists e.lists
  unsequenced : d.unsequenced ≡ e.unsequenced

abbrev ready_in : List Incoming → Channel → ℕ
ready_in slots c = ready_count slots (in_items c.held) c.incoming_reliable.0

abbrev last_in : List Incoming → Channel → ℕ
last_in slots c = ready_last slots (in_items c.held) c.incoming_reliable.0

abbrev with_held_shape : ChannelView → ListView Incoming → ChannelView
with_held_shape v h =
    record {
      outgoing_reliable = v.outgoing_reliable;
      outgoing_unreliable = v.outgoing_unreliable;
      incoming_reliable = v.incoming_reliable;
      incoming_unreliable = v.incoming_unreliable;
      held = h;
    }

abbrev with_last_shape : ℕ → ChannelView → ListView Incoming → ChannelView
with_last_shape n v h =
    record {
      outgoing_reliable = v.outgoing_reliable;
      outgoing_unreliable = v.outgoing_unreliable;
      incoming_reliable = record { 0 = n };
      incoming_unreliable = record { 0 = 0 };
      held = h;
    }

module _ (c d : Channel) (e : channel_shape c ≡ channel_shape d) where
  held_same : in_shape c.held ≡ in_shape d.held
  held_same = ap (λ (v : ChannelView). v.held) e

  pub items_same : in_items c.held ≡ in_items d.held
  items_same = in_items_lem c.held d.held held_same

  last_same : c.incoming_reliable.0 ≡ d.incoming_reliable.0
  last_same = ap (λ (v : ChannelView). v.incoming_reliable.0) e

  module _ (l m : Lists) (lined : Lined l m) (g h : Unsequenced) (same : g ≡ h) where
    moved_gone : (k n : ℕ) → Gone (moved_on k n c l g) (moved_on k n d m h)
    moved_gone k n =
        let joined = in_items_lem l.dispatched m.dispatched lined.dispatched in
        record {
          channel =
              ap₂ (with_last_shape n) e
              (in_kept c.held d.held (moved_from incoming k (in_items c.held) (in_items l.dispatched))
              (moved_from incoming k (in_items d.held) (in_items m.dispatched)) (ap₂ (moved_from incoming k) items_same joined));
          lists =
              record {
                sent = lined.sent;
                send_reliable = lined.send_reliable;
                outgoing = lined.outgoing;
                dispatched =
                    in_kept l.dispatched m.dispatched (moved_to incoming k (in_items c.held) (in_items l.dispatched))
                    (moved_to incoming k (in_items d.held) (in_items m.dispatched)) (ap₂ (moved_to incoming k) items_same joined);
              };
          unsequenced = ap flagged same;
        }

    either_gone : (z : Bool) (k n : ℕ)
        → Gone (pick z (record { channel = c; lists = l; unsequenced = g }) (moved_on k n c l g)) (pick z (record { channel = d; lists = m; unsequenced = h }) (moved_on k n d m h))
    either_gone true k n = record { channel = e; lists = lined; unsequenced = same }
    either_gone false k n = moved_gone k n

    dispatched_gone : (a b : List Incoming) → Agree no_incoming (in_items c.held) a b → Gone (dispatched_by a c l g) (dispatched_by b d m h)
    dispatched_gone a b agree =
        subst (λ (k : ℕ). Gone (dispatched_by a c l g) (pick (eqb k 0) (record { channel = d; lists = m; unsequenced = h }) (moved_on k (last_in b d) d m h))) counts
        (subst (λ (n : ℕ). Gone (dispatched_by a c l g) (pick (eqb (ready_in a c) 0) (record { channel = d; lists = m; unsequenced = h }) (moved_on (ready_in a c) n d m h)))
        lasts (either_gone (eqb (ready_in a c) 0) (ready_in a c) (last_in a c)))
      where
        counts : ready_in a c ≡ ready_in b d
        counts = ready_agree a b (in_items c.held) c.incoming_reliable.0 agree ∙ ap₂ (ready_count b) items_same last_same

        lasts : last_in a c ≡ last_in b d
        lasts = last_agree a b (in_items c.held) c.incoming_reliable.0 agree ∙ ap₂ (ready_last b) items_same last_same

-- each slot is named as often as before, and the outgoing lists are as they were
module _ (a : List Incoming) (c : Channel) (l : Lists) (g : Unsequenced) where
  gone_names : (s : ℕ) → times (in_items (dispatched_by a c l g).channel.held) s + times (in_items (dispatched_by a c l g).lists.dispatched) s
      ≡ times (in_items c.held) s + times (in_items l.dispatched) s
  gone_names s = go (eqb (ready_in a c) 0) (ready_in a c) (last_in a c)
    where
      go : (z : Bool) (k n : ℕ) → let d = pick z (record { channel = c; lists = l; unsequenced = g }) (moved_on k n c l g) in
          times (in_items d.channel.held) s + times (in_items d.lists.dispatched) s ≡ times (in_items c.held) s + times (in_items l.dispatched) s
      go true k n = refl
      go false k n =
          let xs = in_items c.held in
          let ys = in_items l.dispatched in
          let from = ap (λ (zs : List ℕ). times zs s) (in_items_keep c.held (moved_from incoming k xs ys)) in
          let to = ap (λ (zs : List ℕ). times zs s) (in_items_keep l.dispatched (moved_to incoming k xs ys)) in
          omega (arith, from, to, times_moved incoming k xs ys s)

  gone_used : used_out (dispatched_by a c l g).lists ≡ used_out l
  gone_used = go (eqb (ready_in a c) 0) (ready_in a c) (last_in a c)
    where
      go : (z : Bool) (k n : ℕ) → used_out (pick z (record { channel = c; lists = l; unsequenced = g }) (moved_on k n c l g)).lists ≡ used_out l
      go true k n = refl
      go false k n = refl

-- a channel that counts, and what it holds, in place of the one that was there
module _ (p : Peer) (whole : Whole p) (few : p.standing.channels ≤ sizes.channels) (i : ℕ) (on : i < p.standing.channels) where
  abbrev cs : List Channel
  cs = below p.channels p.standing.channels

  abbrev old : Channel
  old = get_or p.channels i no_channel

  here : i < length cs
  here =
      let n = whole.channels in
      omega (arith, on, n, few, length-take p.standing.channels p.channels)

  old_is : get_or cs i no_channel ≡ old
  old_is = get_or-take p.standing.channels p.channels i no_channel on

  held-named : (s : ℕ) → times (in_items old.held) s ≤ times (named p) s
  held-named s =
      let within = rw old_is at (held_within (λ (xs : List ℕ). times xs s) (λ xs ys. times_append xs ys s) cs i no_channel here) in
      omega (arith, within, used_adds p.lists cs s)

  pub landed_names : (l : Lists) (c : Channel) (s z : ℕ)
      → times (in_items c.held) s + times (in_items l.dispatched) s ≤ z + (times (in_items old.held) s + times (in_items p.lists.dispatched) s)
      → times (used_in l (below (set p.channels i c) p.standing.channels)) s ≤ z + times (named p) s
  landed_names l c s z h =
      let now = ap (λ (ds : List Channel). times (used_in l ds) s) (take-set-lt p.standing.channels p.channels i c on) in
      let one_list = rw old_is at (held-set (λ (xs : List ℕ). times xs s) (λ xs ys. times_append xs ys s) cs i c no_channel here) in
      omega (arith, h, now, one_list, used_adds l (set cs i c) s, used_adds p.lists cs s)

module _ (p q : Peer) (k : Like p q) (w : Within p q) where
  behind_twins : (g h : Result ⊤ Refusal) (o r : Outcome Peer) → g ≡ h → (g ≡ Ok tt → Twins o r) → Twins (behind g p o) (behind h q r)
  behind_twins g h o r e rest = behind_pair Twins g h p q o r e (λ why. record { answer = refl; like = k; within = w }) rest

  -- ---- what is ready of a channel
  module _ (whole : Whole p) (few : p.standing.channels ≤ sizes.channels) (i : ℕ) (on : i < p.standing.channels) where
    pub shape : channel_shape (get_or p.channels i no_channel) ≡ channel_shape (get_or q.channels i no_channel)
    shape = ranked_at p.channels q.channels p.standing.channels i (ranked_by p q k) on

    pub in_list : Agree no_incoming (in_items (get_or p.channels i no_channel).held) p.incoming q.incoming
    in_list =
        agree_less no_incoming (named p) p.incoming q.incoming w (in_items (get_or p.channels i no_channel).held)
        (λ s h. omega (arith, h, held-named p whole few i on s))

    gone : Gone (dispatched_by p.incoming (get_or p.channels i no_channel) p.lists p.unsequenced)
        (dispatched_by q.incoming (get_or q.channels i no_channel) q.lists q.unsequenced)
    gone =
        dispatched_gone (get_or p.channels i no_channel) (get_or q.channels i no_channel) shape p.lists q.lists k.lists p.unsequenced q.unsequenced
        k.unsequenced p.incoming q.incoming in_list

    pub dispatched_like : Like (dispatched_on i p) (dispatched_on i q)
    dispatched_like =
        rebuilt_like p q k k.standing k.totals k.times k.loss k.throttling k.trips k.flow gone.lists gone.unsequenced k.waiting
        (ranked_set p.channels q.channels p.standing.channels i _ _ (ranked_by p q k) gone.channel)
        (subst (λ (xs : List ℕ). Agree no_outgoing xs p.outgoing q.outgoing)
        (sym (gone_used p.incoming (get_or p.channels i no_channel) p.lists p.unsequenced)) k.outs)
        k.marks

    pub dispatched_within : Within (dispatched_on i p) (dispatched_on i q)
    dispatched_within =
        let d = dispatched_by p.incoming (get_or p.channels i no_channel) p.lists p.unsequenced in
        agree_less no_incoming (named p) p.incoming q.incoming w (named (dispatched_on i p))
        (λ s h.
        let less = landed_names p whole few i on d.lists d.channel s 0
        (omega (arith, gone_names p.incoming (get_or p.channels i no_channel) p.lists p.unsequenced s)) in
        omega (arith, h, less))

  -- ---- what an arrival finds, and a free slot written alike
  module _ (whole : Whole p) (whole' : Whole q) where
    pub names_same : named p ≡ named q
    names_same = lined_named p.lists q.lists _ _ k.lists k.channels

    pub room_same : (s : Settings) → room_of s p ≡ room_of s q
    room_same s =
        ap₃ (λ (n : Standing) (t : Waiting) (xs : List ℕ). room_for s n.state t.total (lowest incoming xs)) k.standing k.waiting names_same

    module _ (v : Incoming) (n : ℕ) (free : free_slot p.lists p.channels p.standing.channels ≡ Some n) where
      pub pools : Agree no_incoming (n ∷ named p) (set p.incoming n v) (set q.incoming n v)
      pools =
          let low = lowest_exists incoming (named p) n free in
          let long = whole.incoming in
          let long' = whole'.incoming in
          agree_new no_incoming (named p) p.incoming q.incoming w n v v (omega (arith, low, long)) (omega (arith, low, long')) refl

      pub pooled : (xs : List ℕ) → ((s : ℕ) → times xs s ≤ one n s + times (named p) s) → Agree no_incoming xs (set p.incoming n v) (set q.incoming n v)
      pooled xs less =
          agree_less no_incoming (n ∷ named p) (set p.incoming n v) (set q.incoming n v) pools xs (λ s h. omega (arith, h, less s))

    -- by what its channel holds, under a number
    module _ (few : p.standing.channels ≤ sizes.channels) (i number : ℕ) (on : i < p.standing.channels) where
      abbrev c : Channel
      c = get_or p.channels i no_channel

      abbrev d : Channel
      d = get_or q.channels i no_channel

      alike_channels : channel_shape c ≡ channel_shape d
      alike_channels = shape whole few i on

      agree_held : Agree no_incoming (in_items c.held) p.incoming q.incoming
      agree_held = in_list whole few i on

      pub passed_same : is_passed p.incoming c number ≡ is_passed q.incoming d number
      passed_same =
          ap₂ (λ (n : ℕ) (b : Bool). pick (eqb (number_distance n number) 0) true (pick (ltb farthest (number_distance n number)) true b))
          (last_same c d alike_channels)
          (holds_agree p.incoming q.incoming (in_items c.held) number agree_held
          ∙ ap (λ (xs : List ℕ). holds q.incoming xs number) (items_same c d alike_channels))

      abbrev place : List Incoming → Channel → ℕ
      place is e = place_of is (in_items e.held) e.incoming_reliable.0 (number_distance e.incoming_reliable.0 number)

      place_same : place p.incoming c ≡ place q.incoming d
      place_same =
          nearer_agree p.incoming q.incoming (in_items c.held) c.incoming_reliable.0 (number_distance c.incoming_reliable.0 number) agree_held
          ∙ ap₂ (λ (xs : List ℕ) (n : ℕ). place_of q.incoming xs n (number_distance n number)) (items_same c d alike_channels) (last_same c d alike_channels)

      -- and with a slot more
      pub with_shape : (n : ℕ) → channel_shape (held_with p.incoming c number n) ≡ channel_shape (held_with q.incoming d number n)
      with_shape n =
          ap₂ with_held_shape alike_channels
          (in_kept c.held d.held (inserted incoming (in_items c.held) (place p.incoming c) n)
          (inserted incoming (in_items d.held) (place q.incoming d) n)
          (ap₂ (λ (xs : List ℕ) (at : ℕ). inserted incoming xs at n) (items_same c d alike_channels) place_same))

      pub with_names : (n t : ℕ) → times (in_items (held_with p.incoming c number n).held) t ≤ one n t + times (in_items c.held) t
      with_names n t =
          let is = ap (λ (xs : List ℕ). times xs t) (in_items_keep c.held (inserted incoming (in_items c.held) (place p.incoming c) n)) in
          omega (arith, is, inserted_adds incoming (in_items c.held) (place p.incoming c) n t)

  module _ (alike : sound p ≡ sound q) where
    on_twins : (s : Settings) (o r : Outcome Peer) → (sound p ≡ true → Twins o r) → Twins (on_record s p o) (on_record s q r)
    on_twins s o r rest =
        behind_twins (gate_of (fits s lent.Nothing) (sound p)) (gate_of (fits s lent.Nothing) (sound q)) o r (ap (gate_of (fits s lent.Nothing)) alike)
        (λ e. rest (sound_open (fits s lent.Nothing) (sound p) e))

    -- ---- receive
    taken_like : (n : ℕ) → get_or p.incoming n no_incoming ≡ get_or q.incoming n no_incoming → Like (receiving.taken n p) (receiving.taken n q)
    taken_like n e =
        rebuilt_like p q k k.standing k.totals k.times k.loss k.throttling k.trips k.flow
        (record {
          sent = k.lists.sent;
          send_reliable = k.lists.send_reliable;
          outgoing = k.lists.outgoing;
          dispatched =
              in_kept p.lists.dispatched q.lists.dispatched (without (in_items p.lists.dispatched) 0) (without (in_items q.lists.dispatched) 0)
              (ap (λ (xs : List ℕ). without xs 0) (in_items_lem p.lists.dispatched q.lists.dispatched k.lists.dispatched));
        })
        k.unsequenced (ap₂ (λ (t : Waiting) (i : Incoming). receiving.lowered t i.length) k.waiting e) (ranked_by p q k) k.outs
        (ap₂ receiving.cleared_by e k.marks)

    taken_within : (n : ℕ) → Within (receiving.taken n p) (receiving.taken n q)
    taken_within n =
        agree_less no_incoming (named p) p.incoming q.incoming w (named (receiving.taken n p))
        (λ s h.
        let cs = below p.channels p.standing.channels in
        let less = ap (λ (xs : List ℕ). times xs s) (in_items_keep p.lists.dispatched (without (in_items p.lists.dispatched) 0)) in
        omega (
          arith,
          h,
          less,
          without_takes (in_items p.lists.dispatched) 0 s,
          used_adds p.lists cs s,
          used_adds (receiving.without_first p.lists) cs s,
        ))

    pub receive_twins : (s : Settings) → Twins (receiving.receives s p) (receiving.receives s q)
    receive_twins s =
        on_twins s (receiving.receives_sound p) (receiving.receives_sound q)
        (λ good.
        subst (λ (xs : List ℕ). Twins (receiving.receives_sound p) (receiving.receives_from (first xs) q))
        (in_items_lem p.lists.dispatched q.lists.dispatched k.lists.dispatched) (go (in_items p.lists.dispatched) refl))
      where
        go : (xs : List ℕ) → in_items p.lists.dispatched ≡ xs → Twins (receiving.receives_from (first xs) p) (receiving.receives_from (first xs) q)
        go [] e = record { answer = refl; like = k; within = w }
        go (n ∷ rest) e =
            let at = ap (λ (xs : List ℕ). times xs n) e in
            let same = w n (omega (arith, at, named_first n rest, used_adds p.lists (below p.channels p.standing.channels) n)) in
            record {
              answer = ap (λ (i : Incoming). receiving.answer_of (receiving.reply_of i n)) same;
              like = taken_like n same;
              within = taken_within n;
            }

    -- ---- dispatch
    module _ (whole : Whole p) where
      pub dispatch_twins : (s : Settings) (i : ℕ) → Twins (dispatches s i p) (dispatches s i q)
      dispatch_twins s i =
          on_twins s (dispatches_sound i p) (dispatches_sound i q)
          (λ good.
          behind_twins (dispatch_gate i p.standing) (dispatch_gate i q.standing) (finished (dispatched_on i p)) (finished (dispatched_on i q))
          (ap (dispatch_gate i) k.standing)
          (λ e.
          let on = below_count i p.standing e in
          record { answer = refl; like = dispatched_like whole (count_high p good) i on; within = dispatched_within whole (count_high p good) i on }))

    -- ---- arrivals
    module _ (whole : Whole p) (whole' : Whole q) (store second : List ℕ) where
      abbrev x : State
      x = record { peer = p; store = store; second = second }

      abbrev y : State
      y = record { peer = q; store = store; second = second }

      pub behind_landed : (g h : Result ⊤ Refusal) (o r : Outcome State) → g ≡ h → (g ≡ Ok tt → Landed o r) → Landed (behind g x o) (behind h y r)
      behind_landed g h o r e rest =
          behind_pair Landed g h x y o r e (λ why. record { answer = refl; store = refl; second = refl; like = k; within = w }) rest

      -- a free slot
      module _ (a : Arrival) (n : ℕ) (free : free_slot p.lists p.channels p.standing.channels ≡ Some n) where
        -- at the end of dispatched
        delivered_lined : Lined (delivered p.lists n) (delivered q.lists n)
        delivered_lined =
            record {
              sent = k.lists.sent;
              send_reliable = k.lists.send_reliable;
              outgoing = k.lists.outgoing;
              dispatched =
                  in_kept p.lists.dispatched q.lists.dispatched (pushed incoming (in_items p.lists.dispatched) n)
                  (pushed incoming (in_items q.lists.dispatched) n)
                  (ap (λ (xs : List ℕ). pushed incoming xs n) (in_items_lem p.lists.dispatched q.lists.dispatched k.lists.dispatched));
            }

        delivered_landed : (answer : Answer) (g h : Unsequenced) (datagram : List ℕ) → g ≡ h
            → Landed (record { answer = answer; after = stored_at n a datagram x (delivered p.lists n) g p.channels })
            (record { answer = answer; after = stored_at n a datagram y (delivered q.lists n) h q.channels })
        delivered_landed answer g h datagram e =
            record {
              answer = refl;
              store = refl;
              second = refl;
              like =
                  rebuilt_like p q k k.standing k.totals k.times k.loss k.throttling k.trips k.flow delivered_lined e
                  (ap (λ (t : Waiting). awaiting t a.length) k.waiting) (ranked_by p q k) k.outs k.marks;
              within =
                  pooled whole whole' (arrived_slot a) n free (used_in (delivered p.lists n) (below p.channels p.standing.channels))
                  (λ s.
                  let cs = below p.channels p.standing.channels in
                  let now = ap (λ (xs : List ℕ). times xs s) (in_items_keep p.lists.dispatched (pushed incoming (in_items p.lists.dispatched) n)) in
                  omega (
                    arith,
                    now,
                    pushed_adds incoming (in_items p.lists.dispatched) n s,
                    used_adds (delivered p.lists n) cs s,
                    used_adds p.lists cs s,
                  ));
            }

      regrouped_like : (g h : Unsequenced) → g ≡ h → Like (with_unsequenced p g) (with_unsequenced q h)
      regrouped_like g h e =
          rebuilt_like p q k k.standing k.totals k.times k.loss k.throttling k.trips k.flow k.lists e k.waiting (ranked_by p q k) k.outs
          k.marks

      module _ (s : Settings) (a : Arrival) (group : Group) (datagram : List ℕ) where
        -- what a fate comes to, by the window's groups
        abbrev fated : Fate → Unsequenced → State → Outcome State
        fated f g z = record { answer = answer_of (reply_of f); after = unsequenced_after f g a datagram z }

        judged_same : judged_on s group p ≡ judged_on s group q
        judged_same = ap₂ (λ (g : Unsequenced) (f : Fate). judge_window g group f) k.unsequenced (room_same whole whole' s)

        fate_landed : (f : Fate) → (judged_on s group p).fate ≡ f
            → Landed (fated f (judged_on s group p).unsequenced x) (fated f (judged_on s group q).unsequenced y)
        fate_landed fate.Passed e =
            record { answer = refl; store = refl; second = refl; like = regrouped_like _ _ (ap (λ (j : Judged). j.unsequenced) judged_same); within = w }
        fate_landed fate.NoRoom e =
            record { answer = refl; store = refl; second = refl; like = regrouped_like _ _ (ap (λ (j : Judged). j.unsequenced) judged_same); within = w }
        fate_landed (fate.Stored n) e =
            delivered_landed a n (stored_free s a group datagram x n e) (answer_of (reply_of (fate.Stored n))) _ _ datagram
            (ap (λ (j : Judged). j.unsequenced) judged_same)

        pub unsequenced_landed : Landed (arrives_unsequenced s a group datagram x) (arrives_unsequenced s a group datagram y)
        unsequenced_landed =
            behind_landed (gate_of (fits s (lent.Store (length store))) (sound p)) (gate_of (fits s (lent.Store (length store))) (sound q))
            (unsequenced_sound s a group datagram x) (unsequenced_sound s a group datagram y) (ap (gate_of (fits s (lent.Store (length store)))) alike)
            (λ e.
            behind_landed (arrival_gate send_unsequenced a s p.standing (length datagram)) (arrival_gate send_unsequenced a s q.standing (length datagram))
            (fated (judged_on s group p).fate (judged_on s group p).unsequenced x)
            (fated (judged_on s group q).fate (judged_on s group q).unsequenced y)
            (ap (λ (n : Standing). arrival_gate send_unsequenced a s n (length datagram)) k.standing)
            (λ own.
            subst (λ (f : Fate). Landed (fated (judged_on s group p).fate (judged_on s group p).unsequenced x) (fated f (judged_on s group q).unsequenced y))
            (ap (λ (j : Judged). j.fate) judged_same) (fate_landed (judged_on s group p).fate refl)))

      -- a reliable one: by what its channel holds
      abbrev held_by : Arrival → List ℕ → Fate → State → Outcome State
      held_by a datagram f z = record { answer = answer_of (reply_of f); after = reliable_after f a datagram z }

      module _ (s : Settings) (a : Arrival) (datagram : List ℕ) (good : sound p ≡ true) (on : a.channel < p.standing.channels) where
        abbrev few : p.standing.channels ≤ sizes.channels
        few = count_high p good

        fate_same : fate_on s a p ≡ fate_on s a q
        fate_same = ap₂ fate_of (passed_same whole whole' few a.channel a.number.0 on) (room_same whole whole' s)

        module _ (n : ℕ) (free : free_slot p.lists p.channels p.standing.channels ≡ Some n) where
          abbrev now : Channel
          now = held_with p.incoming (channel_of a p) a.number.0 n

          abbrev now' : Channel
          now' = held_with q.incoming (channel_of a q) a.number.0 n

          now_names : (t : ℕ) → times (in_items now.held) t ≤ one n t + times (in_items (channel_of a p).held) t
          now_names = with_names whole whole' few a.channel a.number.0 on n

          then_gone : Gone (dispatched_with n a p) (dispatched_with n a q)
          then_gone =
              dispatched_gone now now' (with_shape whole whole' few a.channel a.number.0 on n) p.lists q.lists k.lists p.unsequenced
              q.unsequenced k.unsequenced (set p.incoming n (arrived_slot a)) (set q.incoming n (arrived_slot a))
              (pooled whole whole' (arrived_slot a) n free (in_items now.held) (λ t. omega (arith, now_names t, held-named p whole few a.channel on t)))

          stored_landed : (answer : Answer) → Landed (record { answer = answer; after = reliable_after (fate.Stored n) a datagram x })
              (record { answer = answer; after = reliable_after (fate.Stored n) a datagram y })
          stored_landed answer =
              record {
                answer = refl;
                store = refl;
                second = refl;
                like =
                    rebuilt_like p q k k.standing k.totals k.times k.loss k.throttling k.trips k.flow then_gone.lists then_gone.unsequenced
                    (ap (λ (t : Waiting). awaiting t a.length) k.waiting)
                    (ranked_set p.channels q.channels p.standing.channels a.channel _ _ (ranked_by p q k) then_gone.channel)
                    (subst (λ (xs : List ℕ). Agree no_outgoing xs p.outgoing q.outgoing)
                    (sym (gone_used (set p.incoming n (arrived_slot a)) now p.lists p.unsequenced)) k.outs)
                    k.marks;
                within =
                    pooled whole whole' (arrived_slot a) n free (named (reliable_after (fate.Stored n) a datagram x).peer)
                    (λ t.
                    landed_names p whole few a.channel on (dispatched_with n a p).lists (dispatched_with n a p).channel t (one n t)
                    (omega (arith, gone_names (set p.incoming n (arrived_slot a)) now p.lists p.unsequenced t, now_names t)));
              }

        held_landed : (f : Fate) → fate_on s a p ≡ f → Landed (held_by a datagram f x) (held_by a datagram f y)
        held_landed fate.Passed e = record { answer = refl; store = refl; second = refl; like = k; within = w }
        held_landed fate.NoRoom e = record { answer = refl; store = refl; second = refl; like = k; within = w }
        held_landed (fate.Stored n) e = stored_landed n (held_free s a datagram x n e) (answer_of (reply_of (fate.Stored n)))

      pub reliable_landed : (s : Settings) (a : Arrival) (datagram : List ℕ) → Landed (arrives_reliable s a datagram x) (arrives_reliable s a datagram y)
      reliable_landed s a datagram =
          behind_landed (gate_of (fits s (lent.Store (length store))) (sound p)) (gate_of (fits s (lent.Store (length store))) (sound q))
          (reliable_sound s a datagram x) (reliable_sound s a datagram y) (ap (gate_of (fits s (lent.Store (length store)))) alike)
          (λ e.
          behind_landed (arrival_gate send_reliable a s p.standing (length datagram)) (arrival_gate send_reliable a s q.standing (length datagram))
          (held_by a datagram (fate_on s a p) x) (held_by a datagram (fate_on s a q) y)
          (ap (λ (n : Standing). arrival_gate send_reliable a s n (length datagram)) k.standing)
          (λ own.
          let good = sound_open (fits s (lent.Store (length store))) (sound p) e in
          let on = (admitted send_reliable a s p.standing (length datagram) own).on in
          subst (λ (f : Fate). Landed (held_by a datagram (fate_on s a p) x) (held_by a datagram f y)) (fate_same s a datagram good on)
          (held_landed s a datagram good on (fate_on s a p) refl)))
