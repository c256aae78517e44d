-- Acknowledgement and timeout check on two records that are the same: the same answer, and what they leave is alike.
-- The argument: searches and walk go by what the slots of a list hold, which is equal on both sides, so they find the same place and set the same marks;
-- a slot that is not in a list afterwards is not asked for.
use Rattle.std.specs.Prelude.{Option, Some, None}
use Prim.Native.Nat.{ℕ, ◌+◌, ◌≤◌, ◌<◌}
use mathlib.Core.Path.{◌≡◌, refl, ap, ap₂, sym, subst, ◌∙◌}
use mathlib.Core.List.{List, [], ◌∷◌}
use native.Mathlib.Omega.{arith}
use lib.Dec.{eqb}
use lib.ListN.{length, get_or, set, length-set}
use Rattle.std.specs.Prelude.{Result, Ok}
use Rattle.numbers.specs.Pick.{pick}
use Rattle.numbers.specs.declared.refusals.Refusal.{Refusal}
use Rattle.record.specs.Lists.{outgoing, out_items}
use Rattle.record.specs.declared.outgoing.OutList.{OutList}
use Rattle.record.proofs.Views.{out_items_keep}
use Rattle.record.proofs.Keeps.{times, times-without, without_takes, prepended_adds}
use Rattle.cells.specs.Runs.{first, is_empty, without, prepended}
use Rattle.record.specs.Fresh.{no_outgoing}
use Rattle.record.specs.Damage.{used_out}
use Rattle.record.specs.Updates.{with_timeouts, with_packets_lost, with_transit}
use Rattle.record.specs.declared.groups.Standing.{Standing}
use Rattle.record.specs.declared.groups.Limits.{Limits}
use Rattle.record.specs.declared.groups.Flow.{Flow}
use Rattle.record.specs.declared.groups.Loss.{Loss}
use Rattle.record.specs.declared.groups.Lists.{Lists}
use Rattle.record.specs.declared.groups.Times.{Times}
use Rattle.record.specs.declared.groups.Throttling.{Throttling}
use Rattle.record.specs.declared.groups.Trips.{Trips}
use Rattle.record.specs.declared.groups.Outgoing.{Outgoing}
use Rattle.peer.specs.Damage.{sound}
use Rattle.peer.specs.States.{acknowledging_connect, disconnect_later, disconnecting}
use Rattle.peer.specs.declared.settings.Settings.{Settings}
use Rattle.peer.specs.declared.Peer.{Peer}
use Rattle.laws.proofs.SameLaws.{Agree, agree_less, agree_set, Lined, lined_used, out_shape, out_items_lem, out_kept, named_first, Like}
use Rattle.laws.proofs.SamePairs.{ranked_by, rebuilt_like}
use Rattle.round_trip.specs.Interval.{measured}
use Rattle.round_trip.specs.declared.averages.Measured.{Measured}
use Rattle.queues.specs.declared.Out.{Out}
use Rattle.queues.specs.declared.Out.TheVariants as out
use Rattle.std.specs.Prelude.{is_some}
use Rattle.acknowledge.specs.Removal.{in_sent, in_queue, found_by, seek, or_else, spot_of, cut, lists_without, slot_at, held_by, flow_without, times_without, command_at}
use Rattle.acknowledge.specs.declared.removal.Seen.{Seen}
use Rattle.acknowledge.specs.declared.removal.Spot.{Spot}
use Rattle.acknowledge.proofs.RemovalLaws.{spot_at, Placed}
use Rattle.laws.proofs.Acknowledged.{found_placed}
use Rattle.laws.proofs.Marking.{bearing_some}
use Rattle.acknowledge.specs.Calls as acknowledging
use Rattle.acknowledge.specs.declared.Event.{Event}
use Rattle.acknowledge.specs.declared.Event.TheVariants as heard
use Rattle.overdue.specs.Overdue.{stays, back_outgoing, back_reliable}
use Rattle.overdue.specs.Walking.{turn_by, at_entry, Walked, marked_by, walked, bearing, ahead, lists_by}
use Rattle.overdue.specs.declared.step.Walk.{Walk}
use Rattle.overdue.specs.Walking.{Turned}
use Rattle.timeouts.specs.Calls as checking
use Rattle.promises.proofs.AlikeOut.{Twin, ap₃, used_adds, on_twin}

-- ---- the searches
seek_agree : (f g : ℕ → Seen) (k : ℕ) (xs : List ℕ) → ((s : ℕ) → 0 < times xs s → f s ≡ g s) → seek f k xs ≡ seek g k xs
unfolding seek
seek_agree f g k [] h = refl
seek_agree f g k (s ∷ ss) h =
    ap₂ (λ (v : Seen) (r : Option ℕ). found_by v k r) (h s (named_first s ss))
    (seek_agree f g (k + 1) ss (λ x n. h x (omega (arith, n))))

module _ (l m : Lists) (e : Lined l m) (a b : List Outgoing) (h : Agree no_outgoing (used_out l) a b) where
  spot_same : (number channel : ℕ) → spot_of a number channel l ≡ spot_of b number channel m
  spot_same number channel =
      ap₃ (λ (x y z : Option ℕ). or_else x out.Sent (or_else y out.Outgoing (or_else z out.Reliable None)))
      (by (in_sent number channel) l.sent m.sent e.sent (λ s n. omega (arith, n, used_adds l s)))
      (by (in_queue number channel) l.outgoing m.outgoing e.outgoing (λ s n. omega (arith, n, used_adds l s)))
      (by (in_queue number channel) l.send_reliable m.send_reliable e.send_reliable (λ s n. omega (arith, n, used_adds l s)))
    where
      by : (f : Outgoing → Seen) (x y : OutList) → out_shape x ≡ out_shape y → ((s : ℕ) → 0 < times (out_items x) s → 0 < times (used_out l) s)
          → seek (λ (s : ℕ). f (get_or a s no_outgoing)) 0 (out_items x) ≡ seek (λ (s : ℕ). f (get_or b s no_outgoing)) 0 (out_items y)
      by f x y d names =
          seek_agree (λ (s : ℕ). f (get_or a s no_outgoing)) (λ (s : ℕ). f (get_or b s no_outgoing)) 0 (out_items x) (λ s n. ap f (h s (names s n)))
          ∙ ap (seek (λ (s : ℕ). f (get_or b s no_outgoing)) 0) (out_items_lem x y d)

  -- a slot, if there is one, is named
  abbrev Named : Option ℕ → Type 0
  Named f = (s : ℕ) → f ≡ Some s → 0 < times (used_out l) s

  held_same : (f : Option ℕ) → Named f → held_by a f ≡ held_by b f
  held_same (Some s) n = h s (n s refl)
  held_same None n = refl

  place_same : (list : Out) (k : ℕ) → slot_at (spot_at list k) l ≡ slot_at (spot_at list k) m
  place_same out.Sent k = ap (λ (xs : List ℕ). Some (get_or xs k 0)) (out_items_lem l.sent m.sent e.sent)
  place_same out.Outgoing k = ap (λ (xs : List ℕ). Some (get_or xs k 0)) (out_items_lem l.outgoing m.outgoing e.outgoing)
  place_same out.Reliable k = ap (λ (xs : List ℕ). Some (get_or xs k 0)) (out_items_lem l.send_reliable m.send_reliable e.send_reliable)

  slot_same : (w : Option Spot) → slot_at w l ≡ slot_at w m
  slot_same (Some s) = place_same s.list s.place
  slot_same None = refl

  cut_like : (x y : OutList) (k : ℕ) → out_shape x ≡ out_shape y → out_shape (cut x k) ≡ out_shape (cut y k)
  cut_like x y k d = out_kept x y (without (out_items x) k) (without (out_items y) k) (ap (λ (xs : List ℕ). without xs k) (out_items_lem x y d))

  place_lined : (list : Out) (k : ℕ) → Lined (lists_without (spot_at list k) l) (lists_without (spot_at list k) m)
  place_lined out.Sent k =
      record { sent = cut_like l.sent m.sent k e.sent; send_reliable = e.send_reliable; outgoing = e.outgoing; dispatched = e.dispatched }
  place_lined out.Outgoing k =
      record { sent = e.sent; send_reliable = e.send_reliable; outgoing = cut_like l.outgoing m.outgoing k e.outgoing; dispatched = e.dispatched }
  place_lined out.Reliable k =
      record { sent = e.sent; send_reliable = cut_like l.send_reliable m.send_reliable k e.send_reliable; outgoing = e.outgoing; dispatched = e.dispatched }

  without_lined : (w : Option Spot) → Lined (lists_without w l) (lists_without w m)
  without_lined (Some s) = place_lined s.list s.place
  without_lined None = e

-- what is at a place is named
at_named : (xs : List ℕ) (k : ℕ) → k < length xs → 0 < times xs (get_or xs k 0)
at_named xs k h =
    let e = times-without xs k (get_or xs k 0) h in
    omega (arith, e, named_first (get_or xs k 0) [])

slot_of : {a b : ℕ} → Some a ≡ Some b → a ≡ b
slot_of e = ap slot_in e
  where
    slot_in : Option ℕ → ℕ
    slot_in (Some s) = s
    slot_in None = 0

module _ (l : Lists) where
  place_named : (list : Out) (k : ℕ) → Placed (spot_at list k) l → (s : ℕ) → slot_at (spot_at list k) l ≡ Some s → 0 < times (used_out l) s
  place_named out.Sent k h s d =
      subst (λ (x : ℕ). 0 < times (used_out l) x) (slot_of d)
      (omega (arith, used_adds l (get_or (out_items l.sent) k 0), at_named (out_items l.sent) k h))
  place_named out.Outgoing k h s d =
      subst (λ (x : ℕ). 0 < times (used_out l) x) (slot_of d)
      (omega (arith, used_adds l (get_or (out_items l.outgoing) k 0), at_named (out_items l.outgoing) k h))
  place_named out.Reliable k h s d =
      subst (λ (x : ℕ). 0 < times (used_out l) x) (slot_of d)
      (omega (arith, used_adds l (get_or (out_items l.send_reliable) k 0), at_named (out_items l.send_reliable) k h))

  spot_named : (w : Option Spot) → Placed w l → (s : ℕ) → slot_at w l ≡ Some s → 0 < times (used_out l) s
  spot_named (Some w) h s d = place_named w.list w.place h s d
  spot_named None h s d = absurd (let z : ◌≡◌ {A = ℕ} 0 1 = cc in omega arith)

  cut_names : (x : OutList) (k s : ℕ) → times (out_items (cut x k)) s ≤ times (out_items x) s
  cut_names x k s =
      let d = ap (λ (xs : List ℕ). times xs s) (out_items_keep x (without (out_items x) k)) in omega (arith, d, without_takes (out_items x) k s)

  cut_lists_names : (list : Out) (k s : ℕ) → times (used_out (lists_without (spot_at list k) l)) s ≤ times (used_out l) s
  cut_lists_names out.Sent k s = omega (arith, used_adds (lists_without (spot_at out.Sent k) l) s, used_adds l s, cut_names l.sent k s)
  cut_lists_names out.Outgoing k s = omega (arith, used_adds (lists_without (spot_at out.Outgoing k) l) s, used_adds l s, cut_names l.outgoing k s)
  cut_lists_names out.Reliable k s = omega (arith, used_adds (lists_without (spot_at out.Reliable k) l) s, used_adds l s, cut_names l.send_reliable k s)

  without_names : (w : Option Spot) (s : ℕ) → times (used_out (lists_without w l)) s ≤ times (used_out l) s
  without_names (Some w) s = cut_lists_names w.list w.place s
  without_names None s = omega arith

  first_named : (xs : List ℕ) (s : ℕ) → first xs ≡ Some s → 0 < times xs s
  first_named [] s d = absurd (let z : ◌≡◌ {A = ℕ} 0 1 = cc in omega arith)
  first_named (x ∷ xs) s d = subst (λ (y : ℕ). 0 < times (x ∷ xs) y) (slot_of d) (named_first x xs)

  head_named : (w : Option Spot) (s : ℕ) → first (out_items (lists_without w l).sent) ≡ Some s → 0 < times (used_out l) s
  head_named w s d =
      omega (arith, first_named (out_items (lists_without w l).sent) s d, used_adds (lists_without w l) s, without_names w s)

-- what an acknowledgement answers, by the slots that are left
abbrev event_by : ℕ → ℕ → List ℕ → Result Event Refusal
event_by state command used =
    pick (eqb state acknowledging_connect) (acknowledging.removed_or command acknowledging.verify_connect heard.Connect)
    (pick (eqb state disconnecting) (acknowledging.removed_or command acknowledging.disconnect heard.Disconnect)
    (pick (eqb state disconnect_later) (pick (is_empty used) (Ok heard.DisconnectNow) (Ok heard.Done)) (Ok heard.Done)))

module _ (p q : Peer) (k : Like p q) where
  module _ (w : Option Spot) (placed : Placed w p.lists) (sample clock : ℕ) where
    abbrev left : Lists
    left = lists_without w p.lists

    abbrev left' : Lists
    left' = lists_without w q.lists

    abbrev head : Option ℕ
    head = first (out_items left.sent)

    abbrev head' : Option ℕ
    head' = first (out_items left'.sent)

    lined : Lined left left'
    lined = without_lined p.lists q.lists k.lists p.outgoing q.outgoing k.outs w

    slots : slot_at w p.lists ≡ slot_at w q.lists
    slots = slot_same p.lists q.lists k.lists p.outgoing q.outgoing k.outs w

    heads : head ≡ head'
    heads = ap first (out_items_lem left.sent left'.sent lined.sent)

    removed : held_by p.outgoing (slot_at w p.lists) ≡ held_by q.outgoing (slot_at w q.lists)
    removed =
        held_same p.lists q.lists k.lists p.outgoing q.outgoing k.outs (slot_at w p.lists) (spot_named p.lists w placed)
        ∙ ap (held_by q.outgoing) slots

    next : held_by p.outgoing head ≡ held_by q.outgoing head'
    next =
        held_same p.lists q.lists k.lists p.outgoing q.outgoing k.outs head (head_named p.lists w) ∙ ap (held_by q.outgoing) heads

    now : measured (eqb p.times.last_receive 0) sample clock p.throttling p.trips
        ≡ measured (eqb q.times.last_receive 0) sample clock q.throttling q.trips
    now =
        ap₃ (λ (t : Times) (u : Throttling) (v : Trips). measured (eqb t.last_receive 0) sample clock u v) k.times k.throttling k.trips

    heard_twin : Twin (acknowledging.heard_at w sample clock p) (acknowledging.heard_at w sample clock q)
    heard_twin =
        record {
          answer =
              ap₃ (λ (n : Standing) (c : ℕ) (xs : List ℕ). acknowledging.answer_of (event_by n.state c xs)) k.standing
              (ap₂ (λ (f : Option ℕ) (o : Outgoing). command_at (is_some f) o) slots removed) (lined_used left left' lined);
          like =
              rebuilt_like p q k k.standing k.totals
              (ap₂ (λ (f g : Option ℕ). times_without (is_some f) (is_some g) (held_by p.outgoing head) (acknowledging.received clock p.times)) slots heads
              ∙ ap₂ (λ (o : Outgoing) (t : Times). times_without (is_some (slot_at w q.lists)) (is_some head') o (acknowledging.received clock t)) next k.times)
              k.loss (ap (λ (m : Measured). m.throttling) now) (ap (λ (m : Measured). m.trips) now) (ap₂ (flow_without w) removed k.flow) lined
              k.unsequenced k.waiting (ranked_by p q k)
              (agree_less no_outgoing (used_out p.lists) p.outgoing q.outgoing k.outs (used_out left)
              (λ s n. omega (arith, n, without_names p.lists w s)))
              k.marks;
        }

  by_twin : (t : Option ℕ) (channel number clock : ℕ) → Twin (acknowledging.acknowledges_by t channel number clock p) (acknowledging.acknowledges_by t channel number clock q)
  by_twin None channel number clock = record { answer = refl; like = k }
  by_twin (Some sample) channel number clock =
      subst (λ (w : Option Spot). Twin (acknowledging.heard_at (spot_of p.outgoing number channel p.lists) sample clock p) (acknowledging.heard_at w sample clock q))
      (spot_same p.lists q.lists k.lists p.outgoing q.outgoing k.outs number channel)
      (heard_twin (spot_of p.outgoing number channel p.lists) (found_placed p.outgoing number channel p.lists) sample clock)

  pub acknowledge_twin : sound p ≡ sound q → (s : Settings) (channel number sent clock : ℕ)
      → Twin (acknowledging.acknowledges s channel number sent clock p) (acknowledging.acknowledges s channel number sent clock q)
  acknowledge_twin alike s channel number sent clock =
      on_twin p q k alike s (acknowledging.acknowledges_sound channel number sent clock p) (acknowledging.acknowledges_sound channel number sent clock q)
      (λ good.
      subst (λ (n : Standing). Twin (acknowledging.acknowledges_sound channel number sent clock p)
      (acknowledging.acknowledges_by (acknowledging.heard_in n.state clock sent) channel number clock q)) k.standing
      (by_twin (acknowledging.heard_in p.standing.state clock sent) channel number clock))

-- ---- the walk
record Walks (used : List ℕ) (a b : Walked) : Type 0 where
  walk : a.walk ≡ b.walk
  marks : a.marks ≡ b.marks
  slots : Agree no_outgoing used a.slots b.slots

walked_agree : (l : Limits) (clock : ℕ) (used xs : List ℕ) (w : Walk) (a b : List Outgoing) → ((s : ℕ) → 0 < times xs s → 0 < times used s)
    → length a ≡ length b → Agree no_outgoing used a b → Walks used (walked l clock xs w a) (walked l clock xs w b)
unfolding walked
walked_agree l clock used [] w a b names long h = record { walk = refl; marks = refl; slots = h }
walked_agree l clock used (s ∷ ss) w a b names long h =
    let t = turn_by l clock w (get_or a s no_outgoing) in
    let rest = walked_agree l clock used ss t.walk (set a s t.slot) (set b s t.slot) (λ x n. names x (omega (arith, n)))
    (length-set a s t.slot ∙ long ∙ sym (length-set b s t.slot)) (agree_set no_outgoing used a b h s t.slot t.slot long refl) in
    subst (λ (u : Turned). Walks used (marked_by t.mark (walked l clock ss t.walk (set a s t.slot)))
    (marked_by u.mark (walked l clock ss u.walk (set b s u.slot))))
    (ap (turn_by l clock w) (h s (names s (named_first s ss))))
    (record { walk = rest.walk; marks = ap (λ (ms : List ℕ). t.mark ∷ ms) rest.marks; slots = rest.slots })

by_lined : (ms : List ℕ) (l m : Lists) → Lined l m → Lined (lists_by ms l) (lists_by ms m)
by_lined ms l m e =
    record {
      sent = out_kept l.sent m.sent (bearing stays ms (out_items l.sent)) (bearing stays ms (out_items m.sent)) (ap (bearing stays ms) items);
      send_reliable = ahead_like l.send_reliable m.send_reliable back_reliable e.send_reliable;
      outgoing = ahead_like l.outgoing m.outgoing back_outgoing e.outgoing;
      dispatched = e.dispatched;
    }
  where
    items : out_items l.sent ≡ out_items m.sent
    items = out_items_lem l.sent m.sent e.sent

    ahead_like : (x y : OutList) (mark : ℕ) → out_shape x ≡ out_shape y
        → out_shape (ahead x (bearing mark ms (out_items l.sent))) ≡ out_shape (ahead y (bearing mark ms (out_items m.sent)))
    ahead_like x y mark d =
        out_kept x y (prepended outgoing (bearing mark ms (out_items l.sent)) (out_items x)) (prepended outgoing (bearing mark ms (out_items m.sent)) (out_items y))
        (ap₂ (λ (xs ys : List ℕ). prepended outgoing (bearing mark ms xs) ys) items (out_items_lem x y d))

by_names : (ms : List ℕ) (l : Lists) (s : ℕ) → 0 < times (used_out (lists_by ms l)) s → 0 < times (used_out l) s
by_names ms l s h =
    omega (arith, h, used_adds (lists_by ms l) s, used_adds l s, stay, bearing_some stays ms sent s, before l.send_reliable back_reliable, before l.outgoing back_outgoing)
  where
    sent : List ℕ
    sent = out_items l.sent

    stay : times (out_items (lists_by ms l).sent) s ≡ times (bearing stays ms sent) s
    stay = ap (λ (xs : List ℕ). times xs s) (out_items_keep l.sent (bearing stays ms sent))

    before : (x : OutList) (mark : ℕ) → times (out_items (ahead x (bearing mark ms sent))) s ≤ times sent s + times (out_items x) s
    before x mark =
        let d = ap (λ (xs : List ℕ). times xs s) (out_items_keep x (prepended outgoing (bearing mark ms sent) (out_items x))) in
        omega (arith, d, prepended_adds outgoing (bearing mark ms sent) (out_items x) s, bearing_some mark ms sent s)

module _ (p q : Peer) (k : Like p q) (long : length p.outgoing ≡ length q.outgoing) (clock : ℕ) where
  walks : Walks (used_out p.lists) (checking.walk_of clock p) (checking.walk_of clock q)
  walks =
      subst (Walks (used_out p.lists) (checking.walk_of clock p))
      (ap₃ (λ (l : Limits) (xs : List ℕ) (w : Walk). walked l clock xs w q.outgoing) k.limits (out_items_lem p.lists.sent q.lists.sent k.lists.sent)
      (ap₃ at_entry k.times k.loss k.flow))
      (walked_agree p.limits clock (used_out p.lists) (out_items p.lists.sent) (at_entry p.times p.loss p.flow) p.outgoing q.outgoing
      (λ s n. omega (arith, n, used_adds p.lists s)) long k.outs)

  checked_like : Like (checking.walked_on p (checking.walk_of clock p)) (checking.walked_on q (checking.walk_of clock q))
  checked_like =
      rebuilt_like p q k k.standing k.totals
      (ap₂ (λ (t : Times) (w : Walk). with_timeouts t w.next w.earliest) k.times walks.walk)
      (ap₂ (λ (l : Loss) (w : Walk). with_packets_lost l w.lost) k.loss walks.walk) k.throttling k.trips
      (ap₂ (λ (f : Flow) (w : Walk). with_transit f w.transit) k.flow walks.walk)
      (subst (λ (ms : List ℕ). Lined (lists_by (checking.walk_of clock p).marks p.lists) (lists_by ms q.lists)) walks.marks
      (by_lined (checking.walk_of clock p).marks p.lists q.lists k.lists))
      k.unsequenced k.waiting (ranked_by p q k)
      (agree_less no_outgoing (used_out p.lists) (checking.walk_of clock p).slots (checking.walk_of clock q).slots walks.slots
      (used_out (lists_by (checking.walk_of clock p).marks p.lists)) (by_names (checking.walk_of clock p).marks p.lists))
      k.marks

  pub check_twin : sound p ≡ sound q → (s : Settings) → Twin (checking.checks s clock p) (checking.checks s clock q)
  check_twin alike s =
      on_twin p q k alike s (checking.checks_sound clock p) (checking.checks_sound clock q)
      (λ good. record { answer = ap (λ (w : Walk). checking.answer_of (Ok (checking.reply_by w.over))) walks.walk; like = checked_like })
