-- The acknowledgement, for all inputs, refused or not: it frees exactly one slot, of that number and channel, or none; a sound record stays sound.
-- The argument: it changes the lists by a removal alone; so no slot is named more often, and sent names none that it did not name before.
use Rattle.std.specs.Prelude.{Option, Some, None}
use Prim.Native.Nat.{ℕ, ◌≤◌}
use mathlib.Core.Path.{◌≡◌, refl, ap, subst}
use mathlib.Core.Bool.{Bool, true, false}
use mathlib.Core.List.{List}
use native.Mathlib.Omega.{arith}
use lib.Dec.{leb}
use lib.ListN.{length, get_or, length-take}
use borrow.Author.Tests.{le-leb, leb-true}
use Rattle.numbers.specs.Pick.{pick}
use Rattle.numbers.specs.Modulo.{minus}
use Rattle.cells.specs.Runs.{without}
use Rattle.cells.proofs.Lengths.{without_fits}
use Rattle.record.specs.Lists.{outgoing, out_items}
use Rattle.record.specs.declared.outgoing.OutList.{OutList}
use Rattle.record.proofs.Keeps.{times, without_takes}
use Rattle.record.specs.Fresh.{no_outgoing}
use Rattle.record.specs.Damage.{lists_fit, tried, used_out}
use Rattle.record.specs.Updates.{with_transit}
use Rattle.record.specs.declared.groups.Flow.{Flow}
use Rattle.record.specs.declared.groups.Lists.{Lists}
use Rattle.record.specs.declared.groups.Outgoing.{Outgoing}
use Rattle.peer.specs.Damage.{sound}
use Rattle.peer.specs.Sounds.{Whole, Sounds}
use Rattle.peer.specs.Outcome.{Outcome}
use Rattle.peer.specs.Gate.{fits, gate_of}
use Rattle.peer.specs.declared.settings.Settings.{Settings}
use Rattle.peer.specs.declared.Peer.{Peer}
use Rattle.peer.specs.declared.gate.Lent.TheVariants as lent
use Rattle.peer.proofs.Gates.{behind_has, sound_open}
use Rattle.peer.proofs.Sound.{gated_sounds}
use Rattle.peer.proofs.Clauses.{Clauses, sound_clauses, all_at}
use Rattle.peer.proofs.OutClauses.{others_fit, out_sound}
use Rattle.queues.specs.declared.Out.{Out}
use Rattle.queues.specs.declared.Out.TheVariants as out
use Rattle.acknowledge.specs.Removal.{spot_of, in_sent, in_queue, cut, lists_without, slot_at, flow_left, flow_without}
use Rattle.acknowledge.specs.declared.removal.Spot.{Spot}
use Rattle.acknowledge.proofs.RemovalLaws.{spot_at, Placed, spot_placed}
use Rattle.acknowledge.specs.Calls.{heard_in, heard_at, acknowledges_by, acknowledges_sound, acknowledges}
use Rattle.laws.specs.Freeing.{Removes}
use Rattle.laws.specs.Freeing as freeing
use Rattle.laws.proofs.Removing.{Lost, same, loses, removal_loses, cut_items, loses_times, loses_free, Bears, found_bears}

-- ---- the spot that is found is a place of its list
pub found_placed : (slots : List Outgoing) (number channel : ℕ) (l : Lists) → Placed (spot_of slots number channel l) l
found_placed slots number channel l =
    spot_placed (λ (s : ℕ). in_sent number channel (get_or slots s no_outgoing)) (λ (s : ℕ). in_queue number channel (get_or slots s no_outgoing)) l

-- ---- what it frees
module _ (p : Peer) (h : sound p ≡ true) (number channel : ℕ) (w : Option Spot) (sample clock : ℕ)
    (bears : Bears p.outgoing number channel (slot_at w p.lists)) where
  heard_removes : Lost p.lists w → Removes number channel p (heard_at w sample clock p).after
  heard_removes (same e) = freeing.none e refl
  heard_removes (loses l is) =
      freeing.one
      (record {
        slot = l.slot;
        front = l.front;
        rest = l.rest;
        was = l.was;
        is = l.is;
        bears = subst (Bears p.outgoing number channel) is bears;
        free = loses_free (used_out p.lists) (used_out (lists_without w p.lists)) l (sound_clauses p h).single;
        slots = refl;
      })

by_removes : (t : Option ℕ) (channel number clock : ℕ) (p : Peer) → sound p ≡ true
    → Removes number channel p (acknowledges_by t channel number clock p).after
by_removes None channel number clock p h = freeing.none refl refl
by_removes (Some sample) channel number clock p h =
    let w = spot_of p.outgoing number channel p.lists in
    heard_removes p h number channel w sample clock (found_bears p.outgoing number channel p.lists)
    (removal_loses p.lists w (found_placed p.outgoing number channel p.lists))

pub acknowledge_removes : (s : Settings) (channel number sent clock : ℕ) (p : Peer)
    → Removes number channel p (acknowledges s channel number sent clock p).after
acknowledge_removes s channel number sent clock p =
    behind_has (gate_of (fits s lent.Nothing) (sound p)) p (acknowledges_sound channel number sent clock p)
    (λ (o : Outcome Peer). Removes number channel p o.after) (λ why. freeing.none refl refl)
    (λ e. by_removes (heard_in p.standing.state clock sent) channel number clock p (sound_open (fits s lent.Nothing) (sound p) e))

-- ---- soundness: what a list without a place keeps
cut_fits : (l : OutList) (k : ℕ) → leb l.len outgoing ≡ true → leb (cut l k).len outgoing ≡ true
cut_fits l k e =
    le-leb (length (without (out_items l) k)) outgoing
    (without_fits outgoing (out_items l) (omega (arith, leb-true l.len outgoing e, length-take l.len l.slots)) k)

cut-times : (l : OutList) (k s : ℕ) → times (out_items (cut l k)) s ≤ times (out_items l) s
cut-times l k s = omega (arith, ap (λ (xs : List ℕ). times xs s) (cut_items l k), without_takes (out_items l) k s)

place_fits : (list : Out) (k : ℕ) (l : Lists) → lists_fit l ≡ true → lists_fit (lists_without (spot_at list k) l) ≡ true
place_fits out.Sent k l = others_fit l (cut l.sent k) l.send_reliable l.outgoing (cut_fits l.sent k) (λ e. e) (λ e. e)
place_fits out.Reliable k l = others_fit l l.sent (cut l.send_reliable k) l.outgoing (λ e. e) (cut_fits l.send_reliable k) (λ e. e)
place_fits out.Outgoing k l = others_fit l l.sent l.send_reliable (cut l.outgoing k) (λ e. e) (λ e. e) (cut_fits l.outgoing k)

removal_fits : (w : Option Spot) (l : Lists) → lists_fit l ≡ true → lists_fit (lists_without w l) ≡ true
removal_fits (Some s) l = place_fits s.list s.place l
removal_fits None l = λ e. e

place_less : (list : Out) (k : ℕ) (l : Lists) (s : ℕ) → times (out_items (lists_without (spot_at list k) l).sent) s ≤ times (out_items l.sent) s
place_less out.Sent k l s = cut-times l.sent k s
place_less out.Reliable k l s = omega arith
place_less out.Outgoing k l s = omega arith

pub sent_less : (w : Option Spot) (l : Lists) (s : ℕ) → times (out_items (lists_without w l).sent) s ≤ times (out_items l.sent) s
sent_less (Some w) l s = place_less w.list w.place l s
sent_less None l s = omega arith

place_dispatched : (list : Out) (k : ℕ) (l : Lists) → (lists_without (spot_at list k) l).dispatched ≡ l.dispatched
place_dispatched out.Sent k l = refl
place_dispatched out.Reliable k l = refl
place_dispatched out.Outgoing k l = refl

pub same_dispatched : (w : Option Spot) (l : Lists) → (lists_without w l).dispatched ≡ l.dispatched
same_dispatched (Some w) l = place_dispatched w.list w.place l
same_dispatched None l = refl

left_mtu : (list : Out) (o : Outgoing) (f : Flow) → (flow_left list o f).mtu ≡ f.mtu
left_mtu out.Sent o f = go o.packet
  where
    go : (b : Bool) → (pick b (with_transit f (minus 32 f.transit o.length)) f).mtu ≡ f.mtu
    go true = refl
    go false = refl
left_mtu out.Reliable o f = refl
left_mtu out.Outgoing o f = refl

same_mtu : (w : Option Spot) (o : Outgoing) (f : Flow) → (flow_without w o f).mtu ≡ f.mtu
same_mtu (Some w) o f = left_mtu w.list o f
same_mtu None o f = refl

used_less : (l : Lists) (w : Option Spot) → Lost l w → (k : ℕ) → times (used_out (lists_without w l)) k ≤ times (used_out l) k
used_less l w (same e) k = omega (arith, ap (λ (x : Lists). times (used_out x) k) e)
used_less l w (loses x is) k = omega (arith, loses_times (used_out l) (used_out (lists_without w l)) x k)

heard_sound : (w : Option Spot) (sample clock : ℕ) (p : Peer) → Placed w p.lists → Clauses p → sound (heard_at w sample clock p).after ≡ true
heard_sound w sample clock p st c =
    out_sound p (heard_at w sample clock p).after c
    (record {
      mtu = same_mtu w _ p.flow;
      standing = refl;
      dispatched = same_dispatched w p.lists;
      total = refl;
      channels = refl;
      incoming = refl;
      marks = refl;
    })
    (removal_fits w p.lists c.lists) (used_less p.lists w (removal_loses p.lists w st)) (λ k. refl)
    (λ k h. all_at (tried p.outgoing) (out_items p.lists.sent) c.sent k (omega (arith, h, sent_less w p.lists k)))

by_sound : (t : Option ℕ) (channel number clock : ℕ) (p : Peer) → sound p ≡ true → sound (acknowledges_by t channel number clock p).after ≡ true
by_sound None channel number clock p h = h
by_sound (Some sample) channel number clock p h =
    heard_sound (spot_of p.outgoing number channel p.lists) sample clock p (found_placed p.outgoing number channel p.lists)
    (sound_clauses p h)

by_whole : (t : Option ℕ) (channel number clock : ℕ) (p : Peer) → Whole p → Whole (acknowledges_by t channel number clock p).after
by_whole None channel number clock p l = l
by_whole (Some sample) channel number clock p l = record { channels = l.channels; outgoing = l.outgoing; incoming = l.incoming }

pub acknowledge_sounds : (s : Settings) (channel number sent clock : ℕ) → Sounds (acknowledges s channel number sent clock)
acknowledge_sounds s channel number sent clock =
    gated_sounds s (acknowledges_sound channel number sent clock)
    (λ p l h. by_sound (heard_in p.standing.state clock sent) channel number clock p h)
    (λ p l. by_whole (heard_in p.standing.state clock sent) channel number clock p l)
