-- Soundness through the send step: a sound record stays sound, whichever list is named, acknowledged or not.
-- The argument: no list names a slot more often than before, the slot that changes keeps its command and has at least one attempt, and
-- nothing of the incoming side changes.
use Rattle.std.specs.Prelude.{None, Option, Some}
use Rattle.std.proofs.Common.{◌≡◌, ℕ, ◌+◌, ◌<◌, ◌≤◌, min, Bool, true, false, eqb, ltb, leb, List, [], ◌∷◌, length, get_or, set, sym, refl, ap, ◌∙◌, subst, arith, length-set, length-take, get_or-set_other, get_or-set_same, ltb-false, ltb-true, eqb-true, le-leb, leb-true}
use lib.Seq.{set_out}
use borrow.Author.Tests.{eqb-false}
use Rattle.numbers.proofs.BoolLaws.{both_true}
use Rattle.record.specs.Lists.{outgoing, incoming, out_items}
use Rattle.cells.specs.Runs.{first, without, pushed}
use Rattle.record.specs.declared.outgoing.OutList.{OutList}
use Rattle.record.proofs.Keeps.{times}
use Rattle.cells.proofs.Lengths.{without_fits, pushed_fits}
use Rattle.record.specs.Fresh.{no_outgoing}
use Rattle.record.specs.Damage.{lists_fit, all, tried, used_out}
use Rattle.record.specs.Updates.{longer, shorter}
use Rattle.record.specs.declared.groups.Times.{Times}
use Rattle.record.specs.declared.groups.Flow.{Flow}
use Rattle.record.specs.declared.groups.Lists.{Lists}
use Rattle.record.specs.declared.groups.Outgoing.{Outgoing}
use Rattle.damage.proofs.WalkLaws.{all_append}
use Rattle.peer.specs.Damage.{sound}
use Rattle.peer.specs.Sounds.{Whole, Sounds}
use Rattle.peer.specs.Updates.{renewed}
use Rattle.peer.specs.declared.settings.Settings.{Settings}
use Rattle.peer.specs.declared.Peer.{Peer}
use Rattle.peer.proofs.Sound.{gated_sounds}
use Rattle.peer.proofs.Clauses.{Clauses, sound_clauses, all_at, at_all, all_one}
use Rattle.peer.proofs.OutClauses.{others_fit, out_sound}
use Rattle.send_step.specs.Steps.{list_of, without_head, is_acknowledged, packet_sent, carrying, timing, head, sent_as}
use Rattle.send_step.specs.Calls.{steps_from, steps_sound, steps}
use Rattle.send_step.specs.declared.heads.Queue.{Queue}
use Rattle.send_step.specs.declared.heads.Queue.TheVariants as queue
use Rattle.send_step.proofs.Freeing.{joined, without_sent, without_takes, joined_items, joined_keeps, sent_by, sent_by_lem, acknowledged_within}

-- the lists fit their pools
short : (l : OutList) → leb l.len outgoing ≡ true → length (out_items l) ≤ outgoing
short l e = omega (arith, leb-true l.len outgoing e, length-take l.len l.slots)

shorter_fits : (l : OutList) → leb l.len outgoing ≡ true → leb (shorter l).len outgoing ≡ true
shorter_fits l e = le-leb (length (without (out_items l) 0)) outgoing (without_fits outgoing (out_items l) (short l e) 0)

longer_fits : (l : OutList) (s : ℕ) → leb l.len outgoing ≡ true → leb (longer l s).len outgoing ≡ true
longer_fits l s e = le-leb (length (pushed outgoing (out_items l) s)) outgoing (pushed_fits outgoing (out_items l) (short l e) s)

module _ (l : Lists) where
  without_fit : (q : Queue) → lists_fit l ≡ true → lists_fit (without_head q l) ≡ true
  without_fit queue.Outgoing = others_fit l l.sent l.send_reliable (shorter l.outgoing) (λ e. e) (λ e. e) (shorter_fits l.outgoing)
  without_fit queue.Reliable = others_fit l l.sent (shorter l.send_reliable) l.outgoing (λ e. e) (shorter_fits l.send_reliable) (λ e. e)

  joined_fit : (q : Queue) (s : ℕ) → lists_fit l ≡ true → lists_fit (joined q l s) ≡ true
  joined_fit q s e =
      let n = without_head q l in
      others_fit n (longer l.sent s) n.send_reliable n.outgoing
      (λ w. longer_fits l.sent s (subst (λ (x : OutList). leb x.len outgoing ≡ true) (without_sent q l) w)) (λ w. w) (λ w. w)
      (without_fit q e)

-- the pool with slot s as it went out
module _ (slots : List Outgoing) (s : ℕ) (o : Outgoing) where
  module _ (e : o.command ≡ (get_or slots s no_outgoing).command) where
    same_command : (k : ℕ) → (get_or (set slots s o) k no_outgoing).command ≡ (get_or slots k no_outgoing).command
    same_command k = go (eqb k s) refl (ltb s (length slots)) refl
      where
        go : (b : Bool) → eqb k s ≡ b → (w : Bool) → ltb s (length slots) ≡ w
            → (get_or (set slots s o) k no_outgoing).command ≡ (get_or slots k no_outgoing).command
        go true t true h =
            let z : k ≡ s = eqb-true k s t in
            rw (z, get_or-set_same slots s o no_outgoing (ltb-true s (length slots) h)) e
        go true t false h = rw (set_out slots s o (ltb-false s (length slots) h))
        go false t w h = ap (λ (x : Outgoing). x.command) (get_or-set_other slots s k o no_outgoing (eqb-false k s t))

  module _ (e : leb 1 o.attempts ≡ true) where
    tried_still : (k : ℕ) → tried slots k ≡ true → tried (set slots s o) k ≡ true
    tried_still k w = go (eqb k s) refl (ltb s (length slots)) refl
      where
        go : (b : Bool) → eqb k s ≡ b → (a : Bool) → ltb s (length slots) ≡ a → tried (set slots s o) k ≡ true
        go true t true h =
            let z : k ≡ s = eqb-true k s t in
            rw (z, get_or-set_same slots s o no_outgoing (ltb-true s (length slots) h)) e
        go true t false h = rw (set_out slots s o (ltb-false s (length slots) h)) w
        go false t a h = rw (get_or-set_other slots s k o no_outgoing (eqb-false k s t)) w

    all_still : (xs : List ℕ) → all (tried slots) xs ≡ true → all (tried (set slots s o)) xs ≡ true
    all_still xs w = at_all (tried (set slots s o)) xs (λ k h. tried_still k (all_at (tried slots) xs w k h))

    tried_new : s < length slots → tried (set slots s o) s ≡ true
    tried_new h = rw (get_or-set_same slots s o no_outgoing h) e

-- what a change of the outgoing side must keep
module _ (p : Peer) (w : Clauses p) (t : Times) (f : Flow) (l : Lists) (s : ℕ) (o : Outgoing) where
  abbrev changed : Peer
  changed =
      renewed p p.standing p.totals t (packet_sent p.loss) f l p.unsequenced p.waiting p.channels (set p.outgoing s o)

  sent-sound : f.mtu ≡ p.flow.mtu → l.dispatched ≡ p.lists.dispatched → lists_fit l ≡ true
      → ((k : ℕ) → times (used_out l) k ≤ times (used_out p.lists) k) → o.command ≡ (get_or p.outgoing s no_outgoing).command
      → all (tried (set p.outgoing s o)) (out_items l.sent) ≡ true → sound changed ≡ true
  sent-sound mtu came fits named command tries =
      out_sound p changed w (record { mtu = mtu; standing = refl; dispatched = came; total = refl; channels = refl; incoming = refl; marks = refl }) fits named
      (same_command p.outgoing s o command) (λ k h. all_at (tried (set p.outgoing s o)) (out_items l.sent) tries k h)

without_arrived : (q : Queue) (l : Lists) → (without_head q l).dispatched ≡ l.dispatched
without_arrived queue.Outgoing l = refl
without_arrived queue.Reliable l = refl

module _ (q : Queue) (s time : ℕ) (rest : List ℕ) (p : Peer) (e : out_items (list_of q p.lists) ≡ s ∷ rest) (w : Clauses p) where
  abbrev o : Outgoing
  o = head p s time

  once_tried : leb 1 o.attempts ≡ true
  once_tried = le-leb 1 (min ((get_or p.outgoing s no_outgoing).attempts + 1) 65535) (omega arith)

  sent_by-sound : (b : Bool) → is_acknowledged o ≡ b → sound (sent_by b q s o p) ≡ true
  sent_by-sound true a =
      let f = tried (set p.outgoing s o) in
      let xs = out_items p.lists.sent in
      sent-sound p w (timing p.times xs o) (carrying p.flow o) (joined q p.lists s) s o refl (without_arrived q p.lists)
      (joined_fit p.lists q s w.lists)
      (λ k. omega (arith, joined_keeps q p.lists s rest e w.exists w.single k)) refl
      (subst (λ (ys : List ℕ). all f ys ≡ true) (sym (joined_items q p.lists s rest e w.exists w.single))
      (all_append f xs (s ∷ [])
      ∙ both_true (all f xs) (all f (s ∷ [])) (all_still p.outgoing s o once_tried xs w.sent)
      (all_one f s (tried_new p.outgoing s o once_tried (acknowledged_within p.outgoing s a)))))
  sent_by-sound false a =
      sent-sound p w p.times p.flow (without_head q p.lists) s o refl (without_arrived q p.lists) (without_fit p.lists q w.lists)
      (λ k. omega (arith, without_takes q p.lists s rest e k)) refl
      (subst (λ (x : OutList). all (tried (set p.outgoing s o)) (out_items x) ≡ true) (sym (without_sent q p.lists))
      (all_still p.outgoing s o once_tried (out_items p.lists.sent) w.sent))

  sent_as-sound : sound (sent_as q s o p) ≡ true
  sent_as-sound = ap sound (sent_by_lem q s o p) ∙ sent_by-sound (is_acknowledged o) refl

step_keeps : (q : Queue) (time : ℕ) (p : Peer) → Whole p → sound p ≡ true → sound (steps_sound q time p).after ≡ true
step_keeps q time p l h = go (out_items (list_of q p.lists)) refl
  where
    go : (xs : List ℕ) → out_items (list_of q p.lists) ≡ xs → sound (steps_from (first xs) q time p).after ≡ true
    go [] e = h
    go (s ∷ rest) e = sent_as-sound q s time rest p e (sound_clauses p h)

sent_whole : (q : Queue) (s : ℕ) (o : Outgoing) (p : Peer) → Whole p → Whole (sent_as q s o p)
unfolding sent_as
sent_whole q s o p l =
    record { channels = l.channels; outgoing = length-set p.outgoing s o ∙ l.outgoing; incoming = l.incoming }

step_whole : (q : Queue) (time : ℕ) (p : Peer) → Whole p → Whole (steps_sound q time p).after
step_whole q time p l = go (first (out_items (list_of q p.lists)))
  where
    go : (f : Option ℕ) → Whole (steps_from f q time p).after
    go None = l
    go (Some s) = sent_whole q s (head p s time) p l

pub step_sounds : (s : Settings) (q : Queue) (time : ℕ) → Sounds (steps s q time)
step_sounds s q time = gated_sounds s (steps_sound q time) (step_keeps q time) (step_whole q time)
