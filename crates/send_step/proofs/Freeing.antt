-- What a send step does to the slots: the head leaves its list, and joins sent at the end or is free; no other slot moves or changes.
-- The argument: how often a slot stands, and how long lists are, both add up over the three lists, and a step takes the head off one of them.
use Rattle.std.specs.Prelude.{Option, Some}
use Rattle.std.proofs.Common.{◌≡◌, ℕ, ◌+◌, ◌<◌, ◌≤◌, Bool, true, false, ltb, List, [], ◌∷◌, ◌++◌, length, get_or, drop, set, sym, refl, ap, ◌∙◌, subst, arith, length-append, get_or-set_other, get_or-set_same, ltb-false, ltb-true, lt-ltb, eq-eqb}
use lib.ListN.{get_or-eq_default}
use Rattle.numbers.specs.Pick.{pick}
use Rattle.record.specs.Lists.{outgoing, out_items}
use Rattle.cells.specs.Runs.{first, without, pushed, has}
use Rattle.cells.specs.Free.{exist, once}
use Rattle.record.specs.declared.outgoing.OutList.{OutList}
use Rattle.record.proofs.Keeps.{one, times, times_append, none_times, once_at_most, once_same, exist_same, once_less, exist_less}
use Rattle.record.proofs.Views.{out_items_keep}
use Rattle.cells.proofs.Lowest.{free_and_named}
use Rattle.cells.proofs.Views.{first_cons}
use Rattle.record.specs.Fresh.{no_outgoing}
use Rattle.record.specs.Damage.{used_out}
use Rattle.record.specs.Updates.{with_sent_list, longer, shorter}
use Rattle.record.specs.declared.groups.Lists.{Lists}
use Rattle.record.specs.declared.groups.Outgoing.{Outgoing}
use Rattle.peer.specs.Damage.{sound}
use Rattle.peer.specs.Updates.{with_times, with_loss, with_flow, with_lists, with_outgoing}
use Rattle.peer.specs.declared.Peer.{Peer}
use Rattle.peer.proofs.Clauses.{sound_clauses}
use Rattle.command.specs.Flags.{acknowledged}
use Rattle.record.specs.Room.{room_in}
use Rattle.send_step.specs.Steps.{list_of, without_head, is_acknowledged, packet_sent, carrying, timing, head, sent_as}
use Rattle.send_step.specs.Calls.{steps_from, steps_sound}
use Rattle.send_step.specs.declared.heads.Queue.{Queue}
use Rattle.send_step.specs.declared.heads.Queue.TheVariants as queue

-- one list without its head, one with a slot more
shorter_items : (l : OutList) (s : ℕ) (rest : List ℕ) → out_items l ≡ s ∷ rest → out_items (shorter l) ≡ rest
shorter_items l s rest e = out_items_keep l (without (out_items l) 0) ∙ ap (λ (xs : List ℕ). without xs 0) e

longer_items : (l : OutList) (s : ℕ) → length (out_items l) < outgoing → out_items (longer l s) ≡ out_items l ++ (s ∷ [])
longer_items l s h =
    out_items_keep l (pushed outgoing (out_items l) s)
    ∙ ap (λ (b : Bool). pick b (out_items l ++ (s ∷ [])) (out_items l)) (lt-ltb (length (out_items l)) outgoing h)

-- the list that a step does not name
abbrev pub other : Queue → Queue
other queue.Outgoing = queue.Reliable
other queue.Reliable = queue.Outgoing

-- the lists with the head moved to the end of sent
abbrev pub joined : Queue → Lists → ℕ → Lists
joined q l s = with_sent_list (without_head q l) (longer l.sent s)

-- which lists change
list_without : (q : Queue) (l : Lists) → list_of q (without_head q l) ≡ shorter (list_of q l)
list_without queue.Outgoing l = refl
list_without queue.Reliable l = refl

list_other : (q : Queue) (l : Lists) → list_of (other q) (without_head q l) ≡ list_of (other q) l
list_other queue.Outgoing l = refl
list_other queue.Reliable l = refl

list_with_sent : (q : Queue) (l : Lists) (x : OutList) → list_of q (with_sent_list l x) ≡ list_of q l
list_with_sent queue.Outgoing l x = refl
list_with_sent queue.Reliable l x = refl

pub without_sent : (q : Queue) (l : Lists) → (without_head q l).sent ≡ l.sent
without_sent queue.Outgoing l = refl
without_sent queue.Reliable l = refl

-- what adds up over lists
module _ (f : List ℕ → ℕ) (adds : (xs ys : List ℕ) → f (xs ++ ys) ≡ f xs + f ys) where
  used_sum : (l : Lists) → f (used_out l) ≡ f (out_items l.sent) + (f (out_items l.send_reliable) + f (out_items l.outgoing))
  used_sum l =
      omega (
        arith,
        adds (out_items l.sent) (out_items l.send_reliable ++ out_items l.outgoing),
        adds (out_items l.send_reliable) (out_items l.outgoing),
      )

  cut_sum : (l : OutList) (s : ℕ) (rest : List ℕ) → out_items l ≡ s ∷ rest → f (s ∷ []) + f (out_items (shorter l)) ≡ f (out_items l)
  cut_sum l s rest e =
      ap (λ (xs : List ℕ). f (s ∷ []) + f xs) (shorter_items l s rest e) ∙ sym (adds (s ∷ []) rest) ∙ ap f (sym e)

  without_sum : (q : Queue) (l : Lists) (s : ℕ) (rest : List ℕ) → out_items (list_of q l) ≡ s ∷ rest
      → f (s ∷ []) + f (used_out (without_head q l)) ≡ f (used_out l)
  without_sum queue.Outgoing l s rest e =
      omega (arith, used_sum l, used_sum (without_head queue.Outgoing l), cut_sum l.outgoing s rest e)
  without_sum queue.Reliable l s rest e =
      omega (arith, used_sum l, used_sum (without_head queue.Reliable l), cut_sum l.send_reliable s rest e)

  joined_sum : (q : Queue) (l : Lists) (s : ℕ) → length (out_items l.sent) < outgoing
      → f (used_out (joined q l s)) ≡ f (s ∷ []) + f (used_out (without_head q l))
  joined_sum q l s h =
      omega (
        arith,
        used_sum (without_head q l),
        used_sum (joined q l s),
        ap (λ (x : OutList). f (out_items x)) (without_sent q l),
        ap f (longer_items l.sent s h) ∙ adds (out_items l.sent) (s ∷ []),
      )

module _ (q : Queue) (l : Lists) (s : ℕ) (rest : List ℕ) (e : out_items (list_of q l) ≡ s ∷ rest) where
  pub without_takes : (k : ℕ) → one s k + times (used_out (without_head q l)) k ≡ times (used_out l) k
  without_takes k =
      omega (arith, without_sum (λ (xs : List ℕ). times xs k) (λ xs ys. times_append xs ys k) q l s rest e)

  without_items : out_items (list_of q l) ≡ s ∷ out_items (list_of q (without_head q l))
  without_items =
      e ∙ ap (λ (xs : List ℕ). s ∷ xs) (sym (ap (λ (x : OutList). out_items x) (list_without q l) ∙ shorter_items (list_of q l) s rest e))

  -- where each slot named exists and stands once
  module _ (x : exist outgoing (used_out l) ≡ true) (o : once (used_out l) ≡ true) where
    -- s stands elsewhere, so sent is not the whole pool
    space : length (out_items l.sent) < outgoing
    space =
        omega (
          arith,
          free_and_named outgoing (used_out l) x o,
          without_sum length length-append q l s rest e,
          used_sum length length-append (without_head q l),
          ap (λ (x : OutList). length (out_items x)) (without_sent q l),
        )

    pub joined_items : out_items (joined q l s).sent ≡ out_items l.sent ++ (s ∷ [])
    joined_items = longer_items l.sent s space

    pub joined_keeps : (k : ℕ) → times (used_out (joined q l s)) k ≡ times (used_out l) k
    joined_keeps k =
        joined_sum (λ (xs : List ℕ). times xs k) (λ xs ys. times_append xs ys k) q l s space
        ∙ without_sum (λ (xs : List ℕ). times xs k) (λ xs ys. times_append xs ys k) q l s rest e

    without_free : has (used_out (without_head q l)) s ≡ false
    without_free =
        let t : one s s ≡ 1 = rw (eq-eqb s s refl) in
        none_times (used_out (without_head q l)) s (omega (arith, without_takes s, once_at_most (used_out l) o s))

    without_room : room_in (without_head q l) ≡ room_in l + 1
    without_room =
        let after = used_out (without_head q l) in
        let fewer : (k : ℕ) → times after k ≤ times (used_out l) k = λ k. omega (arith, without_takes k) in
        omega (
          arith,
          free_and_named outgoing (used_out l) x o,
          free_and_named outgoing after (exist_less (used_out l) after fewer outgoing x) (once_less (used_out l) after fewer o),
          without_sum length length-append q l s rest e,
        )

    joined_room : room_in (joined q l s) ≡ room_in l
    joined_room =
        let after = used_out (joined q l s) in
        omega (
          arith,
          free_and_named outgoing (used_out l) x o,
          free_and_named outgoing after (exist_same after (used_out l) joined_keeps outgoing ∙ x) (once_same after (used_out l) joined_keeps ∙ o),
          joined_sum length length-append q l s space,
          without_sum length length-append q l s rest e,
        )

-- the record after a head that is acknowledged, or is not
abbrev pub sent_by : Bool → Queue → ℕ → Outgoing → Peer → Peer
sent_by b q s o p =
    with_outgoing
    (with_lists
    (with_flow
    (with_loss (with_times p (pick b (timing p.times (out_items p.lists.sent) o) p.times)) (packet_sent p.loss))
    (pick b (carrying p.flow o) p.flow))
    (pick b (joined q p.lists s) (without_head q p.lists)))
    (set p.outgoing s o)

pub sent_by_lem : (q : Queue) (s : ℕ) (o : Outgoing) (p : Peer) → sent_as q s o p ≡ sent_by (is_acknowledged o) q s o p
unfolding sent_as
sent_by_lem q s o p = refl

-- a slot past the pool asks for no acknowledgement
none_acknowledged : acknowledged no_outgoing.command.byte ≡ false
unfolding no_outgoing
none_acknowledged = refl

pub acknowledged_within : (slots : List Outgoing) (s : ℕ) → acknowledged (get_or slots s no_outgoing).command.byte ≡ true → s < length slots
acknowledged_within slots s e = go (ltb s (length slots)) refl
  where
    go : (b : Bool) → ltb s (length slots) ≡ b → s < length slots
    go true t = ltb-true s (length slots) t
    go false t =
        let d = get_or-eq_default slots no_outgoing {n = s} (ltb-false s (length slots) t) in
        let y : false ≡ true = sym none_acknowledged ∙ ap is_acknowledged (sym d) ∙ e in
        let z : ◌≡◌ {A = ℕ} 0 1 = cc in
        absurd (omega arith)

-- what both do: the head leaves its list, the other list and every other slot stay
pub record Leaves (q : Queue) (s : ℕ) (p after : Peer) : Type 0 where
  pub named : out_items (list_of q p.lists) ≡ s ∷ out_items (list_of q after.lists)
  pub same : list_of (other q) after.lists ≡ list_of (other q) p.lists
  pub slots : (k : ℕ) → (k ≡ s → ⊥) → get_or after.outgoing k no_outgoing ≡ get_or p.outgoing k no_outgoing

-- an acknowledged head o of slot s
pub record Joins (q : Queue) (s : ℕ) (o : Outgoing) (p after : Peer) : Type 0 where
  pub moved : Leaves q s p after
  pub sent : out_items after.lists.sent ≡ out_items p.lists.sent ++ (s ∷ [])
  pub holds : get_or after.outgoing s no_outgoing ≡ o
  pub space : room_in after.lists ≡ room_in p.lists

-- another head
pub record Frees (q : Queue) (s : ℕ) (p after : Peer) : Type 0 where
  pub moved : Leaves q s p after
  pub sent : after.lists.sent ≡ p.lists.sent
  pub free : has (used_out after.lists) s ≡ false
  pub space : room_in after.lists ≡ room_in p.lists + 1

module _ (q : Queue) (s time : ℕ) (p : Peer) (h : sound p ≡ true) (e : first (out_items (list_of q p.lists)) ≡ Some s) where
  abbrev rest : List ℕ
  rest = drop 1 (out_items (list_of q p.lists))

  items : out_items (list_of q p.lists) ≡ s ∷ rest
  items = first_cons (out_items (list_of q p.lists)) s e

  goes : (b : Bool) → is_acknowledged (head p s time) ≡ b → (steps_sound q time p).after ≡ sent_by b q s (head p s time) p
  goes b a =
      ap (λ (f : Option ℕ). (steps_from f q time p).after) e
      ∙ sent_by_lem q s (head p s time) p
      ∙ ap (λ (b : Bool). sent_by b q s (head p s time) p) a

  others : (k : ℕ) → (k ≡ s → ⊥) → get_or (set p.outgoing s (head p s time)) k no_outgoing ≡ get_or p.outgoing k no_outgoing
  others k n = get_or-set_other p.outgoing s k (head p s time) no_outgoing n

  pub head_joins : is_acknowledged (head p s time) ≡ true → Joins q s (head p s time) p (steps_sound q time p).after
  head_joins a =
      let w = sound_clauses p h in
      let l = without_head q p.lists in
      let x = longer p.lists.sent s in
      subst (λ (after : Peer). Joins q s (head p s time) p after) (sym (goes true a))
      (record {
        moved =
            record {
              named =
                  without_items q p.lists s rest items
                  ∙ ap (λ (x : OutList). s ∷ out_items x) (sym (list_with_sent q l x));
              same = list_with_sent (other q) l x ∙ list_other q p.lists;
              slots = others;
            };
        sent = joined_items q p.lists s rest items w.exists w.single;
        holds = get_or-set_same p.outgoing s (head p s time) no_outgoing (acknowledged_within p.outgoing s a);
        space = joined_room q p.lists s rest items w.exists w.single;
      })

  pub head_frees : is_acknowledged (head p s time) ≡ false → Frees q s p (steps_sound q time p).after
  head_frees a =
      let w = sound_clauses p h in
      subst (λ (after : Peer). Frees q s p after) (sym (goes false a))
      (record {
        moved = record { named = without_items q p.lists s rest items; same = list_other q p.lists; slots = others };
        sent = without_sent q p.lists;
        free = without_free q p.lists s rest items w.exists w.single;
        space = without_room q p.lists s rest items w.exists w.single;
      })
