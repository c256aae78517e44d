-- What a step on the lent record makes of it: each change is the rule's group, and the changes one after the other are the rule's record.
-- The argument: what was read is the record's own and what was written its update, so each change is one equation; the rule's choices are settled by it.
use Rattle.std.specs.Prelude.{Option}
use Rattle.std.proofs.Common.{◌≡◌, ℕ, Bool, true, false, length, get_or, set, sym, refl, ap, ◌∙◌}
use Rattle.numbers.specs.Pick.{pick}
use Rattle.numbers.specs.Modulo.{sum}
use Rattle.cells.specs.Runs.{first, is_empty, without}
use Rattle.cells.proofs.Views.{empty_none, empty_some}
use Rattle.record.specs.Lists.{out_items, out_keep}
use Rattle.record.specs.declared.outgoing.OutList.{OutList}
use Rattle.record.specs.Fresh.{no_outgoing}
use Rattle.record.specs.Updates.{with_next_timeout, with_sent_list, with_attempt, longer}
use Rattle.record.specs.declared.groups.Times.{Times}
use Rattle.record.specs.declared.groups.Loss.{Loss}
use Rattle.record.specs.declared.groups.Trips.{Trips}
use Rattle.record.specs.declared.groups.Flow.{Flow}
use Rattle.record.specs.declared.groups.Lists.{Lists}
use Rattle.record.specs.declared.groups.Outgoing.{Outgoing}
use Rattle.peer.specs.Updates.{with_times, with_loss, with_flow, with_lists, with_outgoing, renewed}
use Rattle.peer.specs.declared.Peer.{Peer}
use Rattle.queues.specs.Queues.{out_of, put_out}
use Rattle.queues.specs.declared.Out.{Out}
use Rattle.queues.specs.declared.Out.TheVariants as out
use Rattle.send_step.specs.Steps.{list_of, without_head, is_acknowledged, attempted, packet_sent, lists_sent, flow_sent, timing, times_sent, head}
use Rattle.send_step.specs.Names.{out_for}
use Rattle.send_step.specs.declared.heads.Queue.{Queue}
use Rattle.send_step.specs.declared.heads.Queue.TheVariants as queue
use Rattle.send_step.proofs.Freeing.{joined, without_sent}

-- the head, by the list's name
list_is : (q : Queue) (l : Lists) → out_of (out_for q) l ≡ list_of q l
list_is queue.Outgoing l = refl
list_is queue.Reliable l = refl

module _ (p : Peer) where
  pub first_is : (q : Queue) (n : Out) (f : Option ℕ) → n ≡ out_for q → f ≡ first (out_items (out_of n p.lists)) → f ≡ first (out_items (list_of q p.lists))
  first_is q n f e z =
      z
      ∙ ap (λ (x : Out). first (out_items (out_of x p.lists))) e
      ∙ ap (λ (l : OutList). first (out_items l)) (list_is q p.lists)

  -- the slot
  module _ (s time : ℕ) (o : Outgoing) where
    pub attempt_out : (slot : Outgoing) (trips : Trips) → slot ≡ get_or p.outgoing s no_outgoing → trips ≡ p.trips → o ≡ attempted slot trips time
        → o ≡ head p s time
    attempt_out slot trips a b e =
        e
        ∙ ap (λ (x : Outgoing). attempted x trips time) a
        ∙ ap (λ (t : Trips). attempted (get_or p.outgoing s no_outgoing) t time) b

    pub attempt_kept : (y : Peer) → o ≡ head p s time
        → y ≡ with_outgoing p (set p.outgoing s (with_attempt (get_or p.outgoing s no_outgoing) o.sent o.timeout o.attempts))
        → y ≡ with_outgoing p (set p.outgoing s o)
    attempt_kept y a z =
        z
        ∙ ap (λ (x : Outgoing). with_outgoing p (set p.outgoing s (with_attempt (get_or p.outgoing s no_outgoing) x.sent x.timeout x.attempts))) a
        ∙ ap (λ (x : Outgoing). with_outgoing p (set p.outgoing s x)) (sym a)

  -- the peer's numbers
  pub counted : (y : Peer) (old new : Loss) → old ≡ p.loss → new ≡ packet_sent old → y ≡ with_loss p new → y ≡ with_loss p (packet_sent p.loss)
  counted y old new a b z = z ∙ ap (with_loss p) (b ∙ ap packet_sent a)

  pub carried : (y : Peer) (old new : Flow) (o : Outgoing) → old ≡ p.flow → new ≡ flow_sent old o → y ≡ with_flow p new → y ≡ with_flow p (flow_sent p.flow o)
  carried y old new o a b z = z ∙ ap (with_flow p) (b ∙ ap (λ (f : Flow). flow_sent f o) a)

  module _ (o : Outgoing) (n : ℕ) (c : n ≡ length (out_items p.lists.sent)) where
    abbrev timed : Bool → Bool → Peer
    timed a e = with_times p (pick a (with_next_timeout p.times (pick e (sum 32 o.sent o.timeout) p.times.next_timeout)) p.times)

    settled : (a e : Bool) → is_acknowledged o ≡ a → is_empty (out_items p.lists.sent) ≡ e
        → timed a e ≡ with_times p (times_sent p.times (out_items p.lists.sent) o)
    settled a e x y = ap (λ (b : Bool). timed b e) (sym x) ∙ ap (timed (is_acknowledged o)) (sym y)

    pub timed_old : is_acknowledged o ≡ true → (n ≡ 0 → ⊥) → p ≡ with_times p (times_sent p.times (out_items p.lists.sent) o)
    timed_old a z = settled true false a (empty_some (out_items p.lists.sent) (λ e. z (c ∙ e)))

    pub timed_new : is_acknowledged o ≡ true → n ≡ 0 → (y : Peer) (t : Times) (r : ℕ) → t ≡ p.times → r ≡ sum 32 o.sent o.timeout
        → y ≡ with_times p (with_next_timeout t r) → y ≡ with_times p (times_sent p.times (out_items p.lists.sent) o)
    timed_new a z y t r e f g =
        g
        ∙ ap (λ (x : ℕ). with_times p (with_next_timeout t x)) f
        ∙ ap (λ (x : Times). with_times p (with_next_timeout x (sum 32 o.sent o.timeout))) e
        ∙ settled true true a (empty_none (out_items p.lists.sent) (sym c ∙ z))

  pub untimed : (o : Outgoing) → is_acknowledged o ≡ false → p ≡ with_times p (times_sent p.times (out_items p.lists.sent) o)
  untimed o a = ap (λ (b : Bool). with_times p (pick b (timing p.times (out_items p.lists.sent) o) p.times)) (sym a)

  -- the lists
  left : (q : Queue)
      → put_out (out_for q) p (out_keep (out_of (out_for q) p.lists) (without (out_items (out_of (out_for q) p.lists)) 0)) ≡ with_lists p (without_head q p.lists)
  left queue.Outgoing = refl
  left queue.Reliable = refl

  module _ (q : Queue) (s : ℕ) (o : Outgoing) (n : Out) (e : n ≡ out_for q) (y : Peer)
      (z : y ≡ put_out n p (out_keep (out_of n p.lists) (without (out_items (out_of n p.lists)) 0))) where
    gone : y ≡ with_lists p (without_head q p.lists)
    gone = z ∙ ap (λ (x : Out). put_out x p (out_keep (out_of x p.lists) (without (out_items (out_of x p.lists)) 0))) e ∙ left q

    pub freed : is_acknowledged o ≡ false → y ≡ with_lists p (lists_sent q p.lists s o)
    freed a = gone ∙ ap (λ (b : Bool). with_lists p (pick b (joined q p.lists s) (without_head q p.lists))) (sym a)

    pub moved : (x : Peer) → is_acknowledged o ≡ true → x ≡ put_out out.Sent y (longer (out_of out.Sent y.lists) s)
        → x ≡ with_lists p (lists_sent q p.lists s o)
    moved x a w =
        w
        ∙ ap (λ (k : Peer). with_lists k (with_sent_list k.lists (longer k.lists.sent s))) gone
        ∙ ap (λ (l : OutList). with_lists p (with_sent_list (without_head q p.lists) (longer l s))) (without_sent q p.lists)
        ∙ ap (λ (b : Bool). with_lists p (pick b (joined q p.lists s) (without_head q p.lists))) (sym a)

-- the changes one after the other
pub stepped : (p v w x y z : Peer) (q : Queue) (s : ℕ) (o : Outgoing) → v ≡ with_outgoing p (set p.outgoing s o) → w ≡ with_loss v (packet_sent v.loss)
    → x ≡ with_times w (times_sent w.times (out_items w.lists.sent) o) → y ≡ with_flow x (flow_sent x.flow o) → z ≡ with_lists y (lists_sent q y.lists s o)
    → z ≡ renewed p p.standing p.totals (times_sent p.times (out_items p.lists.sent) o) (packet_sent p.loss) (flow_sent p.flow o)
    (lists_sent q p.lists s o) p.unsequenced p.waiting p.channels (set p.outgoing s o)
stepped p v w x y z q s o a b c d e =
    e
    ∙ ap (λ (k : Peer). with_lists k (lists_sent q k.lists s o))
    (d
    ∙ ap (λ (k : Peer). with_flow k (flow_sent k.flow o))
    (c
    ∙ ap (λ (k : Peer). with_times k (times_sent k.times (out_items k.lists.sent) o))
    (b ∙ ap (λ (k : Peer). with_loss k (packet_sent k.loss)) a)))
