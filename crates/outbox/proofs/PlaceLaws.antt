-- Setting up on the lent record: what the code changes in its places is what the outbox with its lists has, and the record's other groups stay.
-- The argument: each record on the way is a variable with an equation; the definitions compute.
use Rattle.std.specs.Prelude.{None, Option, Some}
use Rattle.std.proofs.Common.{◌≡◌, ℕ, ◌+◌, ◌<◌, ◌≤◌, min, true, List, ◌++◌, length, set, sym, refl, ap, ◌∙◌, subst, arith, length-append}
use lib.ListN.{get_or-eq_default}
use lib.Seq.{set_out}
use Rattle.numbers.specs.Modulo.{sum}
use Rattle.cells.specs.Free.{is_marked, first_from, nameable}
use Rattle.cells.proofs.Lowest.{first_exists, free_and_named}
use Rattle.record.specs.Lists.{outgoing, out_items}
use Rattle.record.specs.Room.{room_in}
use Rattle.record.specs.Damage.{used_out}
use Rattle.record.specs.Sizes.{channels}
use Rattle.record.specs.Fresh.{no_channel}
use Rattle.record.specs.Updates.{with_reliable, with_outgoing_group, with_outgoing_total, with_queued}
use Rattle.record.specs.declared.groups.Flow.{Flow}
use Rattle.record.specs.declared.groups.Totals.{Totals}
use Rattle.record.specs.declared.groups.Waiting.{Waiting}
use Rattle.record.specs.declared.groups.Outgoing.{Outgoing}
use Rattle.peer.specs.Damage.{sound}
use Rattle.peer.specs.Sounds.{Whole}
use Rattle.peer.specs.Updates.{with_totals, with_waiting, with_flow, with_lists, with_unsequenced, with_channels, with_outgoing}
use Rattle.peer.specs.declared.Peer.{Peer}
use Rattle.peer.proofs.Clauses.{sound_clauses}
use Rattle.outbox.specs.Counting.{channel_at, numbered, stamped}
use Rattle.outbox.specs.Pieces.{slot_of, lists_with}
use Rattle.outbox.specs.CodeOutboxes.{queueing_in, queueing}
use Rattle.outbox.specs.CodePlaces.{in_lists, placed, queued_by, recounted, closed}
use Rattle.outbox.specs.declared.counting.Counters.{Counters}
use Rattle.outbox.specs.declared.counting.Stamped.{Stamped}
use Rattle.outbox.specs.declared.pieces.Piece.{Piece}
use Rattle.outbox.specs.CodeOutboxes.{Queued}
use Rattle.outbox.specs.declared.Outbox as lent

-- ---- the counters, off the record and back
module _ (p : Peer) (w : Whole p) (channel : ℕ) (past : channels ≤ channel) where
  pub none_there : channel_at p.channels channel ≡ no_channel
  none_there = get_or-eq_default p.channels no_channel {n = channel} (omega (arith, past, w.channels))

  pub numbered_past : (k : Counters) → numbered p.channels channel k ≡ p.channels
  numbered_past k = set_out p.channels channel _ (omega (arith, past, w.channels))

-- f is the flow as the code read it; v and w are the record with the own number back, then with the group
module _ (p v w : Peer) (f : Flow) (k : Counters) (fe : f ≡ p.flow) (ve : v ≡ with_flow p (with_reliable f k.own))
    (we : w ≡ with_unsequenced v (with_outgoing_group v.unsequenced k.group)) where
  abbrev both : Peer
  both = with_unsequenced (with_flow p (with_reliable p.flow k.own)) (with_outgoing_group p.unsequenced k.group)

  two_back : w ≡ both
  two_back = we ∙ ap (λ (y : Peer). with_unsequenced y (with_outgoing_group y.unsequenced k.group)) (ve ∙ ap (λ (f : Flow). with_flow p (with_reliable f k.own)) fe)

  pub recounted_past : Whole p → (channel : ℕ) → channels ≤ channel → w ≡ recounted p channel k
  recounted_past s channel past = two_back ∙ ap (with_channels both) (sym (numbered_past p s channel past k))

  pub recounted_here : (channel : ℕ) (x : Peer) → x ≡ with_channels w (numbered w.channels channel k) → x ≡ recounted p channel k
  recounted_here channel x xe = xe ∙ ap (λ (y : Peer). with_channels y (numbered y.channels channel k)) two_back

-- the total, then the host count, then the counters
pub closed_is : (p v w x : Peer) (channel : ℕ) (o : lent.Outbox) (t : Totals) (h : Waiting) → t ≡ p.totals → v ≡ with_totals p (with_outgoing_total t o.total)
    → h ≡ v.waiting → w ≡ with_waiting v (with_queued h o.queued) → x ≡ recounted w channel o.counters → x ≡ closed p channel o
closed_is p v w x channel o t h te ve he we xe =
    xe
    ∙ ap (λ (y : Peer). recounted y channel o.counters)
    (we
    ∙ ap (λ (h : Waiting). with_waiting v (with_queued h o.queued)) he
    ∙ ap (λ (y : Peer). with_waiting y (with_queued y.waiting o.queued)) (ve ∙ ap (λ (t : Totals). with_totals p (with_outgoing_total t o.total)) te))

-- ---- a piece set up: o, its marks and p become r, other marks and y as the outbox with its lists has it
abbrev pub Sets : Peer → lent.Outbox → List ℕ → Piece → lent.Outbox → List ℕ → Peer → Type 0
Sets p o marks x r after y =
    (in_lists r after (queueing (in_lists o marks p.lists) x).outbox.lists ≡ (queueing (in_lists o marks p.lists) x).outbox)
    × (y ≡ queued_by p (queueing (in_lists o marks p.lists) x))

-- f is the lowest slot without a mark, as the code found it
module _ (marks : List ℕ) (long : length marks ≡ outgoing) (f : Option ℕ) (fe : f ≡ first_from (is_marked marks) (min (length marks) nameable) 0) where
  found_is : f ≡ first_from (is_marked marks) outgoing 0
  found_is = rw long at fe

  pub found_exists : (s : ℕ) → f ≡ Some s → s < length marks
  found_exists s e = rw long (first_exists (is_marked marks) outgoing s (sym found_is ∙ e))

  module _ (p : Peer) (o : lent.Outbox) (x : Piece) where
    abbrev By : lent.Outbox → List ℕ → Peer → Queued → Type 0
    By r after y q = (in_lists r after q.outbox.lists ≡ q.outbox) × (y ≡ queued_by p q)

    queueing_is : (g : Option ℕ) → f ≡ g → queueing (in_lists o marks p.lists) x ≡ queueing_in g (in_lists o marks p.lists) x
    queueing_is g e = ap (λ (f : Option ℕ). queueing_in f (in_lists o marks p.lists) x) (sym found_is ∙ e)

    pub sets_none : Whole p → f ≡ None → Sets p o marks x o marks p
    sets_none s e =
        subst (By o marks p) (sym (queueing_is None e)) (refl, ap (with_outgoing p) (sym (set_out p.outgoing outgoing _ (omega (arith, s.outgoing)))))

    -- t is how the command was stamped; v and y are the record with its list, then with its slot
    pub sets_one : (s : ℕ) → f ≡ Some s → (t : Stamped) → t ≡ stamped x.command.byte x.command.channel x.offset o.counters → (n : ℕ)
        → n ≡ sum 32 o.queued 1 → (slot : Outgoing) → slot ≡ slot_of x t n → (v y : Peer) → v ≡ with_lists p (lists_with p.lists x s)
        → y ≡ with_outgoing v (set v.outgoing s slot) → (r : lent.Outbox) → r ≡ placed o x t.counters → Sets p o marks x r (set marks s 1) y
    sets_one s e t te n ne slot se v y ve ye r re =
        subst (By r (set marks s 1) y) (sym (queueing_is (Some s) e))
        (rw (re, te), ye ∙ ap (λ (y : Peer). with_outgoing y (set y.outgoing s slot)) ve ∙ rw (se, te, ne))

-- ---- the free slots of a sound record: with what the three lists name they are the whole pool; a, b and c are the lists' lengths
pub room_left : (p : Peer) → sound p ≡ true → (a b c : ℕ) → a ≡ length (out_items p.lists.sent) → b ≡ length (out_items p.lists.send_reliable)
    → c ≡ length (out_items p.lists.outgoing) → room_in p.lists + (a + (b + c)) ≡ outgoing
room_left p good a b c ae be ce =
    let k = sound_clauses p good in
    let l = p.lists in
    rw (ae, be, ce)
    (rw (length-append (out_items l.sent) (out_items l.send_reliable ++ out_items l.outgoing), length-append (out_items l.send_reliable) (out_items l.outgoing))
    at (free_and_named outgoing (used_out l) k.exists k.single))
