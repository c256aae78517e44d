-- C-12: two sound records whose tables are the same, as far as they are written, are the same as documents compare them.
-- The argument: the tables give back every part that counts (crate order, Restored), and what counts is the view; a list's slots are used, so what each of them holds is given back too.
use Prim.Native.Nat.{ℕ, zero, suc, ◌+◌, ◌≤◌, ◌<◌}
use mathlib.Core.Path.{◌≡◌, refl, ap, sym, ◌∙◌}
use mathlib.Core.Bool.{Bool, true, false}
use mathlib.Core.List.{List, [], ◌∷◌, ◌++◌, map}
use native.Mathlib.Omega.{arith}
use lib.Dec.{eqb}
use lib.ListN.{length, get_or, take, get_or-eq_default}
use borrow.Author.Tests.{eq-eqb}
use Rattle.numbers.specs.Pick.{pick}
use Rattle.cells.specs.Runs.{has}
use Rattle.record.specs.Fresh.{no_channel, no_outgoing, no_incoming}
use Rattle.record.specs.Lists.{out_items, in_items}
use Rattle.record.specs.Damage.{below, held}
use Rattle.record.specs.declared.groups.Channel.{Channel}
use Rattle.record.specs.declared.groups.Outgoing.{Outgoing}
use Rattle.record.specs.declared.groups.Incoming.{Incoming}
use Rattle.record.specs.declared.groups.Standing.{Standing}
use Rattle.record.proofs.Keeps.{has_append}
use Rattle.peer.specs.Damage.{sound}
use Rattle.peer.specs.declared.Peer.{Peer}
use Rattle.places.specs.Whole.{sizes, numbers, parts, made, whole}
use Rattle.places.specs.Updates.{channel_at, numbers_of}
use Rattle.places.specs.declared.channels.Numbers.{Numbers}
use Rattle.places.proofs.Sized.{sized}
use Rattle.places.proofs.GroupLaws.{standing_is}
use Rattle.order.specs.Table.{table, nowhere, used_outgoing, used_incoming}
use Rattle.order.specs.declared.Place.{Place}
use Rattle.order.proofs.EntryLaws.{below_or}
use Rattle.order.proofs.Determined.{seen, Named, Before, sound_named, three_same, dispatched_same, held_items_same}
use Rattle.order.proofs.Restored.{own_same, unsequenced_same, waiting_same, marks_same, three_len, dispatched_len_lem, held-len, numbers_same, out_slot_same, in_slot_same}
use Rattle.laws.specs.Same.{ListView, ChannelView, Same, view, out_view, in_view, channel_view}
use Rattle.laws.proofs.SameViews.{Agrees}

-- ---- lists and what their slots hold
or_true : (b t : Bool) → t ≡ true → pick b true t ≡ true
or_true true t e = refl
or_true false t e = e

map_same : {A : Type 0} (f g : ℕ → A) (xs : List ℕ) → ((s : ℕ) → has xs s ≡ true → f s ≡ g s) → map f xs ≡ map g xs
map_same f g [] h = refl
map_same {A} f g (x ∷ xs) h =
    ap (λ (y : A). y ∷ map f xs) (h x (ap (λ (t : Bool). pick t true (has xs x)) (eq-eqb x x refl)))
    ∙ ap (λ (ys : List A). g x ∷ ys) (map_same f g xs (λ (s : ℕ) (e : has xs s ≡ true). h s (or_true (eqb x s) (has xs s) e)))

-- a list's view by its parts
view_eq : {A : Type 0} (m n : ℕ) (xs ys : List ℕ) (f g : ℕ → A) → m ≡ n → xs ≡ ys → ((s : ℕ) → has xs s ≡ true → f s ≡ g s)
    → ◌≡◌ {A = ListView A} (record { len = m; items = xs; slots = map f xs }) (record { len = n; items = ys; slots = map g ys })
view_eq {A} m n xs ys f g e q h =
    ap (λ (k : ℕ). record { len = k; items = xs; slots = map f xs }) e
    ∙ ap (λ (zs : List A). record { len = n; items = xs; slots = zs }) (map_same f g xs h)
    ∙ ap (λ (zs : List ℕ). record { len = n; items = zs; slots = map g zs }) q

-- channels below a count
mapped_same : {A : Type 0} (f g : Channel → A) (n : ℕ) (cs ds : List Channel) → length cs ≡ length ds
    → ((c : ℕ) → c < n → c < length cs → f (get_or cs c no_channel) ≡ g (get_or ds c no_channel)) → map f (take n cs) ≡ map g (take n ds)
mapped_same f g zero cs ds l e = refl
mapped_same f g (suc n) [] [] l e = refl
mapped_same f g (suc n) [] (d ∷ ds) l e = absurd (omega arith)
mapped_same f g (suc n) (c ∷ cs) [] l e = absurd (omega arith)
mapped_same {A} f g (suc n) (c ∷ cs) (d ∷ ds) l e =
    ap (λ (y : A). y ∷ map f (take n cs)) (e 0 (omega arith) (omega arith))
    ∙ ap (λ (ys : List A). g d ∷ ys) (mapped_same f g n cs ds (omega arith) (λ (k : ℕ) (p : k < n) (q : k < length cs). e (suc k) (omega arith) (omega arith)))

held-has : (n : ℕ) (cs : List Channel) (c s : ℕ) → c < n → c < length cs → has (in_items (get_or cs c no_channel).held) s ≡ true → has (held (take n cs)) s ≡ true
unfolding held
held-has zero cs c s p q e = absurd (omega arith)
held-has (suc n) [] c s p q e = absurd (omega arith)
held-has (suc n) (d ∷ cs) zero s p q e =
    has_append (in_items d.held) (held (take n cs)) s ∙ ap (λ (t : Bool). pick t true (has (held (take n cs)) s)) e
held-has (suc n) (d ∷ cs) (suc c) s p q e =
    has_append (in_items d.held) (held (take n cs)) s
    ∙ or_true (has (in_items d.held) s) (has (held (take n cs)) s) (held-has n cs c s (omega arith) (omega arith) e)

channel_eq : (a b : Numbers) (x y : ListView Incoming) → a ≡ b → x ≡ y
    → ◌≡◌ {A = ChannelView}
    (record {
      outgoing_reliable = a.outgoing_reliable;
      outgoing_unreliable = a.outgoing_unreliable;
      incoming_reliable = a.incoming_reliable;
      incoming_unreliable = a.incoming_unreliable;
      held = x;
    })
    (record {
      outgoing_reliable = b.outgoing_reliable;
      outgoing_unreliable = b.outgoing_unreliable;
      incoming_reliable = b.incoming_reliable;
      incoming_unreliable = b.incoming_unreliable;
      held = y;
    })
channel_eq a b x y e f = rw (e, f)

-- every part that counts
pub agrees_same : (p q : Peer) → Agrees p q → Same p q
unfolding view
agrees_same p q a =
    rw (
      a.channels,
      a.sent,
      a.send_reliable,
      a.outgoing,
      a.dispatched,
      a.ids,
      a.standing,
      a.bandwidth,
      a.totals,
      a.times,
      a.loss,
      a.throttling,
      a.limits,
      a.trips,
      a.flow,
      a.unsequenced,
      a.waiting,
      a.marks,
    )

module _ (ws vs : List ℕ) (l : length ws ≡ 1236) (m : length vs ≡ 1236) (n : Named ws 1236) (k : Named vs 1236) (b : Before ws vs 1236) where
  abbrev p : Peer
  p = whole ws

  abbrev q : Peer
  q = whole vs

  -- what a used slot holds, whether or not it exists
  out_held : (s : ℕ) → used_outgoing p s ≡ true → get_or p.outgoing s no_outgoing ≡ get_or q.outgoing s no_outgoing
  out_held s u =
      below_or s 32
      (λ (h : s < 32). out_slot_same ws vs l m b s h u n k)
      (λ (h : 32 ≤ s). get_or-eq_default p.outgoing no_outgoing {n = s} (omega (arith, (sized ws).outgoing)) ∙ sym (get_or-eq_default q.outgoing no_outgoing {n = s} (omega (arith, (sized vs).outgoing))))

  in_held : (s : ℕ) → used_incoming p s ≡ true → get_or p.incoming s no_incoming ≡ get_or q.incoming s no_incoming
  in_held s u =
      below_or s 12
      (λ (h : s < 12). in_slot_same ws vs l m b s h u)
      (λ (h : 12 ≤ s). get_or-eq_default p.incoming no_incoming {n = s} (omega (arith, (sized ws).incoming)) ∙ sym (get_or-eq_default q.incoming no_incoming {n = s} (omega (arith, (sized vs).incoming))))

  -- what a list names is used
  in_sent : (s : ℕ) → has (out_items p.lists.sent) s ≡ true → used_outgoing p s ≡ true
  in_sent s e =
      has_append (out_items p.lists.sent) (out_items p.lists.send_reliable ++ out_items p.lists.outgoing) s
      ∙ ap (λ (t : Bool). pick t true (has (out_items p.lists.send_reliable ++ out_items p.lists.outgoing) s)) e

  in_rest : (s : ℕ) → has (out_items p.lists.send_reliable ++ out_items p.lists.outgoing) s ≡ true → used_outgoing p s ≡ true
  in_rest s e =
      has_append (out_items p.lists.sent) (out_items p.lists.send_reliable ++ out_items p.lists.outgoing) s
      ∙ or_true (has (out_items p.lists.sent) s) (has (out_items p.lists.send_reliable ++ out_items p.lists.outgoing) s) e

  in_reliable : (s : ℕ) → has (out_items p.lists.send_reliable) s ≡ true → used_outgoing p s ≡ true
  in_reliable s e =
      in_rest s
      (has_append (out_items p.lists.send_reliable) (out_items p.lists.outgoing) s ∙ ap (λ (t : Bool). pick t true (has (out_items p.lists.outgoing) s)) e)

  in_outgoing : (s : ℕ) → has (out_items p.lists.outgoing) s ≡ true → used_outgoing p s ≡ true
  in_outgoing s e =
      in_rest s
      (has_append (out_items p.lists.send_reliable) (out_items p.lists.outgoing) s ∙ or_true (has (out_items p.lists.send_reliable) s) (has (out_items p.lists.outgoing) s) e)

  abbrev held_now : List ℕ
  held_now = held (below p.channels p.standing.channels)

  in_dispatched : (s : ℕ) → has (in_items p.lists.dispatched) s ≡ true → used_incoming p s ≡ true
  in_dispatched s e = has_append (in_items p.lists.dispatched) held_now s ∙ ap (λ (t : Bool). pick t true (has held_now s)) e

  in_channel : (c s : ℕ) → c < p.standing.channels → c < length p.channels → has (in_items (channel_at p c).held) s ≡ true → used_incoming p s ≡ true
  in_channel c s h j e =
      has_append (in_items p.lists.dispatched) held_now s
      ∙ or_true (has (in_items p.lists.dispatched) s) (has held_now s) (held-has p.standing.channels p.channels c s h j e)

  -- ---- the views
  abbrev out_of : Peer → ℕ → Outgoing
  out_of r s = get_or r.outgoing s no_outgoing

  abbrev in_of : Peer → ℕ → Incoming
  in_of r s = get_or r.incoming s no_incoming

  sent_view : out_view p.outgoing p.lists.sent ≡ out_view q.outgoing q.lists.sent
  unfolding made parts numbers sizes
  sent_view =
      view_eq p.lists.sent.len q.lists.sent.len (out_items p.lists.sent) (out_items q.lists.sent) (out_of p) (out_of q)
      (three_len ws vs l m b 0 (omega arith)) (three_same ws vs l m 0 1236 (omega arith) (omega arith) b) (λ (s : ℕ) e. out_held s (in_sent s e))

  reliable_view : out_view p.outgoing p.lists.send_reliable ≡ out_view q.outgoing q.lists.send_reliable
  unfolding made parts numbers sizes
  reliable_view =
      view_eq p.lists.send_reliable.len q.lists.send_reliable.len (out_items p.lists.send_reliable) (out_items q.lists.send_reliable) (out_of p) (out_of q)
      (three_len ws vs l m b 1 (omega arith)) (three_same ws vs l m 1 1236 (omega arith) (omega arith) b) (λ (s : ℕ) e. out_held s (in_reliable s e))

  outgoing_view : out_view p.outgoing p.lists.outgoing ≡ out_view q.outgoing q.lists.outgoing
  unfolding made parts numbers sizes
  outgoing_view =
      view_eq p.lists.outgoing.len q.lists.outgoing.len (out_items p.lists.outgoing) (out_items q.lists.outgoing) (out_of p) (out_of q)
      (three_len ws vs l m b 2 (omega arith)) (three_same ws vs l m 2 1236 (omega arith) (omega arith) b) (λ (s : ℕ) e. out_held s (in_outgoing s e))

  dispatched_view : in_view p.incoming p.lists.dispatched ≡ in_view q.incoming q.lists.dispatched
  unfolding made parts numbers sizes
  dispatched_view =
      view_eq p.lists.dispatched.len q.lists.dispatched.len (in_items p.lists.dispatched) (in_items q.lists.dispatched) (in_of p) (in_of q)
      (dispatched_len_lem ws vs l m b) (dispatched_same ws vs l m 1236 (omega arith) b) (λ (s : ℕ) e. in_held s (in_dispatched s e))

  channel_view_lem : (c : ℕ) → c < p.standing.channels → c < length p.channels → channel_view p.incoming (channel_at p c) ≡ channel_view q.incoming (channel_at q c)
  channel_view_lem c h j =
      let g : c < 8 = omega (arith, (sized ws).channels) in
      let f : c < get_or ws 6 0 = omega (arith, ap (λ (s : Standing). s.channels) (standing_is ws)) in
      channel_eq (numbers_of (channel_at p c)) (numbers_of (channel_at q c)) (in_view p.incoming (channel_at p c).held) (in_view q.incoming (channel_at q c).held)
      (numbers_same ws vs l m b c g f)
      (view_eq (channel_at p c).held.len (channel_at q c).held.len (in_items (channel_at p c).held) (in_items (channel_at q c).held) (in_of p) (in_of q)
      (held-len ws vs l m b c g f) (held_items_same ws vs l m c 1236 g (omega arith) f b) (λ (s : ℕ) e. in_held s (in_channel c s h j e)))

  channels_view : map (channel_view p.incoming) (below p.channels p.standing.channels) ≡ map (channel_view q.incoming) (below q.channels q.standing.channels)
  channels_view =
      let i : length p.channels ≡ 8 = (sized ws).channels in
      let j : length q.channels ≡ 8 = (sized vs).channels in
      mapped_same (channel_view p.incoming) (channel_view q.incoming) p.standing.channels p.channels q.channels (i ∙ sym j) channel_view_lem
      ∙ ap (λ (s : Standing). map (channel_view q.incoming) (below q.channels s.channels)) (own_same ws vs l m b).standing

  pub seen_same : Same (whole ws) (whole vs)
  seen_same =
      agrees_same p q
      (record {
        ids = (own_same ws vs l m b).ids;
        standing = (own_same ws vs l m b).standing;
        bandwidth = (own_same ws vs l m b).bandwidth;
        totals = (own_same ws vs l m b).totals;
        times = (own_same ws vs l m b).times;
        loss = (own_same ws vs l m b).loss;
        throttling = (own_same ws vs l m b).throttling;
        limits = (own_same ws vs l m b).limits;
        trips = (own_same ws vs l m b).trips;
        flow = (own_same ws vs l m b).flow;
        unsequenced = unsequenced_same ws vs l m b;
        waiting = waiting_same ws vs l m b;
        marks = marks_same ws vs l m b;
        sent = sent_view;
        send_reliable = reliable_view;
        outgoing = outgoing_view;
        dispatched = dispatched_view;
        channels = channels_view;
      })

pub same_table : (ws vs : List ℕ) → length ws ≡ 1236 → length vs ≡ 1236 → sound (whole ws) ≡ true → sound (whole vs) ≡ true → table (whole ws) ≡ table (whole vs)
    → Same (whole ws) (whole vs)
same_table ws vs l m s t e =
    seen_same ws vs l m (sound_named ws s 1236) (sound_named vs t 1236)
    (λ (k : ℕ) (h : k < 1236). ap (λ (es : List Place). seen (get_or es k nowhere)) e)
