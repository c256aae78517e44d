-- Two records that are the same, taken apart: their groups, what their lists name, and their pools on the slots named; and put together again.
-- The argument: a view is a shape, the view on an empty pool, filled with what the pool holds; and maps over a list are equal where the functions
-- agree on each slot that it names.
use mathlib.Core.Path.{◌≡◌, refl, ap, ap₂, sym, subst, ◌∙◌}
use mathlib.Core.Bool.{Bool, true, false}
use mathlib.Core.List.{List, [], ◌∷◌, ◌++◌, map, map-append}
use Prim.Native.Nat.{ℕ, zero, suc, ◌+◌, ◌≤◌, ◌<◌}
use native.Mathlib.Omega.{arith}
use lib.Dec.{eqb, ltb}
use lib.ListN.{length, take, drop, get_or, set, length-take, get_or-map}
use lib.Seq.{get_or-set_same, get_or-set_other, set_out, take-set-lt, take-set-le, get_or-take}
use borrow.Author.Tests.{eqb-true, eqb-false, eq-eqb, ltb-true, ltb-false}
use Rattle.numbers.specs.Pick.{pick}
use Rattle.record.specs.Lists.{out_items, in_items, out_keep, in_keep}
use Rattle.record.specs.declared.outgoing.OutList.{OutList}
use Rattle.record.specs.declared.incoming.InList.{InList}
use Rattle.record.proofs.Views.{out_items_keep, in_items_keep}
use Rattle.record.proofs.Keeps.{one, times, times_append}
use Rattle.record.specs.Fresh.{no_outgoing, no_incoming, no_channel}
use Rattle.record.specs.Damage.{below, held, used_out, used_in}
use Rattle.record.specs.declared.groups.Lists.{Lists}
use Rattle.record.specs.declared.groups.Channel.{Channel}
use Rattle.record.specs.declared.groups.Outgoing.{Outgoing}
use Rattle.record.specs.declared.groups.Incoming.{Incoming}
use Rattle.peer.specs.declared.Peer.{Peer}
use Rattle.laws.specs.Same.{ListView, ChannelView, Same, view, out_view, in_view, channel_view}
use Rattle.laws.proofs.SameViews.{Agrees, same_agrees, held_items, held_slots, held_items_lem, arrivals_are}

-- ---- pools that agree on the slots named
abbrev pub Agree : {A : Type 0} → A → List ℕ → List A → List A → Type 0
Agree d xs a b = (s : ℕ) → 0 < times xs s → get_or a s d ≡ get_or b s d

pub named_first : (x : ℕ) (xs : List ℕ) → 0 < times (x ∷ xs) x
named_first x xs = rw (eq-eqb x x refl) (omega arith)

pub map_agree : {A : Type 0} (f g : ℕ → A) (xs : List ℕ) → ((s : ℕ) → 0 < times xs s → f s ≡ g s) → map f xs ≡ map g xs
map_agree f g [] h = refl
map_agree {A} f g (x ∷ xs) h =
    ap₂ (λ (k : A) (ks : List A). k ∷ ks) (h x (named_first x xs)) (map_agree f g xs (λ s p. h s (omega (arith, p))))

pub agree_map : {A : Type 0} (f g : ℕ → A) (xs : List ℕ) → map f xs ≡ map g xs → (s : ℕ) → 0 < times xs s → f s ≡ g s
agree_map f g [] e s h = absurd (omega (arith, h))
agree_map {A} f g (x ∷ xs) e s h = go (agree_map f g xs (ap (drop 1) e) s) (eqb x s) refl h
  where
    go : (0 < times xs s → f s ≡ g s) → (b : Bool) → eqb x s ≡ b → 0 < pick b 1 0 + times xs s → f s ≡ g s
    go rest true t k = subst (λ (y : ℕ). f y ≡ g y) (eqb-true x s t) (ap (λ (l : List A). get_or l 0 (f x)) e)
    go rest false t k = rest (omega (arith, k))

module _ {A : Type 0} (d : A) (xs : List ℕ) (a b : List A) (h : Agree d xs a b) where
  -- on a list that names nothing else
  pub agree_less : (ys : List ℕ) → ((s : ℕ) → 0 < times ys s → 0 < times xs s) → Agree d ys a b
  agree_less ys less s k = h s (less s k)

  -- a slot written alike in both
  pub agree_new : (n : ℕ) (v w : A) → n < length a → n < length b → v ≡ w → Agree d (n ∷ xs) (set a n v) (set b n w)
  agree_new n v w here there e s k = go (eqb n s) refl k
    where
      go : (c : Bool) → eqb n s ≡ c → 0 < pick c 1 0 + times xs s → get_or (set a n v) s d ≡ get_or (set b n w) s d
      go true t j =
          subst (λ (y : ℕ). get_or (set a n v) y d ≡ get_or (set b n w) y d) (eqb-true n s t)
          (get_or-set_same a n v d here ∙ e ∙ sym (get_or-set_same b n w d there))
      go false t j =
          get_or-set_other a n s v d (λ z. eqb-false n s t (sym z)) ∙ h s (omega (arith, j)) ∙ sym (get_or-set_other b n s w d (λ z. eqb-false n s t (sym z)))

  -- in pools as long as each other the slot may be any
  pub agree_set : (n : ℕ) (v w : A) → length a ≡ length b → v ≡ w → Agree d xs (set a n v) (set b n w)
  agree_set n v w long e = go (ltb n (length a)) refl
    where
      go : (c : Bool) → ltb n (length a) ≡ c → Agree d xs (set a n v) (set b n w)
      go true t s k = let here = ltb-true n (length a) t in agree_new n v w here (subst (λ (m : ℕ). n < m) long here) e s (omega (arith, k))
      go false t s k =
          let past = ltb-false n (length a) t in
          ap (λ (l : List A). get_or l s d) (set_out a n v past) ∙ h s k
          ∙ sym (ap (λ (l : List A). get_or l s d) (set_out b n w (subst (λ (m : ℕ). m ≤ n) long past)))

-- a slot more, which was named before
pub named_with : (xs ys : List ℕ) (n : ℕ) → 0 < times xs n → (s : ℕ) → times ys s ≤ one n s + times xs s → 0 < times ys s → 0 < times xs s
named_with xs ys n h s more k = go (eqb n s) refl more
  where
    go : (b : Bool) → eqb n s ≡ b → times ys s ≤ pick b 1 0 + times xs s → 0 < times xs s
    go true t m = subst (λ (y : ℕ). 0 < times xs y) (eqb-true n s t) h
    go false t m = omega (arith, k, m)

-- ---- shapes: views on an empty pool, and what fills them
abbrev pub out_filled : List Outgoing → ListView Outgoing → ListView Outgoing
out_filled slots v = record { len = v.len; items = v.items; slots = map (λ (s : ℕ). get_or slots s no_outgoing) v.items }

abbrev pub in_filled : List Incoming → ListView Incoming → ListView Incoming
in_filled slots v = record { len = v.len; items = v.items; slots = map (λ (s : ℕ). get_or slots s no_incoming) v.items }

abbrev pub channel_filled : List Incoming → ChannelView → ChannelView
channel_filled slots c =
    record {
      outgoing_reliable = c.outgoing_reliable;
      outgoing_unreliable = c.outgoing_unreliable;
      incoming_reliable = c.incoming_reliable;
      incoming_unreliable = c.incoming_unreliable;
      held = in_filled slots c.held;
    }

abbrev pub out_shape : OutList → ListView Outgoing
out_shape l = out_view [] l

abbrev pub in_shape : InList → ListView Incoming
in_shape l = in_view [] l

abbrev pub channel_shape : Channel → ChannelView
channel_shape c = channel_view [] c

pub channels_filled : (i j : List Incoming) (cs : List Channel) → map (channel_view j) cs ≡ map (channel_filled j) (map (channel_view i) cs)
channels_filled i j [] = refl
channels_filled i j (c ∷ cs) = ap (λ (vs : List ChannelView). channel_view j c ∷ vs) (channels_filled i j cs)

-- a shape by its length and what the list names
abbrev pub out_named : ℕ → List ℕ → ListView Outgoing
out_named n xs = record { len = n; items = xs; slots = map (λ (s : ℕ). get_or [] s no_outgoing) xs }

abbrev pub in_named : ℕ → List ℕ → ListView Incoming
in_named n xs = record { len = n; items = xs; slots = map (λ (s : ℕ). get_or [] s no_incoming) xs }

-- of a list that was kept, it is that of what the list was given
pub out_kept : (l m : OutList) (xs ys : List ℕ) → xs ≡ ys → out_shape (out_keep l xs) ≡ out_shape (out_keep m ys)
out_kept l m xs ys e =
    ap (out_named (length xs)) (out_items_keep l xs) ∙ ap (λ (zs : List ℕ). out_named (length zs) zs) e ∙ sym (ap (out_named (length ys)) (out_items_keep m ys))

pub in_kept : (l m : InList) (xs ys : List ℕ) → xs ≡ ys → in_shape (in_keep l xs) ≡ in_shape (in_keep m ys)
in_kept l m xs ys e =
    ap (in_named (length xs)) (in_items_keep l xs) ∙ ap (λ (zs : List ℕ). in_named (length zs) zs) e ∙ sym (ap (in_named (length ys)) (in_items_keep m ys))

pub out_items_lem : (l m : OutList) → out_shape l ≡ out_shape m → out_items l ≡ out_items m
out_items_lem l m e = ap (λ (v : ListView Outgoing). v.items) e

pub in_items_lem : (l m : InList) → in_shape l ≡ in_shape m → in_items l ≡ in_items m
in_items_lem l m e = ap (λ (v : ListView Incoming). v.items) e

-- ---- lists and channels of two records that are shaped alike
pub record Lined (l m : Lists) : Type 0 where
  pub sent : out_shape l.sent ≡ out_shape m.sent
  pub send_reliable : out_shape l.send_reliable ≡ out_shape m.send_reliable
  pub outgoing : out_shape l.outgoing ≡ out_shape m.outgoing
  pub dispatched : in_shape l.dispatched ≡ in_shape m.dispatched

abbrev pub Ranked : List Channel → List Channel → Type 0
Ranked cs ds = map channel_shape cs ≡ map channel_shape ds

pub lined_used : (l m : Lists) → Lined l m → used_out l ≡ used_out m
lined_used l m e =
    ap₂ (λ (xs ys : List ℕ). xs ++ ys) (out_items_lem l.sent m.sent e.sent)
    (ap₂ (λ (xs ys : List ℕ). xs ++ ys) (out_items_lem l.send_reliable m.send_reliable e.send_reliable) (out_items_lem l.outgoing m.outgoing e.outgoing))

pub ranked_held : (cs ds : List Channel) → Ranked cs ds → held cs ≡ held ds
ranked_held cs ds e = held_items_lem [] cs ∙ ap held_items e ∙ sym (held_items_lem [] ds)

pub lined_named : (l m : Lists) (cs ds : List Channel) → Lined l m → Ranked cs ds → used_in l cs ≡ used_in m ds
lined_named l m cs ds e c =
    ap₂ (λ (xs ys : List ℕ). xs ++ ys) (in_items_lem l.dispatched m.dispatched e.dispatched) (ranked_held cs ds c)

-- another channel at a place
map-set : {A B : Type 0} (f : A → B) (xs : List A) (i : ℕ) (x : A) → map f (set xs i x) ≡ set (map f xs) i (f x)
map-set f [] i x = refl
map-set f (y ∷ ys) zero x = refl
map-set {A} {B} f (y ∷ ys) (suc i) x = ap (λ (zs : List B). f y ∷ zs) (map-set f ys i x)

take-set : {A : Type 0} (n : ℕ) (xs : List A) (i : ℕ) (x : A) → take n (set xs i x) ≡ set (take n xs) i x
take-set {A} n xs i x = go (ltb i n) refl
  where
    go : (b : Bool) → ltb i n ≡ b → take n (set xs i x) ≡ set (take n xs) i x
    go true t = take-set-lt n xs i x (ltb-true i n t)
    go false t =
        take-set-le n xs i x (ltb-false i n t)
        ∙ sym (set_out (take n xs) i x (let e = length-take n xs in omega (arith, e, ltb-false i n t)))

pub ranked_set : (cs ds : List Channel) (count : ℕ) (i : ℕ) (c d : Channel) → Ranked (below cs count) (below ds count) → channel_shape c ≡ channel_shape d
    → Ranked (below (set cs i c) count) (below (set ds i d) count)
ranked_set cs ds count i c d e f =
    by cs c ∙ ap₂ (λ (vs : List ChannelView) (v : ChannelView). set vs i v) e f ∙ sym (by ds d)
  where
    by : (es : List Channel) (x : Channel) → map channel_shape (below (set es i x) count) ≡ set (map channel_shape (below es count)) i (channel_shape x)
    by es x = ap (map channel_shape) (take-set count es i x) ∙ map-set channel_shape (below es count) i x

-- and the one at a place that counts
pub ranked_at : (cs ds : List Channel) (count i : ℕ) → Ranked (below cs count) (below ds count) → i < count
    → channel_shape (get_or cs i no_channel) ≡ channel_shape (get_or ds i no_channel)
ranked_at cs ds count i e h = sym (by cs) ∙ ap (λ (vs : List ChannelView). get_or vs i (channel_shape no_channel)) e ∙ by ds
  where
    by : (es : List Channel) → get_or (map channel_shape (below es count)) i (channel_shape no_channel) ≡ channel_shape (get_or es i no_channel)
    by es = get_or-map channel_shape (below es count) i no_channel ∙ ap channel_shape (get_or-take count es i no_channel h)

-- ---- the parts of two records that are the same, but for the incoming pool
pub record Like (p q : Peer) : Type 0 where
  pub ids : p.ids ≡ q.ids
  pub standing : p.standing ≡ q.standing
  pub bandwidth : p.bandwidth ≡ q.bandwidth
  pub totals : p.totals ≡ q.totals
  pub times : p.times ≡ q.times
  pub loss : p.loss ≡ q.loss
  pub throttling : p.throttling ≡ q.throttling
  pub limits : p.limits ≡ q.limits
  pub trips : p.trips ≡ q.trips
  pub flow : p.flow ≡ q.flow
  pub unsequenced : p.unsequenced ≡ q.unsequenced
  pub waiting : p.waiting ≡ q.waiting
  pub marks : p.marks ≡ q.marks
  pub lists : Lined p.lists q.lists
  pub channels : Ranked (below p.channels p.standing.channels) (below q.channels q.standing.channels)
  pub outs : Agree no_outgoing (used_out p.lists) p.outgoing q.outgoing

-- the slots of the incoming pool that a record's lists name
abbrev pub named : Peer → List ℕ
named p = used_in p.lists (below p.channels p.standing.channels)

-- and there
abbrev pub Within : Peer → Peer → Type 0
Within p q = Agree no_incoming (named p) p.incoming q.incoming

used_map : {A : Type 0} (f : ℕ → A) (xs ys zs : List ℕ) → map f (xs ++ (ys ++ zs)) ≡ map f xs ++ (map f ys ++ map f zs)
used_map {A} f xs ys zs = map-append f xs (ys ++ zs) ∙ ap (λ (l : List A). map f xs ++ l) (map-append f ys zs)

module _ (p q : Peer) (e : Same p q) where
  abbrev a : Agrees p q
  a = same_agrees p q e

  pub same_like : Like p q
  same_like =
      record {
        ids = a.ids;
        standing = a.standing;
        bandwidth = a.bandwidth;
        totals = a.totals;
        times = a.times;
        loss = a.loss;
        throttling = a.throttling;
        limits = a.limits;
        trips = a.trips;
        flow = a.flow;
        unsequenced = a.unsequenced;
        waiting = a.waiting;
        marks = a.marks;
        lists = lined;
        channels = ranked;
        outs = outs;
      }
    where
      lined : Lined p.lists q.lists
      lined =
          record {
            sent = ap (out_filled []) a.sent;
            send_reliable = ap (out_filled []) a.send_reliable;
            outgoing = ap (out_filled []) a.outgoing;
            dispatched = ap (in_filled []) a.dispatched;
          }

      ranked : Ranked (below p.channels p.standing.channels) (below q.channels q.standing.channels)
      ranked =
          channels_filled p.incoming [] (below p.channels p.standing.channels) ∙ ap (map (channel_filled [])) a.channels
          ∙ sym (channels_filled q.incoming [] (below q.channels q.standing.channels))

      held_out : (r : Peer) → map (λ (s : ℕ). get_or r.outgoing s no_outgoing) (used_out r.lists)
          ≡ (out_view r.outgoing r.lists.sent).slots ++ ((out_view r.outgoing r.lists.send_reliable).slots ++ (out_view r.outgoing r.lists.outgoing).slots)
      held_out r = used_map (λ (s : ℕ). get_or r.outgoing s no_outgoing) (out_items r.lists.sent) (out_items r.lists.send_reliable) (out_items r.lists.outgoing)

      outs : Agree no_outgoing (used_out p.lists) p.outgoing q.outgoing
      outs =
          agree_map (λ (s : ℕ). get_or p.outgoing s no_outgoing) (λ (s : ℕ). get_or q.outgoing s no_outgoing) (used_out p.lists)
          (held_out p
          ∙ ap₂ (λ (vs ws : List Outgoing). vs ++ ws) (ap (λ (v : ListView Outgoing). v.slots) a.sent)
          (ap₂ (λ (vs ws : List Outgoing). vs ++ ws) (ap (λ (v : ListView Outgoing). v.slots) a.send_reliable) (ap (λ (v : ListView Outgoing). v.slots) a.outgoing))
          ∙ sym (held_out q)
          ∙ ap (map (λ (s : ℕ). get_or q.outgoing s no_outgoing)) (sym (lined_used p.lists q.lists lined)))

  pub same_within : Within p q
  same_within =
      agree_map (λ (s : ℕ). get_or p.incoming s no_incoming) (λ (s : ℕ). get_or q.incoming s no_incoming) (named p)
      (arrivals_are p
      ∙ ap₂ (λ (v : ListView Incoming) (cs : List ChannelView). v.slots ++ held_slots cs) a.dispatched a.channels
      ∙ sym (arrivals_are q)
      ∙ ap (map (λ (s : ℕ). get_or q.incoming s no_incoming))
      (sym (lined_named p.lists q.lists _ _ same_like.lists same_like.channels)))

-- ---- and put together
abbrev out_with : OutList → List Outgoing → ListView Outgoing
out_with l vs = record { len = l.len; items = out_items l; slots = vs }

abbrev in_with : InList → List Incoming → ListView Incoming
in_with l vs = record { len = l.len; items = in_items l; slots = vs }

abbrev channel_with : Channel → ListView Incoming → ChannelView
channel_with c v =
    record {
      outgoing_reliable = c.outgoing_reliable;
      outgoing_unreliable = c.outgoing_unreliable;
      incoming_reliable = c.incoming_reliable;
      incoming_unreliable = c.incoming_unreliable;
      held = v;
    }

out_put : (a b : List Outgoing) (used : List ℕ) (l m : OutList) → Agree no_outgoing used a b → ((s : ℕ) → 0 < times (out_items l) s → 0 < times used s)
    → out_shape l ≡ out_shape m → out_view a l ≡ out_view b m
out_put a b used l m h less e =
    ap (out_with l)
    (map_agree (λ (s : ℕ). get_or a s no_outgoing) (λ (s : ℕ). get_or b s no_outgoing) (out_items l) (agree_less no_outgoing used a b h (out_items l) less))
    ∙ ap (out_filled b) e

in_put : (a b : List Incoming) (used : List ℕ) (l : InList) → Agree no_incoming used a b → ((s : ℕ) → 0 < times (in_items l) s → 0 < times used s)
    → in_view a l ≡ in_view b l
in_put a b used l h less =
    ap (in_with l)
    (map_agree (λ (s : ℕ). get_or a s no_incoming) (λ (s : ℕ). get_or b s no_incoming) (in_items l) (agree_less no_incoming used a b h (in_items l) less))

channels_put : (a b : List Incoming) (used : List ℕ) (cs : List Channel) → Agree no_incoming used a b → ((s : ℕ) → 0 < times (held cs) s → 0 < times used s)
    → map (channel_view a) cs ≡ map (channel_view b) cs
unfolding held
channels_put a b used [] h less = refl
channels_put a b used (c ∷ cs) h less =
    ap₂ (λ (v : ListView Incoming) (vs : List ChannelView). channel_with c v ∷ vs)
    (in_put a b used c.held h (λ s n. less s (omega (arith, n, times_append (in_items c.held) (held cs) s))))
    (channels_put a b used cs h (λ s n. less s (omega (arith, n, times_append (in_items c.held) (held cs) s))))

module _ (p q : Peer) (k : Like p q) (w : Within p q) where
  abbrev sent : List ℕ
  sent = out_items p.lists.sent

  abbrev reliable : List ℕ
  reliable = out_items p.lists.send_reliable

  abbrev rest : List ℕ
  rest = out_items p.lists.outgoing

  abbrev counted : List Channel
  counted = below p.channels p.standing.channels

  adds : (s : ℕ) → times (used_out p.lists) s ≡ times sent s + (times reliable s + times rest s)
  adds s = omega (arith, times_append sent (reliable ++ rest) s, times_append reliable rest s)

  adds_in : (s : ℕ) → times (named p) s ≡ times (in_items p.lists.dispatched) s + times (held counted) s
  adds_in s = times_append (in_items p.lists.dispatched) (held counted) s

  pub like_same : Same p q
  unfolding view
  like_same =
      rw (
        channels_put p.incoming q.incoming (named p) counted w (λ s n. omega (arith, n, adds_in s))
            ∙ channels_filled [] q.incoming counted
            ∙ ap (map (channel_filled q.incoming)) k.channels
            ∙ sym (channels_filled [] q.incoming (below q.channels q.standing.channels)),
        out_put p.outgoing q.outgoing (used_out p.lists) p.lists.sent q.lists.sent k.outs (λ s n. omega (arith, n, adds s)) k.lists.sent,
        out_put p.outgoing q.outgoing (used_out p.lists) p.lists.send_reliable q.lists.send_reliable k.outs (λ s n. omega (arith, n, adds s))
            k.lists.send_reliable,
        out_put p.outgoing q.outgoing (used_out p.lists) p.lists.outgoing q.lists.outgoing k.outs (λ s n. omega (arith, n, adds s))
            k.lists.outgoing,
        in_put p.incoming q.incoming (named p) p.lists.dispatched w (λ s n. omega (arith, n, adds_in s))
            ∙ ap (in_filled q.incoming) k.lists.dispatched,
        k.ids,
        k.standing,
        k.bandwidth,
        k.totals,
        k.times,
        k.loss,
        k.throttling,
        k.limits,
        k.trips,
        k.flow,
        k.unsequenced,
        k.waiting,
        k.marks,
      )
