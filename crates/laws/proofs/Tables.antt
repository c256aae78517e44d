-- C-12: two records that are the same have tables that are the same as far as they are written; of sound records the one says what the other says.
-- The argument: all that counts is a function of the view (SameViews), and what is written is made of what counts (crate order, Retold). The bits of a free slot's fields follow
-- its kind, which does not count: whole tables are the same where the free slots' kinds are.
use Prim.Native.Nat.{ℕ, zero, suc, ◌+◌, ◌*◌, ◌<◌}
use mathlib.Core.Path.{◌≡◌, refl, ap, sym, ◌∙◌}
use mathlib.Core.Bool.{Bool, true, false}
use mathlib.Core.List.{List, [], ◌∷◌, ◌++◌, map, map-append}
use native.Mathlib.Omega.{arith}
use lib.Dec.{eqb}
use lib.ListN.{length, get_or, take, drop}
use borrow.Author.Tests.{eqb-true}
use Rattle.numbers.specs.Pick.{pick}
use Rattle.cells.specs.Runs.{has}
use Rattle.lists.specs.Rows.{row_at, len_of, items_of}
use Rattle.record.specs.Fresh.{no_channel, no_outgoing, no_incoming}
use Rattle.record.specs.Lists.{out_items, in_items}
use Rattle.record.specs.Damage.{below, held, used_out, used_in}
use Rattle.record.specs.declared.groups.Channel.{Channel}
use Rattle.record.specs.declared.groups.Outgoing.{Outgoing}
use Rattle.record.specs.declared.groups.Incoming.{Incoming}
use Rattle.record.specs.declared.groups.Standing.{Standing}
use Rattle.peer.specs.Damage.{sound}
use Rattle.peer.specs.declared.Peer.{Peer}
use Rattle.places.specs.Whole.{sizes, numbers, parts, made, whole}
use Rattle.places.specs.Updates.{channel_at, numbers_of}
use Rattle.places.proofs.Sized.{sized}
use Rattle.places.proofs.GroupLaws.{standing_is}
use Rattle.order.specs.Table.{table, row_of}
use Rattle.order.proofs.Determined.{seen, Free, sound_named, before_seen}
use Rattle.order.proofs.Retold.{Counts, counts_before, seen_tables}
use Rattle.order.proofs.RowLaws.{row_before, seen_row}
use Rattle.order.proofs.WholeTables.{tables_same}
use Rattle.laws.specs.Same.{ListView, ChannelView, Same, out_view, in_view, channel_view}
use Rattle.laws.proofs.SameViews.{Agrees, same_agrees, same_sound, held_items, held_slots, held_items_lem, arrivals_are}
use Rattle.laws.proofs.Snapshots.{seen_same}

-- what is held at a slot that a list names
map_back : {A : Type 0} (f g : ℕ → A) (xs : List ℕ) (s : ℕ) → map f xs ≡ map g xs → has xs s ≡ true → f s ≡ g s
map_back f g [] s e h = let z : ◌≡◌ {A = ℕ} 0 1 = cc in absurd (omega arith)
map_back {A} f g (x ∷ xs) s e h = go (λ (k : has xs s ≡ true). map_back f g xs s (ap (λ (ys : List A). drop 1 ys) e) k) (eqb x s) refl h
  where
    go : (has xs s ≡ true → f s ≡ g s) → (t : Bool) → eqb x s ≡ t → pick t true (has xs s) ≡ true → f s ≡ g s
    go rest true q k =
        let z : x ≡ s = eqb-true x s q in
        sym (ap f z) ∙ ap (λ (ys : List A). get_or ys 0 (f x)) e ∙ ap g z
    go rest false q k = rest k

-- a channel below the count
mapped_back : {A : Type 0} (f g : Channel → A) (n : ℕ) (cs ds : List Channel) → map f (take n cs) ≡ map g (take n ds)
    → (c : ℕ) → c < n → c < length cs → c < length ds → f (get_or cs c no_channel) ≡ g (get_or ds c no_channel)
mapped_back f g zero cs ds e c p q r = absurd (omega arith)
mapped_back f g (suc n) [] ds e c p q r = absurd (omega arith)
mapped_back f g (suc n) (x ∷ cs) [] e c p q r = absurd (omega arith)
mapped_back {A} f g (suc n) (x ∷ cs) (y ∷ ds) e zero p q r = ap (λ (ys : List A). get_or ys 0 (f x)) e
mapped_back {A} f g (suc n) (x ∷ cs) (y ∷ ds) e (suc c) p q r =
    mapped_back f g n cs ds (ap (λ (ys : List A). drop 1 ys) e) c (omega arith) (omega arith) (omega arith)

module _ (p q : Peer) (a : Agrees p q) where
  abbrev out_of : Peer → ℕ → Outgoing
  out_of r s = get_or r.outgoing s no_outgoing

  abbrev in_of : Peer → ℕ → Incoming
  in_of r s = get_or r.incoming s no_incoming

  abbrev channels_of : Peer → List ChannelView
  channels_of r = map (channel_view r.incoming) (below r.channels r.standing.channels)

  -- the slots that the lists name, and what they hold
  used_out_is : used_out p.lists ≡ used_out q.lists
  used_out_is =
      ap (λ (v : ListView Outgoing). v.items ++ (out_items p.lists.send_reliable ++ out_items p.lists.outgoing)) a.sent
      ∙ ap (λ (v : ListView Outgoing). out_items q.lists.sent ++ (v.items ++ out_items p.lists.outgoing)) a.send_reliable
      ∙ ap (λ (v : ListView Outgoing). out_items q.lists.sent ++ (out_items q.lists.send_reliable ++ v.items)) a.outgoing

  out_map : (r : Peer) → map (out_of r) (used_out r.lists)
      ≡ (out_view r.outgoing r.lists.sent).slots ++ ((out_view r.outgoing r.lists.send_reliable).slots ++ (out_view r.outgoing r.lists.outgoing).slots)
  out_map r =
      map-append (out_of r) (out_items r.lists.sent) (out_items r.lists.send_reliable ++ out_items r.lists.outgoing)
      ∙ ap (λ (os : List Outgoing). map (out_of r) (out_items r.lists.sent) ++ os) (map-append (out_of r) (out_items r.lists.send_reliable) (out_items r.lists.outgoing))

  out_holds : map (out_of p) (used_out p.lists) ≡ map (out_of q) (used_out p.lists)
  out_holds =
      out_map p
      ∙ ap (λ (v : ListView Outgoing). v.slots ++ ((out_view p.outgoing p.lists.send_reliable).slots ++ (out_view p.outgoing p.lists.outgoing).slots)) a.sent
      ∙ ap (λ (v : ListView Outgoing). (out_view q.outgoing q.lists.sent).slots ++ (v.slots ++ (out_view p.outgoing p.lists.outgoing).slots)) a.send_reliable
      ∙ ap (λ (v : ListView Outgoing). (out_view q.outgoing q.lists.sent).slots ++ ((out_view q.outgoing q.lists.send_reliable).slots ++ v.slots)) a.outgoing
      ∙ sym (out_map q)
      ∙ sym (ap (map (out_of q)) used_out_is)

  abbrev used_now : Peer → List ℕ
  used_now r = used_in r.lists (below r.channels r.standing.channels)

  in_items_lem : (r : Peer) → used_now r ≡ (in_view r.incoming r.lists.dispatched).items ++ held_items (channels_of r)
  in_items_lem r = ap (λ (xs : List ℕ). in_items r.lists.dispatched ++ xs) (held_items_lem r.incoming (below r.channels r.standing.channels))

  used_in_is : used_now p ≡ used_now q
  used_in_is =
      in_items_lem p
      ∙ ap (λ (v : ListView Incoming). v.items ++ held_items (channels_of p)) a.dispatched
      ∙ ap (λ (cs : List ChannelView). in_items q.lists.dispatched ++ held_items cs) a.channels
      ∙ sym (in_items_lem q)

  in_holds : map (in_of p) (used_now p) ≡ map (in_of q) (used_now p)
  in_holds =
      arrivals_are p
      ∙ ap (λ (v : ListView Incoming). v.slots ++ held_slots (channels_of p)) a.dispatched
      ∙ ap (λ (cs : List ChannelView). (in_view q.incoming q.lists.dispatched).slots ++ held_slots cs) a.channels
      ∙ sym (arrivals_are q)
      ∙ sym (ap (map (in_of q)) used_in_is)

  channel_back : (c : ℕ) → c < p.standing.channels → c < length p.channels → c < length q.channels
      → channel_view p.incoming (channel_at p c) ≡ channel_view q.incoming (channel_at q c)
  channel_back c h i j =
      mapped_back (channel_view p.incoming) (channel_view q.incoming) p.standing.channels p.channels q.channels
      (a.channels ∙ sym (ap (λ (s : Standing). map (channel_view q.incoming) (below q.channels s.channels)) a.standing)) c h i j

numbers_back : (x y : List Incoming) (c d : Channel) → channel_view x c ≡ channel_view y d → numbers_of c ≡ numbers_of d
numbers_back x y c d e =
    ap (λ (v : ChannelView). record { outgoing_reliable = v.outgoing_reliable; outgoing_unreliable = v.outgoing_unreliable; incoming_reliable = v.incoming_reliable; incoming_unreliable = v.incoming_unreliable }) e

module _ (ws vs : List ℕ) (a : Agrees (whole ws) (whole vs)) where
  abbrev p : Peer
  p = whole ws

  abbrev q : Peer
  q = whole vs

  three_lens : (k : ℕ) → k < 3 → len_of (row_at (43 + k * 33) 32 ws) ≡ len_of (row_at (43 + k * 33) 32 vs)
  unfolding made parts numbers sizes
  three_lens zero h = ap (λ (v : ListView Outgoing). v.len) a.sent
  three_lens (suc zero) h = ap (λ (v : ListView Outgoing). v.len) a.send_reliable
  three_lens (suc (suc zero)) h = ap (λ (v : ListView Outgoing). v.len) a.outgoing
  three_lens (suc (suc (suc k))) h = absurd (omega arith)

  three_items : (k : ℕ) → k < 3 → items_of (row_at (43 + k * 33) 32 ws) ≡ items_of (row_at (43 + k * 33) 32 vs)
  unfolding made parts numbers sizes
  three_items zero h = ap (λ (v : ListView Outgoing). v.items) a.sent
  three_items (suc zero) h = ap (λ (v : ListView Outgoing). v.items) a.send_reliable
  three_items (suc (suc zero)) h = ap (λ (v : ListView Outgoing). v.items) a.outgoing
  three_items (suc (suc (suc k))) h = absurd (omega arith)

  dispatched_len_lem : len_of (row_at 142 12 ws) ≡ len_of (row_at 142 12 vs)
  unfolding made parts numbers sizes
  dispatched_len_lem = ap (λ (v : ListView Incoming). v.len) a.dispatched

  dispatched_items_lem : items_of (row_at 142 12 ws) ≡ items_of (row_at 142 12 vs)
  unfolding made parts numbers sizes
  dispatched_items_lem = ap (λ (v : ListView Incoming). v.items) a.dispatched

  in_channel : (c : ℕ) → c < 8 → c < get_or ws 6 0 → channel_view p.incoming (channel_at p c) ≡ channel_view q.incoming (channel_at q c)
  in_channel c h u =
      channel_back p q a c (omega (arith, ap (λ (s : Standing). s.channels) (standing_is ws))) (omega (arith, (sized ws).channels)) (omega (arith, (sized vs).channels))

  pub agrees_counts : Counts ws vs
  agrees_counts =
      record {
        own =
            record {
              ids = a.ids;
              standing = a.standing;
              bandwidth = a.bandwidth;
              totals = a.totals;
              times = a.times;
              loss = a.loss;
              throttling = a.throttling;
              limits = a.limits;
              trips = a.trips;
              flow = a.flow;
            };
        unsequenced = a.unsequenced;
        waiting = a.waiting;
        marks = a.marks;
        lens = three_lens;
        items = three_items;
        dispatched_len = dispatched_len_lem;
        dispatched_items = dispatched_items_lem;
        numbers = λ c h u. numbers_back p.incoming q.incoming (channel_at p c) (channel_at q c) (in_channel c h u);
        held_len = λ c h u. ap (λ (v : ChannelView). v.held.len) (in_channel c h u);
        held_items = λ c h u. ap (λ (v : ChannelView). v.held.items) (in_channel c h u);
        out_used = λ s. ap (λ (xs : List ℕ). has xs s) (used_out_is p q a);
        out_slot = λ s u. map_back (out_of p q a p) (out_of p q a q) (used_out p.lists) s (out_holds p q a) u;
        in_used = λ s. ap (λ (xs : List ℕ). has xs s) (used_in_is p q a);
        in_slot = λ s u. map_back (in_of p q a p) (in_of p q a q) (used_now p q a p) s (in_holds p q a) u;
      }

-- the tables, as far as they are written
pub table-seen : (ws vs : List ℕ) → length ws ≡ 1236 → length vs ≡ 1236 → Same (whole ws) (whole vs) → map seen (table (whole ws)) ≡ map seen (table (whole vs))
table-seen ws vs l m e = seen_tables ws vs l m (counts_before ws vs l m (agrees_counts ws vs (same_agrees (whole ws) (whole vs) e)))

-- and back, of sound records
pub seen-table : (ws vs : List ℕ) → length ws ≡ 1236 → length vs ≡ 1236 → sound (whole ws) ≡ true → sound (whole vs) ≡ true
    → map seen (table (whole ws)) ≡ map seen (table (whole vs)) → Same (whole ws) (whole vs)
seen-table ws vs l m s t e =
    seen_same ws vs l m (sound_named ws s 1236) (sound_named vs t 1236) (before_seen ws vs 1236 (ap (take 1236) e))

-- the whole tables, where the free slots' fields have the same kinds
pub table_same : (ws vs : List ℕ) → length ws ≡ 1236 → length vs ≡ 1236 → sound (whole ws) ≡ true → Free ws vs 1236 → Same (whole ws) (whole vs)
    → table (whole ws) ≡ table (whole vs)
table_same ws vs l m s g e =
    let t : sound (whole vs) ≡ true = sym (same_sound (whole ws) (whole vs) e) ∙ s in
    tables_same ws vs l m (sound_named ws s 1236) (sound_named vs t 1236) g (counts_before ws vs l m (agrees_counts ws vs (same_agrees (whole ws) (whole vs) e)))

-- the row of the written numbers says which record it is, and says nothing else
pub row_same : (ws vs : List ℕ) → length ws ≡ 1236 → length vs ≡ 1236 → sound (whole ws) ≡ true → sound (whole vs) ≡ true
    → row_of (whole ws) ≡ row_of (whole vs) → Same (whole ws) (whole vs)
row_same ws vs l m s t e =
    let n = sound_named ws s 1236 in
    let k = sound_named vs t 1236 in
    seen_same ws vs l m n k (row_before ws vs l m n k e)

pub same_row : (ws vs : List ℕ) → length ws ≡ 1236 → length vs ≡ 1236 → Same (whole ws) (whole vs) → row_of (whole ws) ≡ row_of (whole vs)
same_row ws vs l m e = seen_row ws vs (table-seen ws vs l m e)
