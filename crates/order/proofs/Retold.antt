-- Two records that have the same of all that counts have tables that are the same as far as they are written; and wholly so where their free slots have fields of the same kinds.
-- The argument, by the place's region: what is written is made of what counts alone; what is not written says nothing but its bits, which only a free slot's kind decides.
use Prim.Native.Nat.{ℕ, zero, suc, ◌+◌, ◌*◌, ◌-◌, ◌≤◌, ◌<◌, min}
use mathlib.Core.Path.{◌≡◌, refl, ap, sym, ◌∙◌}
use mathlib.Core.Bool.{Bool, true, false}
use mathlib.Core.List.{List, map}
use native.Mathlib.Omega.{arith}
use lib.Dec.{leb, ltb}
use lib.ListN.{length, get_or, length-map, get_or-map}
use lib.Seq.{ext_get_or}
use borrow.Author.Tests.{le-ltb, ltb-true, leb-true}
use Rattle.lists.specs.Rows.{low, row_at, len_of, items_of}
use Rattle.lists.proofs.Placed.{row_is, items_length, item_at}
use Rattle.record.specs.Fresh.{no_outgoing, no_incoming}
use Rattle.record.specs.Lists.{in_items}
use Rattle.record.specs.declared.groups.Outgoing.{Outgoing}
use Rattle.record.specs.declared.groups.Incoming.{Incoming}
use Rattle.record.specs.declared.groups.Standing.{Standing}
use Rattle.record.specs.declared.groups.Unsequenced.{Unsequenced}
use Rattle.record.specs.declared.groups.Waiting.{Waiting}
use Rattle.record.specs.declared.groups.Marks.{Marks}
use Rattle.record.specs.declared.incoming.InList.{InList}
use Rattle.peer.specs.declared.Peer.{Peer}
use Rattle.places.specs.Whole.{whole}
use Rattle.places.specs.Updates.{channel_at, numbers_of}
use Rattle.places.specs.declared.channels.Numbers.{Numbers}
use Rattle.places.proofs.GroupLaws.{standing_is, marks_is}
use Rattle.places.proofs.ChannelLaws.{held_is, numbers_is}
use Rattle.order.specs.Table.{plain, nowhere, first, numbered, own_bits, own_row, group_bits, group_row, slot_places, in_slot_places, used_outgoing, used_incoming, table}
use Rattle.order.specs.declared.Place.{Place}
use Rattle.order.proofs.TableLaws.{shown_if, first_at}
use Rattle.order.proofs.PartLaws.{list_at}
use Rattle.order.proofs.WholeLaws.{table_own, table-groups, table-length}
use Rattle.order.proofs.EntryLaws.{entry_at, mark_entry, list_entry, dispatched_entry, number_entry, held_entry, slot_entry, incoming_entry, length_of_list, cell_of_list, Regions, by_region}
use Rattle.order.proofs.Determined.{seen, Before, SameCell}
use Rattle.order.proofs.Restored.{OwnSame}

-- ---- all that counts
pub record Counts (ws vs : List ℕ) : Type 0 where
  pub own : OwnSame (whole ws) (whole vs)
  pub unsequenced : (whole ws).unsequenced ≡ (whole vs).unsequenced
  pub waiting : (whole ws).waiting ≡ (whole vs).waiting
  pub marks : (whole ws).marks ≡ (whole vs).marks
  pub lens : (q : ℕ) → q < 3 → len_of (row_at (43 + q * 33) 32 ws) ≡ len_of (row_at (43 + q * 33) 32 vs)
  pub items : (q : ℕ) → q < 3 → items_of (row_at (43 + q * 33) 32 ws) ≡ items_of (row_at (43 + q * 33) 32 vs)
  pub dispatched_len : len_of (row_at 142 12 ws) ≡ len_of (row_at 142 12 vs)
  pub dispatched_items : items_of (row_at 142 12 ws) ≡ items_of (row_at 142 12 vs)
  pub numbers : (c : ℕ) → c < 8 → c < get_or ws 6 0 → numbers_of (channel_at (whole ws) c) ≡ numbers_of (channel_at (whole vs) c)
  pub held_len : (c : ℕ) → c < 8 → c < get_or ws 6 0 → (channel_at (whole ws) c).held.len ≡ (channel_at (whole vs) c).held.len
  pub held_items : (c : ℕ) → c < 8 → c < get_or ws 6 0 → in_items (channel_at (whole ws) c).held ≡ in_items (channel_at (whole vs) c).held
  pub out_used : (s : ℕ) → used_outgoing (whole ws) s ≡ used_outgoing (whole vs) s
  pub out_slot : (s : ℕ) → used_outgoing (whole ws) s ≡ true → get_or (whole ws).outgoing s no_outgoing ≡ get_or (whole vs).outgoing s no_outgoing
  pub in_used : (s : ℕ) → used_incoming (whole ws) s ≡ used_incoming (whole vs) s
  pub in_slot : (s : ℕ) → used_incoming (whole ws) s ≡ true → get_or (whole ws).incoming s no_incoming ≡ get_or (whole vs).incoming s no_incoming

-- ---- the own numbers, of the groups
own_row_eq : (p q : Peer) → OwnSame p q → own_row p ≡ own_row q
unfolding own_row
own_row_eq p q s =
    rw (s.ids, s.standing, s.bandwidth, s.totals, s.times, s.loss, s.throttling, s.limits, s.trips, s.flow)

-- ---- a list of two records
module _ (ws vs : List ℕ) (at size : ℕ) (h : at + size + 1 ≤ length ws) (k : at + size + 1 ≤ length vs) (n : len_of (row_at at size ws) ≡ len_of (row_at at size vs)) (e : items_of (row_at at size ws) ≡ items_of (row_at at size vs)) where
  len_is : low (get_or ws at 0) ≡ low (get_or vs at 0)
  len_is = sym (ap len_of (row_is ws at size h)) ∙ n ∙ ap len_of (row_is vs at size k)

  cell_is : (i : ℕ) → i < size → i < low (get_or ws at 0) → low (get_or ws (at + suc i) 0) ≡ low (get_or vs (at + suc i) 0)
  cell_is i p q =
      let s : at + suc i ≡ at + 1 + i = omega arith in
      let a : length (items_of (row_at at size ws)) ≡ min (low (get_or ws at 0)) size = items_length ws at size h in
      let b : length (items_of (row_at at size vs)) ≡ min (low (get_or vs at 0)) size = items_length vs at size k in
      let z : low (get_or ws at 0) ≡ low (get_or vs at 0) = len_is in
      ap (λ (t : ℕ). low (get_or ws t 0)) s
      ∙ item_at ws at size h i (omega arith)
      ∙ ap (λ (xs : List ℕ). get_or xs i 0) e
      ∙ sym (item_at vs at size k i (omega arith))
      ∙ sym (ap (λ (t : ℕ). low (get_or vs t 0)) s)

  list_seen : (j : ℕ) → j ≤ size → SameCell ws vs at size h k j
  list_seen zero b =
      ap seen (length_of_list ws at size h ∙ ap (λ (x : ℕ). record { number = x; bits = 16; most = size; is_command = false; is_written = true }) len_is ∙ sym (length_of_list vs at size k))
  list_seen (suc i) b =
      ap seen (cell_of_list ws at size h (suc i) (omega arith) b)
      ∙ go (leb (suc i) (low (get_or ws at 0))) refl
      ∙ ap (λ (t : ℕ). seen (shown_if (leb (suc i) t) (plain 16 (low (get_or vs (at + suc i) 0))))) len_is
      ∙ sym (ap seen (cell_of_list vs at size k (suc i) (omega arith) b))
    where
      go : (t : Bool) → leb (suc i) (low (get_or ws at 0)) ≡ t
          → seen (shown_if t (plain 16 (low (get_or ws (at + suc i) 0)))) ≡ seen (shown_if t (plain 16 (low (get_or vs (at + suc i) 0))))
      go true q = ap (plain 16) (cell_is i (omega arith) (leb-true (suc i) (low (get_or ws at 0)) q))
      go false q = refl

-- ---- nothing of what is not there is seen
none_seen : (es : List Place) (j : ℕ) → seen (get_or (first 0 es) j nowhere) ≡ nowhere
none_seen es j = ap seen (first_at 0 j es) ∙ ap (λ (t : Bool). seen (shown_if t (get_or es j nowhere))) (le-ltb j 0 (omega arith))

slot_unseen : (o : Outgoing) (j : ℕ) → seen (get_or (slot_places false o) j nowhere) ≡ nowhere
slot_unseen o j = none_seen _ j

in_slot_unseen : (o : Incoming) (j : ℕ) → seen (get_or (in_slot_places false o) j nowhere) ≡ nowhere
in_slot_unseen o j = none_seen _ j

slots_seen : (t : Bool) (o u : Outgoing) (j : ℕ) → (t ≡ true → o ≡ u) → seen (get_or (slot_places t o) j nowhere) ≡ seen (get_or (slot_places t u) j nowhere)
slots_seen true o u j e = ap (λ (x : Outgoing). seen (get_or (slot_places true x) j nowhere)) (e refl)
slots_seen false o u j e = slot_unseen o j ∙ sym (slot_unseen u j)

in_slots_seen : (t : Bool) (o u : Incoming) (j : ℕ) → (t ≡ true → o ≡ u) → seen (get_or (in_slot_places t o) j nowhere) ≡ seen (get_or (in_slot_places t u) j nowhere)
in_slots_seen true o u j e = ap (λ (x : Incoming). seen (get_or (in_slot_places true x) j nowhere)) (e refl)
in_slots_seen false o u j e = in_slot_unseen o j ∙ sym (in_slot_unseen u j)

-- ---- two records
module _ (ws vs : List ℕ) (l : length ws ≡ 1236) (m : length vs ≡ 1236) (a : Counts ws vs) where
  abbrev SeenAt : ℕ → Type 0
  SeenAt i = seen (entry_at ws i) ≡ seen (entry_at vs i)

  count_is : get_or ws 6 0 ≡ get_or vs 6 0
  count_is = sym (ap (λ (s : Standing). s.channels) (standing_is ws)) ∙ ap (λ (s : Standing). s.channels) a.own.standing ∙ ap (λ (s : Standing). s.channels) (standing_is vs)

  own_seen : (i : ℕ) → i < 43 → SeenAt i
  own_seen i h =
      ap seen (sym (table_own ws l i h) ∙ ap (λ (r : List ℕ). get_or (numbered own_bits r) i nowhere) (own_row_eq (whole ws) (whole vs) a.own) ∙ table_own vs m i h)

  group_seen : (j : ℕ) → j < 39 → SeenAt (155 + j)
  group_seen j h =
      let k = 155 + j - 155 in
      ap seen
      (sym (table-groups ws l (155 + j) (omega arith) (omega arith))
      ∙ ap (λ (u : Unsequenced). get_or (numbered group_bits (group_row u (whole ws).waiting)) k nowhere) a.unsequenced
      ∙ ap (λ (w : Waiting). get_or (numbered group_bits (group_row (whole vs).unsequenced w)) k nowhere) a.waiting
      ∙ table-groups vs m (155 + j) (omega arith) (omega arith))

  mark_is : (j : ℕ) → j < 2 → get_or ws (1234 + j) 0 ≡ get_or vs (1234 + j) 0
  mark_is zero h = sym (ap (λ (x : Marks). x.low) (marks_is ws)) ∙ ap (λ (x : Marks). x.low) a.marks ∙ ap (λ (x : Marks). x.low) (marks_is vs)
  mark_is (suc zero) h = sym (ap (λ (x : Marks). x.high) (marks_is ws)) ∙ ap (λ (x : Marks). x.high) a.marks ∙ ap (λ (x : Marks). x.high) (marks_is vs)
  mark_is (suc (suc j)) h = absurd (omega arith)

  mark_seen : (j : ℕ) → j < 2 → SeenAt (1234 + j)
  mark_seen j h = ap seen (mark_entry ws l j h ∙ ap (plain 32) (mark_is j h) ∙ sym (mark_entry vs m j h))

  three_seen : (q j : ℕ) → q < 3 → j ≤ 32 → SeenAt (43 + q * 33 + j)
  three_seen q j h p =
      ap seen (list_entry ws l q j h p) ∙ list_seen ws vs (43 + q * 33) 32 (omega arith) (omega arith) (a.lens q h) (a.items q h) j p ∙ sym (ap seen (list_entry vs m q j h p))

  dispatched_seen : (j : ℕ) → j ≤ 12 → SeenAt (142 + j)
  dispatched_seen j p =
      ap seen (dispatched_entry ws l j p) ∙ list_seen ws vs 142 12 (omega arith) (omega arith) a.dispatched_len a.dispatched_items j p ∙ sym (ap seen (dispatched_entry vs m j p))

  -- ---- a channel
  module _ (c : ℕ) (h : c < 8) where
    abbrev number_at : List ℕ → ℕ → ℕ
    number_at us j = low (get_or us (194 + c * 17 + j) 0)

    numbers_are : (us : List ℕ) → length us ≡ 1236
        → numbers_of (channel_at (whole us) c) ≡ record { outgoing_reliable = record { 0 = number_at us 0 }; outgoing_unreliable = record { 0 = number_at us 1 }; incoming_reliable = record { 0 = number_at us 2 }; incoming_unreliable = record { 0 = number_at us 3 } }
    numbers_are us k =
        let z : 194 + c * 17 + 0 ≡ 194 + c * 17 = omega arith in
        numbers_is us c (number_at us 0) (number_at us 1) (number_at us 2) (number_at us 3) h k (ap (λ (i : ℕ). low (get_or us i 0)) z) refl refl refl

    number_is : c < get_or ws 6 0 → (j : ℕ) → j < 4 → number_at ws j ≡ number_at vs j
    number_is q j p = go j p
      where
        e : ◌≡◌ {A = Numbers}
            (record { outgoing_reliable = record { 0 = number_at ws 0 }; outgoing_unreliable = record { 0 = number_at ws 1 }; incoming_reliable = record { 0 = number_at ws 2 }; incoming_unreliable = record { 0 = number_at ws 3 } })
            (record { outgoing_reliable = record { 0 = number_at vs 0 }; outgoing_unreliable = record { 0 = number_at vs 1 }; incoming_reliable = record { 0 = number_at vs 2 }; incoming_unreliable = record { 0 = number_at vs 3 } })
        e = sym (numbers_are ws l) ∙ a.numbers c h q ∙ numbers_are vs m

        go : (i : ℕ) → i < 4 → number_at ws i ≡ number_at vs i
        go zero b = ap (λ (x : Numbers). x.outgoing_reliable.0) e
        go (suc zero) b = ap (λ (x : Numbers). x.outgoing_unreliable.0) e
        go (suc (suc zero)) b = ap (λ (x : Numbers). x.incoming_reliable.0) e
        go (suc (suc (suc zero))) b = ap (λ (x : Numbers). x.incoming_unreliable.0) e
        go (suc (suc (suc (suc i)))) b = absurd (omega arith)

    number_seen : (j : ℕ) → j < 4 → SeenAt (194 + c * 17 + j)
    number_seen j p =
        ap seen (number_entry ws l c j h p)
        ∙ go (ltb c (get_or ws 6 0)) refl
        ∙ ap (λ (n : ℕ). seen (shown_if (ltb c n) (plain 16 (number_at vs j)))) count_is
        ∙ sym (ap seen (number_entry vs m c j h p))
      where
        go : (t : Bool) → ltb c (get_or ws 6 0) ≡ t → seen (shown_if t (plain 16 (number_at ws j))) ≡ seen (shown_if t (plain 16 (number_at vs j)))
        go true q = ap (plain 16) (number_is (ltb-true c (get_or ws 6 0) q) j p)
        go false q = refl

    held_seen : (j : ℕ) → j ≤ 12 → SeenAt (194 + c * 17 + 4 + j)
    held_seen j p =
        ap seen (held_entry ws l c j h p)
        ∙ go (ltb c (get_or ws 6 0)) refl
        ∙ ap (λ (n : ℕ). seen (shown_if (ltb c n) (get_or (list_at (194 + c * 17 + 4) 12 vs) j nowhere))) count_is
        ∙ sym (ap seen (held_entry vs m c j h p))
      where
        go : (t : Bool) → ltb c (get_or ws 6 0) ≡ t
            → seen (shown_if t (get_or (list_at (194 + c * 17 + 4) 12 ws) j nowhere)) ≡ seen (shown_if t (get_or (list_at (194 + c * 17 + 4) 12 vs) j nowhere))
        go true q =
            let u : c < get_or ws 6 0 = ltb-true c (get_or ws 6 0) q in
            list_seen ws vs (194 + c * 17 + 4) 12 (omega arith) (omega arith)
            (sym (ap (λ (i : InList). i.len) (held_is ws c h l)) ∙ a.held_len c h u ∙ ap (λ (i : InList). i.len) (held_is vs c h m))
            (sym (ap in_items (held_is ws c h l)) ∙ a.held_items c h u ∙ ap in_items (held_is vs c h m))
            j p
        go false q = refl

  -- ---- slots
  slot_seen : (s j : ℕ) → s < 32 → j < 26 → SeenAt (330 + s * 26 + j)
  slot_seen s j h p =
      ap seen (slot_entry ws l s j h p)
      ∙ slots_seen (used_outgoing (whole ws) s) (get_or (whole ws).outgoing s no_outgoing) (get_or (whole vs).outgoing s no_outgoing) j (a.out_slot s)
      ∙ ap (λ (t : Bool). seen (get_or (slot_places t (get_or (whole vs).outgoing s no_outgoing)) j nowhere)) (a.out_used s)
      ∙ sym (ap seen (slot_entry vs m s j h p))

  incoming_seen : (s j : ℕ) → s < 12 → j < 6 → SeenAt (1162 + s * 6 + j)
  incoming_seen s j h p =
      ap seen (incoming_entry ws l s j h p)
      ∙ in_slots_seen (used_incoming (whole ws) s) (get_or (whole ws).incoming s no_incoming) (get_or (whole vs).incoming s no_incoming) j (a.in_slot s)
      ∙ ap (λ (t : Bool). seen (get_or (in_slot_places t (get_or (whole vs).incoming s no_incoming)) j nowhere)) (a.in_used s)
      ∙ sym (ap seen (incoming_entry vs m s j h p))

  regions : Regions SeenAt
  regions =
      record {
        own = own_seen;
        list = three_seen;
        dispatched = dispatched_seen;
        group = group_seen;
        number = λ c j h p. number_seen c h j p;
        held = λ c j h p. held_seen c h j p;
        slot = λ s j h p. slot_seen s j h (omega arith);
        command = λ s j h p. slot_seen s (9 + j) h (omega arith);
        kind = λ s h. slot_seen s 25 h (omega arith);
        in_slot = incoming_seen;
        mark = mark_seen;
      }

  pub counts_before : Before ws vs 1236
  counts_before k h = by_region SeenAt regions k h

-- entries one by one, then the tables as far as they are written
pub seen_tables : (ws vs : List ℕ) → length ws ≡ 1236 → length vs ≡ 1236 → Before ws vs 1236 → map seen (table (whole ws)) ≡ map seen (table (whole vs))
seen_tables ws vs l m b =
    let p : length (map seen (table (whole ws))) ≡ 1236 = length-map (table (whole ws)) seen ∙ table-length ws l in
    let q : length (map seen (table (whole vs))) ≡ 1236 = length-map (table (whole vs)) seen ∙ table-length vs m in
    ext_get_or nowhere (map seen (table (whole ws))) (map seen (table (whole vs))) (p ∙ sym q)
    (λ (i : ℕ) (h : i < length (map seen (table (whole ws)))).
    get_or-map seen (table (whole ws)) i nowhere ∙ b i (omega arith) ∙ sym (get_or-map seen (table (whole vs)) i nowhere))
