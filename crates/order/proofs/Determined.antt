-- The entries before place i determine what entry i is like: whether it is written, and where it is, its bits, its most and whether it is a command's byte.
-- The argument, by the place's region: own numbers, groups and marks are always alike; a list's cell asks the list's length, a channel's place the channel count too; a slot's
-- place asks whether the lists name the slot, that is their lengths and written cells; a command's field asks its kind, which a byte that names its fields has modulo 16.
-- What is not written tells nothing: the bits of a free slot's fields follow its kind number, which no entry shows.
use Prim.Native.Nat.{ℕ, zero, suc, ◌+◌, ◌*◌, ◌%◌, ◌≤◌, ◌<◌, min}
use mathlib.Core.Path.{◌≡◌, refl, ap, sym, ◌∙◌}
use mathlib.Core.Bool.{Bool, true, false}
use mathlib.Core.List.{List, [], ◌∷◌, ◌++◌, map}
use native.Mathlib.Omega.{arith}
use lib.Dec.{leb, ltb, eqb}
use lib.ListN.{length, get_or, take, drop, get_or-map}
use lib.Seq.{ext_get_or, get_or-take}
use borrow.Author.Tests.{lt-ltb, le-leb, eqb-true, ltb-true}
use Rattle.numbers.specs.Pick.{pick}
use Rattle.numbers.proofs.BoolLaws.{both_left}
use Rattle.command.specs.Layout.{known, width_of}
use Rattle.command.specs.Rows.{names_fields}
use Rattle.command.proofs.LayoutLaws.{layout-known}
use Rattle.wire.specs.Decoded.{decoded}
use Rattle.cells.specs.Runs.{has}
use Rattle.lists.specs.Rows.{low, section, row_at, items_of}
use Rattle.lists.proofs.Placed.{items_length, item_at}
use Rattle.record.specs.Fresh.{no_channel, no_outgoing}
use Rattle.record.specs.Lists.{in_items}
use Rattle.record.specs.Channels.{on_channel}
use Rattle.record.specs.Damage.{below, held, used_out, out_fit}
use Rattle.record.specs.declared.groups.Channel.{Channel}
use Rattle.record.specs.declared.groups.Outgoing.{Outgoing}
use Rattle.record.specs.declared.groups.Standing.{Standing}
use Rattle.record.proofs.Keeps.{times_some}
use Rattle.peer.specs.Damage.{sound}
use Rattle.peer.proofs.Clauses.{sound_clauses, all_at}
use Rattle.pool.specs.Rows.{row_at as row_in}
use Rattle.pool.specs.Slots.{slot_from, kind_from}
use Rattle.pool.proofs.Rows.{rows_at, row_at_lem}
use Rattle.pool.proofs.Decoding.{named_by, command_at}
use Rattle.places.specs.Whole.{whole}
use Rattle.places.specs.Updates.{channel_at}
use Rattle.places.proofs.Sections.{section_number}
use Rattle.places.proofs.Sized.{sized}
use Rattle.places.proofs.GroupLaws.{standing_is}
use Rattle.places.proofs.ChannelLaws.{held_is}
use Rattle.places.proofs.PoolLaws.{pool_is}
use Rattle.order.specs.Table.{plain, as_command, unwritten, nowhere, slot_bits, in_slot_bits, used_outgoing, used_incoming, table}
use Rattle.order.specs.CodeCuts.{cut_place, field_from, command_place}
use Rattle.order.specs.declared.Place.{Place}
use Rattle.order.proofs.TableLaws.{shown_if}
use Rattle.order.proofs.UsedLaws.{used_out_lem, used_in}
use Rattle.order.proofs.PartLaws.{list_at}
use Rattle.order.proofs.EntryLaws.{entry_at, own_entry, group_entry, mark_entry, list_entry, dispatched_entry, number_entry, held_entry, slot_number_entry, slot_command_entry, slot_kind_entry, in_slot_entry, length_of_list, cell_of_list, command_by, Regions, below_or, by_region}

-- ---- an entry without its number; an entry as far as it is written
abbrev pub shape : Place → Place
shape e =
    record { number = 0; bits = e.bits; most = e.most; is_command = e.is_command; is_written = e.is_written }

abbrev pub seen : Place → Place
seen e = pick e.is_written e nowhere

pub seen_written : (e : Place) → (seen e).is_written ≡ e.is_written
seen_written e = go e.is_written refl
  where
    go : (b : Bool) → e.is_written ≡ b → (pick b e nowhere).is_written ≡ b
    go true q = q
    go false q = refl

seen-shape : (e : Place) → shape (seen e) ≡ seen (shape e)
seen-shape e = go e.is_written
  where
    go : (b : Bool) → shape (pick b e nowhere) ≡ pick b (shape e) nowhere
    go true = refl
    go false = refl

-- alike in all, then alike as far as they are written
pub shape-seen : (e f : Place) → shape e ≡ shape f → shape (seen e) ≡ shape (seen f)
shape-seen e f q = seen-shape e ∙ ap seen q ∙ sym (seen-shape f)

-- ---- of the numbers ws, for each used outgoing slot whose byte stands before place i: the byte names its fields
abbrev pub Named : List ℕ → ℕ → Type 0
Named ws i =
    (s : ℕ) → s < 32 → 330 + s * 26 + 9 < i → used_outgoing (whole ws) s ≡ true → names_fields (get_or (whole ws).outgoing s no_outgoing).command ≡ true

-- in a sound record all bytes do
pub sound_named : (ws : List ℕ) → sound (whole ws) ≡ true → (i : ℕ) → Named ws i
sound_named ws e i s a h u =
    let p = whole ws in
    let c = (get_or p.outgoing s no_outgoing).command in
    both_left (names_fields c) (on_channel c.channel p.standing.channels)
    (all_at (out_fit p.outgoing p.standing.channels) (used_out p.lists) (sound_clauses p e).fit s (times_some (used_out p.lists) s u))

-- the free slots whose byte stands before place i have fields of the same kind
abbrev pub Free : List ℕ → List ℕ → ℕ → Type 0
Free ws vs i =
    (s : ℕ) → s < 32 → 330 + s * 26 + 9 < i → used_outgoing (whole ws) s ≡ false
    → kind_from (get_or ws (330 + s * 26 + 25) 0) ≡ kind_from (get_or vs (330 + s * 26 + 25) 0)

-- the entries before place i are the same as far as they are written
abbrev pub Before : List ℕ → List ℕ → ℕ → Type 0
Before ws vs i = (k : ℕ) → k < i → seen (entry_at ws k) ≡ seen (entry_at vs k)

-- ---- places by a test, whatever number stands there
cut_alike : (t : Bool) (b x y : ℕ) → shape (shown_if t (cut_place b x)) ≡ shape (shown_if t (cut_place b y))
cut_alike true b x y = refl
cut_alike false b x y = refl

plain_alike : (t : Bool) (b x y : ℕ) → shape (shown_if t (plain b x)) ≡ shape (shown_if t (plain b y))
plain_alike true b x y = refl
plain_alike false b x y = refl

cell_free : (t u : Bool) (x y : ℕ) → unwritten (shown_if t (plain 16 x)) ≡ unwritten (shown_if u (plain 16 y))
cell_free true true x y = refl
cell_free true false x y = refl
cell_free false true x y = refl
cell_free false false x y = refl

-- two entries, by what they are
module _ {a b e f : Place} (p : a ≡ e) (q : b ≡ f) where
  pub alike : shape e ≡ shape f → shape a ≡ shape b
  alike h = ap shape p ∙ h ∙ sym (ap shape q)

  pub read : seen a ≡ seen b → seen e ≡ seen f
  read h = sym (ap seen p) ∙ h ∙ ap seen q

-- ---- a list of two records
module _ (ws vs : List ℕ) (at size : ℕ) (h : at + size + 1 ≤ length ws) (k : at + size + 1 ≤ length vs) where
  abbrev pub SameCell : ℕ → Type 0
  SameCell j = seen (get_or (list_at at size ws) j nowhere) ≡ seen (get_or (list_at at size vs) j nowhere)

  pub len_same : SameCell 0 → low (get_or ws at 0) ≡ low (get_or vs at 0)
  len_same e =
      ap (λ (p : Place). p.number) (sym (ap seen (length_of_list ws at size h)) ∙ e ∙ ap seen (length_of_list vs at size k))

  -- a place of it
  list_alike : (j : ℕ) → j ≤ size → (0 < j → SameCell 0) → shape (get_or (list_at at size ws) j nowhere) ≡ shape (get_or (list_at at size vs) j nowhere)
  list_alike zero b e = ap shape (length_of_list ws at size h) ∙ sym (ap shape (length_of_list vs at size k))
  list_alike (suc j) b e =
      let n : low (get_or ws at 0) ≡ low (get_or vs at 0) = len_same (e (omega arith)) in
      ap shape (cell_of_list ws at size h (suc j) (omega arith) b)
      ∙ ap (λ (t : ℕ). shape (shown_if (leb (suc j) t) (plain 16 (low (get_or ws (at + suc j) 0))))) n
      ∙ plain_alike (leb (suc j) (low (get_or vs at 0))) 16 (low (get_or ws (at + suc j) 0)) (low (get_or vs (at + suc j) 0))
      ∙ sym (ap shape (cell_of_list vs at size k (suc j) (omega arith) b))

  -- and where the whole list is not written
  list_free : (j : ℕ) → j ≤ size → unwritten (get_or (list_at at size ws) j nowhere) ≡ unwritten (get_or (list_at at size vs) j nowhere)
  list_free zero b = ap unwritten (length_of_list ws at size h) ∙ sym (ap unwritten (length_of_list vs at size k))
  list_free (suc j) b =
      ap unwritten (cell_of_list ws at size h (suc j) (omega arith) b)
      ∙ cell_free (leb (suc j) (low (get_or ws at 0))) (leb (suc j) (low (get_or vs at 0))) (low (get_or ws (at + suc j) 0)) (low (get_or vs (at + suc j) 0))
      ∙ sym (ap unwritten (cell_of_list vs at size k (suc j) (omega arith) b))

  cell_same : (j : ℕ) → 0 < j → j ≤ size → j ≤ low (get_or ws at 0) → j ≤ low (get_or vs at 0) → SameCell j → low (get_or ws (at + j) 0) ≡ low (get_or vs (at + j) 0)
  cell_same j a b p q e =
      let x = plain 16 (low (get_or ws (at + j) 0)) in
      let y = plain 16 (low (get_or vs (at + j) 0)) in
      ap (λ (p : Place). p.number)
      (sym (ap (λ (t : Bool). seen (shown_if t x)) (le-leb j (low (get_or ws at 0)) p))
      ∙ sym (ap seen (cell_of_list ws at size h j a b))
      ∙ e
      ∙ ap seen (cell_of_list vs at size k j a b)
      ∙ ap (λ (t : Bool). seen (shown_if t y)) (le-leb j (low (get_or vs at 0)) q))

  -- the slots that it names
  pub items_same : ((j : ℕ) → j ≤ size → SameCell j) → items_of (row_at at size ws) ≡ items_of (row_at at size vs)
  items_same e =
      let n : low (get_or ws at 0) ≡ low (get_or vs at 0) = len_same (e 0 (omega arith)) in
      let a : length (items_of (row_at at size ws)) ≡ min (low (get_or ws at 0)) size = items_length ws at size h in
      let b : length (items_of (row_at at size vs)) ≡ min (low (get_or vs at 0)) size = items_length vs at size k in
      ext_get_or 0 (items_of (row_at at size ws)) (items_of (row_at at size vs)) (a ∙ ap (λ (t : ℕ). min t size) n ∙ sym b)
      (λ (i : ℕ) (p : i < length (items_of (row_at at size ws))).
      let s : at + 1 + i ≡ at + suc i = omega arith in
      sym (item_at ws at size h i p)
      ∙ ap (λ (t : ℕ). low (get_or ws t 0)) s
      ∙ cell_same (suc i) (omega arith) (omega arith) (omega arith) (omega arith) (e (suc i) (omega arith))
      ∙ sym (ap (λ (t : ℕ). low (get_or vs t 0)) s)
      ∙ item_at vs at size k i (omega arith))

-- ---- the slots that the channels' lists hold
held_same : (n : ℕ) (cs ds : List Channel) → length cs ≡ length ds
    → ((c : ℕ) → c < n → c < length cs → in_items (get_or cs c no_channel).held ≡ in_items (get_or ds c no_channel).held) → held (take n cs) ≡ held (take n ds)
unfolding held
held_same zero cs ds l e = refl
held_same (suc n) [] [] l e = refl
held_same (suc n) [] (d ∷ ds) l e = absurd (omega arith)
held_same (suc n) (c ∷ cs) [] l e = absurd (omega arith)
held_same (suc n) (c ∷ cs) (d ∷ ds) l e =
    ap (λ (xs : List ℕ). xs ++ held (take n cs)) (e 0 (omega arith) (omega arith))
    ∙ ap (λ (xs : List ℕ). in_items d.held ++ xs) (held_same n cs ds (omega arith) (λ (k : ℕ) (p : k < n) (q : k < length cs). e (suc k) (omega arith) (omega arith)))

-- ---- a command's place by its kind
byte_width : (k : ℕ) → width_of (kind_from k) 0 ≡ 1
byte_width k = go (known k) refl
  where
    go : (b : Bool) → known k ≡ b → width_of (pick b k 1) 0 ≡ 1
    go true e = ap (λ (ws : List ℕ). get_or ws 0 0) (layout-known k e)
    go false e = ap (λ (ws : List ℕ). get_or ws 0 0) (layout-known 1 refl)

-- its byte, whatever the kind
pub byte_place : (kind x : ℕ) → command_place kind 0 x ≡ as_command (plain 8 (x % 256))
byte_place kind x = ap (λ (w : ℕ). as_command (cut_place (8 * w) x)) (byte_width kind)

by_alike : (t a b : Bool) (n x y : ℕ) → shape (shown_if t (command_by a b (cut_place n x))) ≡ shape (shown_if t (command_by a b (cut_place n y)))
by_alike true true b n x y = refl
by_alike true false true n x y = refl
by_alike true false false n x y = refl
by_alike false true b n x y = refl
by_alike false false true n x y = refl
by_alike false false false n x y = refl

-- kinds that are read alike
command_alike : (t : Bool) (a b j x y : ℕ) → kind_from a ≡ kind_from b → shape (shown_if t (command_place a j x)) ≡ shape (shown_if t (command_place b j y))
command_alike t a b j x y e =
    by_alike t (eqb j 0) (ltb 0 (width_of (kind_from a) j)) (8 * width_of (kind_from a) j) (field_from a j x) (field_from b j y)
    ∙ ap (λ (k : ℕ). shape (shown_if t (command_by (eqb j 0) (ltb 0 (width_of k j)) (cut_place (8 * width_of k j) (field_from b j y))))) e

-- ---- the kind that a slot's byte names
module _ (ws : List ℕ) (s : ℕ) (h : s < 32) where
  abbrev pub slot_words : List ℕ
  slot_words = row_in 26 (section 330 832 ws) s

  pub words_at : (j : ℕ) → j < 26 → get_or slot_words j 0 ≡ get_or ws (330 + s * 26 + j) 0
  words_at j l =
      let p : 330 + (s * 26 + j) ≡ 330 + s * 26 + j = omega arith in
      row_at_lem 26 (section 330 832 ws) s j l ∙ section_number 330 832 (s * 26 + j) ws (omega arith) ∙ ap (λ (k : ℕ). get_or ws k 0) p

  pub slot_is : get_or (whole ws).outgoing s no_outgoing ≡ slot_from slot_words
  slot_is = ap (λ (os : List Outgoing). get_or os s no_outgoing) (pool_is ws) ∙ rows_at slot_from 26 32 (section 330 832 ws) s no_outgoing h

  pub command_is : (get_or (whole ws).outgoing s no_outgoing).command ≡ decoded (get_or slot_words 25 0) (take 16 (drop 9 slot_words))
  unfolding slot_from
  command_is = ap (λ (o : Outgoing). o.command) slot_is

  pub kind_named : names_fields (get_or (whole ws).outgoing s no_outgoing).command ≡ true → kind_from (get_or ws (330 + s * 26 + 25) 0) ≡ get_or ws (330 + s * 26 + 9) 0 % 256 % 16
  kind_named e =
      let n : eqb (get_or (take 16 (drop 9 slot_words)) 0 0 % 256 % 16) (kind_from (get_or slot_words 25 0)) ≡ true =
      sym (named_by (get_or slot_words 25 0) (take 16 (drop 9 slot_words))) ∙ sym (ap names_fields command_is) ∙ e
      in
      let b : get_or (take 16 (drop 9 slot_words)) 0 0 ≡ get_or ws (330 + s * 26 + 9) 0 = command_at slot_words 0 (omega arith) ∙ words_at 9 (omega arith) in
      ap kind_from (sym (words_at 25 (omega arith)))
      ∙ sym (eqb-true (get_or (take 16 (drop 9 slot_words)) 0 0 % 256 % 16) (kind_from (get_or slot_words 25 0)) n)
      ∙ ap (λ (x : ℕ). x % 256 % 16) b

-- ---- two records
module _ (ws vs : List ℕ) (l : length ws ≡ 1236) (m : length vs ≡ 1236) where
  pub count_same : (i : ℕ) → 6 < i → Before ws vs i → get_or ws 6 0 ≡ get_or vs 6 0
  count_same i h b = ap (λ (p : Place). p.number) (read (own_entry ws l 6 (omega arith)) (own_entry vs m 6 (omega arith)) (b 6 h))

  -- the three lists of outgoing slots, and the dispatched
  pub three_same : (q i : ℕ) → q < 3 → 43 + q * 33 + 32 < i → Before ws vs i → items_of (row_at (43 + q * 33) 32 ws) ≡ items_of (row_at (43 + q * 33) 32 vs)
  three_same q i a h b =
      items_same ws vs (43 + q * 33) 32 (omega arith) (omega arith)
      (λ (j : ℕ) (p : j ≤ 32). read (list_entry ws l q j a p) (list_entry vs m q j a p) (b (43 + q * 33 + j) (omega arith)))

  pub dispatched_same : (i : ℕ) → 155 ≤ i → Before ws vs i → items_of (row_at 142 12 ws) ≡ items_of (row_at 142 12 vs)
  dispatched_same i h b =
      items_same ws vs 142 12 (omega arith) (omega arith)
      (λ (j : ℕ) (p : j ≤ 12). read (dispatched_entry ws l j p) (dispatched_entry vs m j p) (b (142 + j) (omega arith)))

  -- a channel's place in its list, where it is below the count
  pub in_held : (c j i : ℕ) → c < 8 → j ≤ 12 → 194 + c * 17 + 4 + j < i → c < get_or ws 6 0 → Before ws vs i
      → seen (get_or (list_at (194 + c * 17 + 4) 12 ws) j nowhere) ≡ seen (get_or (list_at (194 + c * 17 + 4) 12 vs) j nowhere)
  in_held c j i a p h q b =
      let e = get_or (list_at (194 + c * 17 + 4) 12 ws) j nowhere in
      let f = get_or (list_at (194 + c * 17 + 4) 12 vs) j nowhere in
      let n : get_or ws 6 0 ≡ get_or vs 6 0 = count_same i (omega arith) b in
      let t : ltb c (get_or ws 6 0) ≡ true = lt-ltb c (get_or ws 6 0) q in
      let u : ltb c (get_or vs 6 0) ≡ true = lt-ltb c (get_or vs 6 0) (omega arith) in
      read
      (held_entry ws l c j a p ∙ ap (λ (v : Bool). shown_if v e) t)
      (held_entry vs m c j a p ∙ ap (λ (v : Bool). shown_if v f) u)
      (b (194 + c * 17 + 4 + j) h)

  pub held_items_same : (c i : ℕ) → c < 8 → 330 ≤ i → c < get_or ws 6 0 → Before ws vs i → in_items (channel_at (whole ws) c).held ≡ in_items (channel_at (whole vs) c).held
  held_items_same c i a h q b =
      ap in_items (held_is ws c a l)
      ∙ items_same ws vs (194 + c * 17 + 4) 12 (omega arith) (omega arith) (λ (j : ℕ) (p : j ≤ 12). in_held c j i a p (omega arith) q b)
      ∙ sym (ap in_items (held_is vs c a m))

  -- ---- which slots are used
  pub used_out_same : (s i : ℕ) → 142 ≤ i → Before ws vs i → used_outgoing (whole ws) s ≡ used_outgoing (whole vs) s
  used_out_same s i h b =
      used_out_lem ws s
      ∙ ap (λ (xs : List ℕ). pick (has xs s) true (pick (has (items_of (row_at 76 32 ws)) s) true (has (items_of (row_at 109 32 ws)) s))) (three_same 0 i (omega arith) (omega arith) b)
      ∙ ap (λ (xs : List ℕ). pick (has (items_of (row_at 43 32 vs)) s) true (pick (has xs s) true (has (items_of (row_at 109 32 ws)) s))) (three_same 1 i (omega arith) (omega arith) b)
      ∙ ap (λ (xs : List ℕ). pick (has (items_of (row_at 43 32 vs)) s) true (pick (has (items_of (row_at 76 32 vs)) s) true (has xs s))) (three_same 2 i (omega arith) (omega arith) b)
      ∙ sym (used_out_lem vs s)

  held_below_same : (i : ℕ) → 330 ≤ i → Before ws vs i
      → held (below (whole ws).channels (whole ws).standing.channels) ≡ held (below (whole vs).channels (whole vs).standing.channels)
  held_below_same i h b =
      let n : get_or ws 6 0 ≡ get_or vs 6 0 = count_same i (omega arith) b in
      let p : length (whole ws).channels ≡ 8 = (sized ws).channels in
      let q : length (whole vs).channels ≡ 8 = (sized vs).channels in
      ap (λ (s : Standing). held (below (whole ws).channels s.channels)) (standing_is ws)
      ∙ held_same (get_or ws 6 0) (whole ws).channels (whole vs).channels (p ∙ sym q) (λ (c : ℕ) (u : c < get_or ws 6 0) (v : c < length (whole ws).channels). held_items_same c i (omega arith) h u b)
      ∙ ap (λ (k : ℕ). held (below (whole vs).channels k)) n
      ∙ sym (ap (λ (s : Standing). held (below (whole vs).channels s.channels)) (standing_is vs))

  pub used_in_same : (s i : ℕ) → 330 ≤ i → Before ws vs i → used_incoming (whole ws) s ≡ used_incoming (whole vs) s
  used_in_same s i h b =
      used_in ws s
      ∙ ap (λ (xs : List ℕ). pick (has xs s) true (has (held (below (whole ws).channels (whole ws).standing.channels)) s)) (dispatched_same i (omega arith) b)
      ∙ ap (λ (xs : List ℕ). pick (has (items_of (row_at 142 12 vs)) s) true (has xs s)) (held_below_same i h b)
      ∙ sym (used_in vs s)

  -- ---- the kinds of a used slot's fields
  pub byte_same : (s i : ℕ) → s < 32 → 330 + s * 26 + 9 < i → used_outgoing (whole ws) s ≡ true → Before ws vs i
      → get_or ws (330 + s * 26 + 9) 0 % 256 ≡ get_or vs (330 + s * 26 + 9) 0 % 256
  byte_same s i a h u b =
      let x = get_or ws (330 + s * 26 + 9) 0 in
      let y = get_or vs (330 + s * 26 + 9) 0 in
      let p : entry_at ws (330 + s * 26 + 9) ≡ as_command (plain 8 (x % 256)) =
      slot_command_entry ws l s 0 a (omega arith)
      ∙ ap (λ (t : Bool). shown_if t (command_place (get_or ws (330 + s * 26 + 25) 0) 0 x)) u
      ∙ byte_place (get_or ws (330 + s * 26 + 25) 0) x
      in
      let q : entry_at vs (330 + s * 26 + 9) ≡ as_command (plain 8 (y % 256)) =
      slot_command_entry vs m s 0 a (omega arith)
      ∙ ap (λ (t : Bool). shown_if t (command_place (get_or vs (330 + s * 26 + 25) 0) 0 y)) (sym (used_out_same s i (omega arith) b) ∙ u)
      ∙ byte_place (get_or vs (330 + s * 26 + 25) 0) y
      in
      ap (λ (e : Place). e.number) (read p q (b (330 + s * 26 + 9) h))

  pub kinds_same : (s i : ℕ) → s < 32 → 330 + s * 26 + 9 < i → used_outgoing (whole ws) s ≡ true → Named ws i → Named vs i → Before ws vs i
      → kind_from (get_or ws (330 + s * 26 + 25) 0) ≡ kind_from (get_or vs (330 + s * 26 + 25) 0)
  kinds_same s i a h u p q b =
      kind_named ws s a (p s a h u)
      ∙ ap (λ (x : ℕ). x % 16) (byte_same s i a h u b)
      ∙ sym (kind_named vs s a (q s a h (sym (used_out_same s i (omega arith) b) ∙ u)))

  -- ---- what entry i is like, in all regions but a command's
  own_next : (i : ℕ) → i < 43 → shape (entry_at ws i) ≡ shape (entry_at vs i)
  own_next i h = alike (own_entry ws l i h) (own_entry vs m i h) refl

  list_next : (q j : ℕ) → q < 3 → j ≤ 32 → Before ws vs (43 + q * 33 + j) → shape (entry_at ws (43 + q * 33 + j)) ≡ shape (entry_at vs (43 + q * 33 + j))
  list_next q j a p b =
      alike (list_entry ws l q j a p) (list_entry vs m q j a p)
      (list_alike ws vs (43 + q * 33) 32 (omega arith) (omega arith) j p
      (λ (z : 0 < j). read (list_entry ws l q 0 a (omega arith)) (list_entry vs m q 0 a (omega arith)) (b (43 + q * 33 + 0) (omega arith))))

  dispatched_next : (j : ℕ) → j ≤ 12 → Before ws vs (142 + j) → shape (entry_at ws (142 + j)) ≡ shape (entry_at vs (142 + j))
  dispatched_next j p b =
      alike (dispatched_entry ws l j p) (dispatched_entry vs m j p)
      (list_alike ws vs 142 12 (omega arith) (omega arith) j p
      (λ (z : 0 < j). read (dispatched_entry ws l 0 (omega arith)) (dispatched_entry vs m 0 (omega arith)) (b (142 + 0) (omega arith))))

  group_next : (j : ℕ) → j < 39 → shape (entry_at ws (155 + j)) ≡ shape (entry_at vs (155 + j))
  group_next j h = alike (group_entry ws l j h) (group_entry vs m j h) refl

  mark_next : (j : ℕ) → j < 2 → shape (entry_at ws (1234 + j)) ≡ shape (entry_at vs (1234 + j))
  mark_next j h = alike (mark_entry ws l j h) (mark_entry vs m j h) refl

  number_next : (c j : ℕ) → c < 8 → j < 4 → Before ws vs (194 + c * 17 + j) → shape (entry_at ws (194 + c * 17 + j)) ≡ shape (entry_at vs (194 + c * 17 + j))
  number_next c j a p b =
      let x = low (get_or ws (194 + c * 17 + j) 0) in
      let y = low (get_or vs (194 + c * 17 + j) 0) in
      alike (number_entry ws l c j a p) (number_entry vs m c j a p)
      (ap (λ (n : ℕ). shape (shown_if (ltb c n) (plain 16 x))) (count_same (194 + c * 17 + j) (omega arith) b) ∙ plain_alike (ltb c (get_or vs 6 0)) 16 x y)

  held_next : (c j : ℕ) → c < 8 → j ≤ 12 → Before ws vs (194 + c * 17 + 4 + j) → shape (entry_at ws (194 + c * 17 + 4 + j)) ≡ shape (entry_at vs (194 + c * 17 + 4 + j))
  held_next c j a p b =
      alike (held_entry ws l c j a p) (held_entry vs m c j a p)
      (go (ltb c (get_or ws 6 0)) refl ∙ ap (λ (n : ℕ). shape (shown_if (ltb c n) f)) (count_same (194 + c * 17 + 4 + j) (omega arith) b))
    where
      e : Place
      e = get_or (list_at (194 + c * 17 + 4) 12 ws) j nowhere

      f : Place
      f = get_or (list_at (194 + c * 17 + 4) 12 vs) j nowhere

      go : (t : Bool) → ltb c (get_or ws 6 0) ≡ t → shape (shown_if t e) ≡ shape (shown_if t f)
      go true q =
          list_alike ws vs (194 + c * 17 + 4) 12 (omega arith) (omega arith) j p
          (λ (z : 0 < j). in_held c 0 (194 + c * 17 + 4 + j) a (omega arith) (omega arith) (ltb-true c (get_or ws 6 0) q) b)
      go false q = ap shape (list_free ws vs (194 + c * 17 + 4) 12 (omega arith) (omega arith) j p)

  slot_next : (s j : ℕ) → s < 32 → j < 9 → Before ws vs (330 + s * 26 + j) → shape (entry_at ws (330 + s * 26 + j)) ≡ shape (entry_at vs (330 + s * 26 + j))
  slot_next s j a p b =
      let x = get_or ws (330 + s * 26 + j) 0 in
      let y = get_or vs (330 + s * 26 + j) 0 in
      alike (slot_number_entry ws l s j a p) (slot_number_entry vs m s j a p)
      (ap (λ (t : Bool). shape (shown_if t (cut_place (get_or (slot_bits 1) j 0) x))) (used_out_same s (330 + s * 26 + j) (omega arith) b)
      ∙ cut_alike (used_outgoing (whole vs) s) (get_or (slot_bits 1) j 0) x y)

  kind_next : (s : ℕ) → s < 32 → shape (entry_at ws (330 + s * 26 + 25)) ≡ shape (entry_at vs (330 + s * 26 + 25))
  kind_next s a = alike (slot_kind_entry ws l s a) (slot_kind_entry vs m s a) refl

  in_slot_next : (s j : ℕ) → s < 12 → j < 6 → Before ws vs (1162 + s * 6 + j) → shape (entry_at ws (1162 + s * 6 + j)) ≡ shape (entry_at vs (1162 + s * 6 + j))
  in_slot_next s j a p b =
      let x = get_or ws (1162 + s * 6 + j) 0 in
      let y = get_or vs (1162 + s * 6 + j) 0 in
      alike (in_slot_entry ws l s j a p) (in_slot_entry vs m s j a p)
      (ap (λ (t : Bool). shape (shown_if t (cut_place (get_or in_slot_bits j 0) x))) (used_in_same s (1162 + s * 6 + j) (omega arith) b)
      ∙ cut_alike (used_incoming (whole vs) s) (get_or in_slot_bits j 0) x y)

  -- ---- a command's place: its byte, a field of a used slot's, and one of a free slot's
  module _ (s j : ℕ) (a : s < 32) (p : j < 16) (b : Before ws vs (330 + s * 26 + (9 + j))) where
    abbrev place : ℕ
    place = 330 + s * 26 + (9 + j)

    abbrev of_command : Bool → List ℕ → Place
    of_command t us = shown_if t (command_place (get_or us (330 + s * 26 + 25) 0) j (get_or us (330 + s * 26 + (9 + j)) 0))

    vs_used : used_outgoing (whole ws) s ≡ used_outgoing (whole vs) s
    vs_used = used_out_same s place (omega arith) b

    -- by whether the slot is used
    by_use : (f : Place → Place) → ((t : Bool) → used_outgoing (whole ws) s ≡ t → f (of_command t ws) ≡ f (of_command t vs)) → f (entry_at ws place) ≡ f (entry_at vs place)
    by_use f g =
        ap f (slot_command_entry ws l s j a p)
        ∙ g (used_outgoing (whole ws) s) refl
        ∙ ap (λ (t : Bool). f (of_command t vs)) vs_used
        ∙ sym (ap f (slot_command_entry vs m s j a p))

    byte_alike : (t : Bool) → j ≡ 0 → shape (of_command t ws) ≡ shape (of_command t vs)
    byte_alike t z =
        let x = get_or ws place 0 in
        let y = get_or vs place 0 in
        let k = get_or ws (330 + s * 26 + 25) 0 in
        let n = get_or vs (330 + s * 26 + 25) 0 in
        ap (λ (i : ℕ). shape (shown_if t (command_place k i x))) z
        ∙ ap (λ (e : Place). shape (shown_if t e)) (byte_place k x)
        ∙ byte_next t (x % 256) (y % 256)
        ∙ sym (ap (λ (e : Place). shape (shown_if t e)) (byte_place n y))
        ∙ sym (ap (λ (i : ℕ). shape (shown_if t (command_place n i y))) z)
      where
        byte_next : (u : Bool) (v w : ℕ) → shape (shown_if u (as_command (plain 8 v))) ≡ shape (shown_if u (as_command (plain 8 w)))
        byte_next true v w = refl
        byte_next false v w = refl

    field_alike : (t : Bool) → kind_from (get_or ws (330 + s * 26 + 25) 0) ≡ kind_from (get_or vs (330 + s * 26 + 25) 0) → shape (of_command t ws) ≡ shape (of_command t vs)
    field_alike t e =
        command_alike t (get_or ws (330 + s * 26 + 25) 0) (get_or vs (330 + s * 26 + 25) 0) j (get_or ws place 0) (get_or vs place 0) e

    used_alike : Named ws place → Named vs place → used_outgoing (whole ws) s ≡ true → shape (of_command true ws) ≡ shape (of_command true vs)
    used_alike n k u =
        below_or j 1
        (λ (h : j < 1). byte_alike true (omega arith))
        (λ (h : 1 ≤ j). field_alike true (kinds_same s place a (omega arith) u n k b))

    command_next : Named ws place → Named vs place → Free ws vs place → shape (entry_at ws place) ≡ shape (entry_at vs place)
    command_next n k g = by_use shape go
      where
        go : (t : Bool) → used_outgoing (whole ws) s ≡ t → shape (of_command t ws) ≡ shape (of_command t vs)
        go true u = used_alike n k u
        go false u =
            below_or j 1
            (λ (h : j < 1). byte_alike false (omega arith))
            (λ (h : 1 ≤ j). field_alike false (g s a (omega arith) u))

    command_seen : Named ws place → Named vs place → shape (seen (entry_at ws place)) ≡ shape (seen (entry_at vs place))
    command_seen n k = by_use (λ (e : Place). shape (seen e)) go
      where
        go : (t : Bool) → used_outgoing (whole ws) s ≡ t → shape (seen (of_command t ws)) ≡ shape (seen (of_command t vs))
        go true u = shape-seen (of_command true ws) (of_command true vs) (used_alike n k u)
        go false u = refl

  -- ---- entry i
  abbrev All : ℕ → Type 0
  All i = Named ws i → Named vs i → Free ws vs i → Before ws vs i → shape (entry_at ws i) ≡ shape (entry_at vs i)

  abbrev Seen : ℕ → Type 0
  Seen i = Named ws i → Named vs i → Before ws vs i → shape (seen (entry_at ws i)) ≡ shape (seen (entry_at vs i))

  all_regions : Regions All
  all_regions =
      record {
        own = λ i h n k g b. own_next i h;
        list = λ q j h p n k g b. list_next q j h p b;
        dispatched = λ j p n k g b. dispatched_next j p b;
        group = λ j h n k g b. group_next j h;
        number = λ c j h p n k g b. number_next c j h p b;
        held = λ c j h p n k g b. held_next c j h p b;
        slot = λ s j h p n k g b. slot_next s j h p b;
        command = λ s j h p n k g b. command_next s j h p b n k g;
        kind = λ s h n k g b. kind_next s h;
        in_slot = λ s j h p n k g b. in_slot_next s j h p b;
        mark = λ j h n k g b. mark_next j h;
      }

  seen_regions : Regions Seen
  seen_regions =
      record {
        own = λ i h n k b. shape-seen (entry_at ws i) (entry_at vs i) (own_next i h);
        list = λ q j h p n k b. shape-seen (entry_at ws (43 + q * 33 + j)) (entry_at vs (43 + q * 33 + j)) (list_next q j h p b);
        dispatched = λ j p n k b. shape-seen (entry_at ws (142 + j)) (entry_at vs (142 + j)) (dispatched_next j p b);
        group = λ j h n k b. shape-seen (entry_at ws (155 + j)) (entry_at vs (155 + j)) (group_next j h);
        number = λ c j h p n k b. shape-seen (entry_at ws (194 + c * 17 + j)) (entry_at vs (194 + c * 17 + j)) (number_next c j h p b);
        held = λ c j h p n k b. shape-seen (entry_at ws (194 + c * 17 + 4 + j)) (entry_at vs (194 + c * 17 + 4 + j)) (held_next c j h p b);
        slot = λ s j h p n k b. shape-seen (entry_at ws (330 + s * 26 + j)) (entry_at vs (330 + s * 26 + j)) (slot_next s j h p b);
        command = λ s j h p n k b. command_seen s j h p b n k;
        kind = λ s h n k b. shape-seen (entry_at ws (330 + s * 26 + 25)) (entry_at vs (330 + s * 26 + 25)) (kind_next s h);
        in_slot = λ s j h p n k b. shape-seen (entry_at ws (1162 + s * 6 + j)) (entry_at vs (1162 + s * 6 + j)) (in_slot_next s j h p b);
        mark = λ j h n k b. shape-seen (entry_at ws (1234 + j)) (entry_at vs (1234 + j)) (mark_next j h);
      }

-- ---- the first i entries
pub before_take : (ws vs : List ℕ) (i : ℕ) → take i (table (whole ws)) ≡ take i (table (whole vs)) → Before ws vs i
before_take ws vs i e k h =
    let t : entry_at ws k ≡ entry_at vs k =
    sym (get_or-take i (table (whole ws)) k nowhere h) ∙ ap (λ (es : List Place). get_or es k nowhere) e ∙ get_or-take i (table (whole vs)) k nowhere h
    in
    ap seen t

pub before_seen : (ws vs : List ℕ) (i : ℕ) → take i (map seen (table (whole ws))) ≡ take i (map seen (table (whole vs))) → Before ws vs i
before_seen ws vs i e k h =
    let a = table (whole ws) in
    let b = table (whole vs) in
    sym (get_or-map seen a k nowhere)
    ∙ sym (get_or-take i (map seen a) k nowhere h)
    ∙ ap (λ (es : List Place). get_or es k nowhere) e
    ∙ get_or-take i (map seen b) k nowhere h
    ∙ get_or-map seen b k nowhere

-- all of it, where the free slots' kinds are the same
pub next_shape : (ws vs : List ℕ) (i : ℕ) → length ws ≡ 1236 → length vs ≡ 1236 → i < 1236 → Named ws i → Named vs i → Free ws vs i
    → Before ws vs i → shape (get_or (table (whole ws)) i nowhere) ≡ shape (get_or (table (whole vs)) i nowhere)
next_shape ws vs i l m h n k g b = by_region (All ws vs l m) (all_regions ws vs l m) i h n k g b

pub next : (ws vs : List ℕ) (i : ℕ) → length ws ≡ 1236 → length vs ≡ 1236 → i < 1236 → Named ws i → Named vs i → Free ws vs i
    → take i (table (whole ws)) ≡ take i (table (whole vs)) → shape (get_or (table (whole ws)) i nowhere) ≡ shape (get_or (table (whole vs)) i nowhere)
next ws vs i l m h n k g e = next_shape ws vs i l m h n k g (before_take ws vs i e)

-- without a word on the free slots: what is written of it
pub next_seen : (ws vs : List ℕ) (i : ℕ) → length ws ≡ 1236 → length vs ≡ 1236 → i < 1236 → Named ws i → Named vs i
    → Before ws vs i → shape (seen (get_or (table (whole ws)) i nowhere)) ≡ shape (seen (get_or (table (whole vs)) i nowhere))
next_seen ws vs i l m h n k b = by_region (Seen ws vs l m) (seen_regions ws vs l m) i h n k b

pub next_written : (ws vs : List ℕ) (i : ℕ) → length ws ≡ 1236 → length vs ≡ 1236 → i < 1236 → Named ws i → Named vs i
    → Before ws vs i → (get_or (table (whole ws)) i nowhere).is_written ≡ (get_or (table (whole vs)) i nowhere).is_written
next_written ws vs i l m h n k b =
    sym (seen_written (get_or (table (whole ws)) i nowhere))
    ∙ ap (λ (e : Place). e.is_written) (next_seen ws vs i l m h n k b)
    ∙ seen_written (get_or (table (whole vs)) i nowhere)
