-- Two records whose tables are the same as far as they are written have the same of all that counts: the own groups, the lists' lengths and slots, the channels below the count,
-- what each used slot holds.
-- The argument: each number that counts is the number of a written entry; a command is settled by its kind and its row, and its kind is the one that its byte names.
use Prim.Native.Nat.{ℕ, ◌+◌, ◌*◌, ◌%◌, ◌≤◌, ◌<◌}
use mathlib.Core.Path.{◌≡◌, refl, ap, sym, ◌∙◌}
use mathlib.Core.Bool.{Bool, true, false}
use mathlib.Core.List.{List, ◌∷◌}
use native.Mathlib.Omega.{arith}
use lib.Dec.{leb, ltb, eqb}
use lib.ListN.{length, get_or, take, drop}
use lib.Seq.{ext_get_or}
use borrow.Author.Tests.{lt-ltb, ltb-false}
use Rattle.numbers.specs.Pick.{pick}
use Rattle.command.specs.Layout.{layout, width_of}
use Rattle.command.specs.Rows.{kind_of, row_of}
use Rattle.command.proofs.LayoutLaws.{layout-length}
use Rattle.command.proofs.RowLengths.{row_of-length}
use Rattle.command.proofs.Settled.{commands_apart}
use Rattle.wire.specs.Decoded.{decoded}
use Rattle.lists.specs.Rows.{low, section, row_at, len_of}
use Rattle.lists.proofs.Placed.{row_is}
use Rattle.record.specs.Fresh.{no_outgoing, no_incoming}
use Rattle.record.specs.declared.groups.Ids.{Ids}
use Rattle.record.specs.declared.groups.Standing.{Standing}
use Rattle.record.specs.declared.groups.Bandwidth.{Bandwidth}
use Rattle.record.specs.declared.groups.Totals.{Totals}
use Rattle.record.specs.declared.groups.Times.{Times}
use Rattle.record.specs.declared.groups.Loss.{Loss}
use Rattle.record.specs.declared.groups.Throttling.{Throttling}
use Rattle.record.specs.declared.groups.Limits.{Limits}
use Rattle.record.specs.declared.groups.Trips.{Trips}
use Rattle.record.specs.declared.groups.Flow.{Flow}
use Rattle.record.specs.declared.groups.Waiting.{Waiting}
use Rattle.record.specs.declared.groups.Incoming.{Incoming}
use Rattle.record.specs.declared.groups.Marks.{Marks}
use Rattle.record.specs.declared.incoming.InList.{InList}
use Rattle.pool.specs.Rows.{row_at as row_in}
use Rattle.pool.specs.Slots.{flag, slot_from, in_slot_from, kind_from}
use Rattle.pool.proofs.Rows.{rows_at, row_at_lem}
use Rattle.pool.proofs.Decoding.{command_at}
use Rattle.peer.specs.declared.Peer.{Peer}
use Rattle.places.specs.Whole.{whole}
use Rattle.places.specs.Updates.{channel_at, numbers_of}
use Rattle.places.proofs.Sections.{section-length, section_number}
use Rattle.places.proofs.GroupLaws.{waiting_is, marks_is, unsequenced_is}
use Rattle.places.proofs.ChannelLaws.{held_is, numbers_is}
use Rattle.places.proofs.PoolLaws.{in_pool_is}
use Rattle.order.specs.Table.{plain, nowhere, own_bits, own_row, group_bits, slot_bits, in_slot_bits, used_outgoing, used_incoming, as_command, unwritten}
use Rattle.order.specs.CodeCuts.{cut, cut_place, field_from, command_place}
use Rattle.order.specs.declared.Place.{Place}
use Rattle.order.proofs.TableLaws.{shown_if, numbered_at}
use Rattle.order.proofs.PartLaws.{list_at, group_wide}
use Rattle.order.proofs.SlotLaws.{kind_decoded, decoded_at}
use Rattle.order.proofs.WholeLaws.{table_own}
use Rattle.order.proofs.EntryLaws.{entry_at, group_entry, mark_entry, list_entry, dispatched_entry, number_entry, slot_number_entry, slot_command_entry, in_slot_entry}
use Rattle.order.proofs.Determined.{seen, Named, Before, read, len_same, count_same, in_held, used_out_same, used_in_same, kinds_same, slot_words, words_at, slot_is}

-- ---- the groups that the own numbers are
pub record OwnSame (p q : Peer) : Type 0 where
  pub ids : p.ids ≡ q.ids
  pub standing : p.standing ≡ q.standing
  pub bandwidth : p.bandwidth ≡ q.bandwidth
  pub totals : p.totals ≡ q.totals
  pub times : p.times ≡ q.times
  pub loss : p.loss ≡ q.loss
  pub throttling : p.throttling ≡ q.throttling
  pub limits : p.limits ≡ q.limits
  pub trips : p.trips ≡ q.trips
  pub flow : p.flow ≡ q.flow

abbrev nth : List ℕ → ℕ → ℕ
nth r k = get_or r k 0

ids_of : List ℕ → Ids
ids_of r =
    record { outgoing_peer = nth r 0; incoming_peer = nth r 1; connect = nth r 2; outgoing_session = nth r 3; incoming_session = nth r 4 }

standing_of : List ℕ → Standing
standing_of r = record { state = nth r 5; channels = nth r 6 }

bandwidth_of : List ℕ → Bandwidth
bandwidth_of r = record { incoming = nth r 7; outgoing = nth r 8; incoming_epoch = nth r 9; outgoing_epoch = nth r 10 }

totals_of : List ℕ → Totals
totals_of r = record { incoming = nth r 11; outgoing = nth r 12 }

times_of : List ℕ → Times
times_of r = record { last_send = nth r 13; last_receive = nth r 14; next_timeout = nth r 15; earliest_timeout = nth r 16 }

loss_of : List ℕ → Loss
loss_of r = record { epoch = nth r 17; sent = nth r 18; lost = nth r 19; loss = nth r 20; variance = nth r 21 }

throttling_of : List ℕ → Throttling
throttling_of r =
    record {
      value = nth r 22;
      limit = nth r 23;
      counter = nth r 24;
      epoch = nth r 25;
      acceleration = nth r 26;
      deceleration = nth r 27;
      interval = nth r 28;
    }

limits_of : List ℕ → Limits
limits_of r = record { ping = nth r 29; timeout = nth r 30; minimum = nth r 31; maximum = nth r 32 }

trips_of : List ℕ → Trips
trips_of r =
    record { last = nth r 33; lowest = nth r 34; last_variance = nth r 35; highest_variance = nth r 36; mean = nth r 37; variance = nth r 38 }

flow_of : List ℕ → Flow
flow_of r = record { mtu = nth r 39; window = nth r 40; transit = nth r 41; own_number = record { 0 = nth r 42 } }

own_groups : (p q : Peer) → own_row p ≡ own_row q → OwnSame p q
unfolding own_row ids_of standing_of bandwidth_of totals_of times_of loss_of throttling_of limits_of trips_of flow_of
own_groups p q e =
    record {
      ids = ap ids_of e;
      standing = ap standing_of e;
      bandwidth = ap bandwidth_of e;
      totals = ap totals_of e;
      times = ap times_of e;
      loss = ap loss_of e;
      throttling = ap throttling_of e;
      limits = ap limits_of e;
      trips = ap trips_of e;
      flow = ap flow_of e;
    }

-- ---- numbers of written places
own_row-length : (p : Peer) → length (own_row p) ≡ 43
unfolding own_row
own_row-length p = refl

flag_apart : (a b : Bool) → flag a ≡ flag b → a ≡ b
flag_apart true true e = refl
flag_apart true false e = absurd (omega arith)
flag_apart false true e = absurd (omega arith)
flag_apart false false e = refl

waiting_eq : {a b c x y z : ℕ} → a ≡ x → b ≡ y → c ≡ z
    → ◌≡◌ {A = Waiting} (record { event = a; total = b; queued = c }) (record { event = x; total = y; queued = z })
waiting_eq p q r = rw (p, q, r)

marks_eq : {a b x y : ℕ} → a ≡ x → b ≡ y → ◌≡◌ {A = Marks} (record { low = a; high = b }) (record { low = x; high = y })
marks_eq p q = rw (p, q)

-- a slot by its numbers and its command
slot_eq : (r t : List ℕ) → ((j : ℕ) → j < 9 → cut (get_or (slot_bits 1) j 0) (get_or r j 0) ≡ cut (get_or (slot_bits 1) j 0) (get_or t j 0))
    → decoded (get_or r 25 0) (take 16 (drop 9 r)) ≡ decoded (get_or t 25 0) (take 16 (drop 9 t)) → slot_from r ≡ slot_from t
unfolding slot_from
slot_eq r t n c =
    let e0 : get_or r 0 0 % 65536 ≡ get_or t 0 0 % 65536 = n 0 (omega arith) in
    let e1 : get_or r 1 0 % 65536 ≡ get_or t 1 0 % 65536 = n 1 (omega arith) in
    let e2 : get_or r 2 0 ≡ get_or t 2 0 = n 2 (omega arith) in
    let e3 : get_or r 3 0 ≡ get_or t 3 0 = n 3 (omega arith) in
    let e4 : get_or r 4 0 ≡ get_or t 4 0 = n 4 (omega arith) in
    let e5 : get_or r 5 0 ≡ get_or t 5 0 = n 5 (omega arith) in
    let e6 : get_or r 6 0 % 65536 ≡ get_or t 6 0 % 65536 = n 6 (omega arith) in
    let e7 : get_or r 7 0 % 65536 ≡ get_or t 7 0 % 65536 = n 7 (omega arith) in
    let e8 : leb 1 (get_or r 8 0) ≡ leb 1 (get_or t 8 0) = flag_apart (leb 1 (get_or r 8 0)) (leb 1 (get_or t 8 0)) (n 8 (omega arith)) in
    rw (e0, e1, e2, e3, e4, e5, e6, e7, e8, c)

-- a command by its kind and its numbers
abbrev field_of : ℕ → List ℕ → ℕ → ℕ
field_of k xs j = cut (8 * width_of (kind_from k) j) (field_from k j (get_or xs j 0))

command_eq : (k n : ℕ) (xs ys : List ℕ) → kind_from k ≡ kind_from n → ((j : ℕ) → j < 16 → field_of k xs j ≡ field_of n ys j) → decoded k xs ≡ decoded n ys
command_eq k n xs ys e f =
    let c = decoded k xs in
    let d = decoded n ys in
    let kinds : kind_of c.fields ≡ kind_of d.fields = kind_decoded k xs ∙ e ∙ sym (kind_decoded n ys) in
    let a : length (row_of c) ≡ length (row_of d) = sym (row_of-length c) ∙ ap (λ (i : ℕ). length (layout i)) kinds ∙ row_of-length d in
    let rows : row_of c ≡ row_of d =
    ext_get_or 0 (row_of c) (row_of d) a
    (λ (j : ℕ) (p : j < length (row_of c)). decoded_at k xs j ∙ f j (omega (arith, p, row_of-length c, layout-length (kind_of c.fields))) ∙ sym (decoded_at n ys j))
    in
    commands_apart c d (ap (λ (i : ℕ). i ∷ row_of c) kinds ∙ ap (λ (r : List ℕ). kind_of d.fields ∷ r) rows)

-- the number at a command's place
command_number : (k j x : ℕ) → (seen (command_place k j x)).number ≡ cut (8 * width_of (kind_from k) j) (field_from k j x)
command_number k j x = go (eqb j 0) (ltb 0 (width_of (kind_from k) j)) refl
  where
    e : Place
    e = cut_place (8 * width_of (kind_from k) j) (field_from k j x)

    go : (a b : Bool) → ltb 0 (width_of (kind_from k) j) ≡ b
        → (seen (pick a (as_command e) (pick b e (unwritten e)))).number ≡ cut (8 * width_of (kind_from k) j) (field_from k j x)
    go true b q = refl
    go false true q = refl
    go false false q =
        let z : width_of (kind_from k) j ≡ 0 = omega (arith, ltb-false 0 (width_of (kind_from k) j) q) in
        none (field_from k j x) ∙ sym (ap (λ (w : ℕ). cut (8 * w) (field_from k j x)) z)
      where
        none : (y : ℕ) → 0 ≡ cut 0 y
        none y = omega arith

in_slot_eq : (r t : List ℕ) → ((j : ℕ) → j < 6 → cut (get_or in_slot_bits j 0) (get_or r j 0) ≡ cut (get_or in_slot_bits j 0) (get_or t j 0)) → in_slot_from r ≡ in_slot_from t
unfolding in_slot_from
in_slot_eq r t n =
    let e0 : get_or r 0 0 % 256 ≡ get_or t 0 0 % 256 = n 0 (omega arith) in
    let e1 : get_or r 1 0 % 256 ≡ get_or t 1 0 % 256 = n 1 (omega arith) in
    let e2 : get_or r 2 0 % 65536 ≡ get_or t 2 0 % 65536 = n 2 (omega arith) in
    let e3 : get_or r 3 0 ≡ get_or t 3 0 = n 3 (omega arith) in
    let e4 : get_or r 4 0 ≡ get_or t 4 0 = n 4 (omega arith) in
    let e5 : get_or r 5 0 ≡ get_or t 5 0 = n 5 (omega arith) in
    rw (e0, e1, e2, e3, e4, e5)

-- an incoming slot's row
in_slot_is : (ws : List ℕ) (s : ℕ) → s < 12 → get_or (whole ws).incoming s no_incoming ≡ in_slot_from (row_in 6 (section 1162 72 ws) s)
in_slot_is ws s h =
    ap (λ (is : List Incoming). get_or is s no_incoming) (in_pool_is ws) ∙ rows_at in_slot_from 6 12 (section 1162 72 ws) s no_incoming h

in_words_at : (ws : List ℕ) (s j : ℕ) → s < 12 → j < 6 → get_or (row_in 6 (section 1162 72 ws) s) j 0 ≡ get_or ws (1162 + s * 6 + j) 0
in_words_at ws s j h l =
    let p : 1162 + (s * 6 + j) ≡ 1162 + s * 6 + j = omega arith in
    row_at_lem 6 (section 1162 72 ws) s j l ∙ section_number 1162 72 (s * 6 + j) ws (omega arith) ∙ ap (λ (k : ℕ). get_or ws k 0) p

-- ---- two records
module _ (ws vs : List ℕ) (l : length ws ≡ 1236) (m : length vs ≡ 1236) (b : Before ws vs 1236) where
  own_row_entry : (us : List ℕ) → length us ≡ 1236 → (i : ℕ) → i < 43 → entry_at us i ≡ plain (get_or own_bits i 0) (get_or (own_row (whole us)) i 0)
  own_row_entry us k i h = sym (table_own us k i h) ∙ numbered_at own_bits (own_row (whole us)) i h (omega (arith, own_row-length (whole us)))

  pub own_same : OwnSame (whole ws) (whole vs)
  own_same =
      own_groups (whole ws) (whole vs)
      (ext_get_or 0 (own_row (whole ws)) (own_row (whole vs)) (own_row-length (whole ws) ∙ sym (own_row-length (whole vs)))
      (λ (i : ℕ) (p : i < length (own_row (whole ws))).
      let h : i < 43 = omega (arith, p, own_row-length (whole ws)) in
      ap (λ (e : Place). e.number) (read (own_row_entry ws l i h) (own_row_entry vs m i h) (b i (omega arith)))))

  -- ---- the groups behind the lists
  group_number : (j : ℕ) → j < 39 → cut (get_or group_bits j 0) (get_or ws (155 + j) 0) ≡ cut (get_or group_bits j 0) (get_or vs (155 + j) 0)
  group_number j h = ap (λ (e : Place). e.number) (read (group_entry ws l j h) (group_entry vs m j h) (b (155 + j) (omega arith)))

  wide_number : (j : ℕ) → 4 ≤ j → j < 39 → get_or ws (155 + j) 0 ≡ get_or vs (155 + j) 0
  wide_number j a h =
      let e : get_or group_bits j 0 ≡ 32 = group_wide j a h in
      sym (ap (λ (n : ℕ). cut n (get_or ws (155 + j) 0)) e) ∙ group_number j h ∙ ap (λ (n : ℕ). cut n (get_or vs (155 + j) 0)) e

  window_same : section 159 32 vs ≡ section 159 32 ws
  window_same =
      let p : length (section 159 32 vs) ≡ 32 = section-length 159 32 vs (omega arith) in
      let q : length (section 159 32 ws) ≡ 32 = section-length 159 32 ws (omega arith) in
      ext_get_or 0 (section 159 32 vs) (section 159 32 ws) (p ∙ sym q)
      (λ (i : ℕ) (h : i < length (section 159 32 vs)).
      let e : 159 + i ≡ 155 + (4 + i) = omega arith in
      section_number 159 32 i vs (omega arith)
      ∙ ap (λ (k : ℕ). get_or vs k 0) e
      ∙ sym (wide_number (4 + i) (omega arith) (omega arith))
      ∙ sym (ap (λ (k : ℕ). get_or ws k 0) e)
      ∙ sym (section_number 159 32 i ws (omega arith)))

  pub unsequenced_same : (whole ws).unsequenced ≡ (whole vs).unsequenced
  unsequenced_same =
      unsequenced_is ws (get_or vs 155 0 % 65536) (get_or vs 156 0 % 65536) (get_or vs 157 0 % 65536) (get_or vs 158 0 % 65536) (section 159 32 vs)
      (sym (group_number 0 (omega arith))) (sym (group_number 1 (omega arith))) (sym (group_number 2 (omega arith))) (sym (group_number 3 (omega arith))) window_same
      ∙ sym (unsequenced_is vs (get_or vs 155 0 % 65536) (get_or vs 156 0 % 65536) (get_or vs 157 0 % 65536) (get_or vs 158 0 % 65536) (section 159 32 vs) refl refl refl refl refl)

  pub waiting_same : (whole ws).waiting ≡ (whole vs).waiting
  waiting_same =
      let e : get_or ws 191 0 ≡ get_or vs 191 0 = wide_number 36 (omega arith) (omega arith) in
      let f : get_or ws 192 0 ≡ get_or vs 192 0 = wide_number 37 (omega arith) (omega arith) in
      let g : get_or ws 193 0 ≡ get_or vs 193 0 = wide_number 38 (omega arith) (omega arith) in
      waiting_is ws ∙ waiting_eq e f g ∙ sym (waiting_is vs)

  mark_number : (j : ℕ) → j < 2 → get_or ws (1234 + j) 0 ≡ get_or vs (1234 + j) 0
  mark_number j h = ap (λ (e : Place). e.number) (read (mark_entry ws l j h) (mark_entry vs m j h) (b (1234 + j) (omega arith)))

  pub marks_same : (whole ws).marks ≡ (whole vs).marks
  marks_same =
      let e : get_or ws 1234 0 ≡ get_or vs 1234 0 = mark_number 0 (omega arith) in
      let f : get_or ws 1235 0 ≡ get_or vs 1235 0 = mark_number 1 (omega arith) in
      marks_is ws ∙ marks_eq e f ∙ sym (marks_is vs)

  -- ---- the lists' lengths
  row_len : (at size : ℕ) → at + size + 1 ≤ 1236 → seen (get_or (list_at at size ws) 0 nowhere) ≡ seen (get_or (list_at at size vs) 0 nowhere) → len_of (row_at at size ws) ≡ len_of (row_at at size vs)
  row_len at size h e =
      ap len_of (row_is ws at size (omega arith)) ∙ len_same ws vs at size (omega arith) (omega arith) e ∙ sym (ap len_of (row_is vs at size (omega arith)))

  pub three_len : (q : ℕ) → q < 3 → len_of (row_at (43 + q * 33) 32 ws) ≡ len_of (row_at (43 + q * 33) 32 vs)
  three_len q a =
      row_len (43 + q * 33) 32 (omega arith) (read (list_entry ws l q 0 a (omega arith)) (list_entry vs m q 0 a (omega arith)) (b (43 + q * 33 + 0) (omega arith)))

  pub dispatched_len_lem : len_of (row_at 142 12 ws) ≡ len_of (row_at 142 12 vs)
  dispatched_len_lem = row_len 142 12 (omega arith) (read (dispatched_entry ws l 0 (omega arith)) (dispatched_entry vs m 0 (omega arith)) (b (142 + 0) (omega arith)))

  -- ---- a channel below the count
  module _ (c : ℕ) (h : c < 8) (q : c < get_or ws 6 0) where
    pub held-len : (channel_at (whole ws) c).held.len ≡ (channel_at (whole vs) c).held.len
    held-len =
        ap (λ (i : InList). i.len) (held_is ws c h l)
        ∙ row_len (194 + c * 17 + 4) 12 (omega arith) (in_held ws vs l m c 0 1236 h (omega arith) (omega arith) q b)
        ∙ sym (ap (λ (i : InList). i.len) (held_is vs c h m))

    channel_number_same : (j : ℕ) → j < 4 → low (get_or ws (194 + c * 17 + j) 0) ≡ low (get_or vs (194 + c * 17 + j) 0)
    channel_number_same j p =
        let n : get_or ws 6 0 ≡ get_or vs 6 0 = count_same ws vs l m 1236 (omega arith) b in
        let t : ltb c (get_or ws 6 0) ≡ true = lt-ltb c (get_or ws 6 0) q in
        let u : ltb c (get_or vs 6 0) ≡ true = lt-ltb c (get_or vs 6 0) (omega arith) in
        ap (λ (e : Place). e.number)
        (read
        (number_entry ws l c j h p ∙ ap (λ (v : Bool). shown_if v (plain 16 (low (get_or ws (194 + c * 17 + j) 0)))) t)
        (number_entry vs m c j h p ∙ ap (λ (v : Bool). shown_if v (plain 16 (low (get_or vs (194 + c * 17 + j) 0)))) u)
        (b (194 + c * 17 + j) (omega arith)))

    pub numbers_same : numbers_of (channel_at (whole ws) c) ≡ numbers_of (channel_at (whole vs) c)
    numbers_same =
        let z : 194 + c * 17 ≡ 194 + c * 17 + 0 = omega arith in
        let at : ℕ → ℕ = λ (j : ℕ). low (get_or vs (194 + c * 17 + j) 0) in
        numbers_is ws c (at 0) (at 1) (at 2) (at 3) h l
        (sym (channel_number_same 0 (omega arith)) ∙ sym (ap (λ (k : ℕ). low (get_or ws k 0)) z))
        (sym (channel_number_same 1 (omega arith)))
        (sym (channel_number_same 2 (omega arith)))
        (sym (channel_number_same 3 (omega arith)))
        ∙ sym (numbers_is vs c (at 0) (at 1) (at 2) (at 3) h m (sym (ap (λ (k : ℕ). low (get_or vs k 0)) z)) refl refl refl)

  -- ---- a used outgoing slot
  module _ (s : ℕ) (h : s < 32) (u : used_outgoing (whole ws) s ≡ true) where
    vs_used : used_outgoing (whole vs) s ≡ true
    vs_used = sym (used_out_same ws vs l m s 1236 (omega arith) b) ∙ u

    slot_number : (us : List ℕ) → length us ≡ 1236 → used_outgoing (whole us) s ≡ true → (j : ℕ) → j < 9
        → entry_at us (330 + s * 26 + j) ≡ cut_place (get_or (slot_bits 1) j 0) (get_or (slot_words us s h) j 0)
    slot_number us k t j p =
        slot_number_entry us k s j h p
        ∙ ap (λ (v : Bool). shown_if v (cut_place (get_or (slot_bits 1) j 0) (get_or us (330 + s * 26 + j) 0))) t
        ∙ ap (cut_place (get_or (slot_bits 1) j 0)) (sym (words_at us s h j (omega arith)))

    abbrev kind_at : List ℕ → ℕ
    kind_at us = get_or (slot_words us s h) 25 0

    abbrev row_of_command : List ℕ → List ℕ
    row_of_command us = take 16 (drop 9 (slot_words us s h))

    field_entry : (us : List ℕ) → length us ≡ 1236 → used_outgoing (whole us) s ≡ true → (j : ℕ) → j < 16
        → entry_at us (330 + s * 26 + (9 + j)) ≡ command_place (kind_at us) j (get_or (row_of_command us) j 0)
    field_entry us k t j p =
        slot_command_entry us k s j h p
        ∙ ap (λ (v : Bool). shown_if v (command_place (get_or us (330 + s * 26 + 25) 0) j (get_or us (330 + s * 26 + (9 + j)) 0))) t
        ∙ ap (λ (n : ℕ). command_place n j (get_or us (330 + s * 26 + (9 + j)) 0)) (sym (words_at us s h 25 (omega arith)))
        ∙ ap (command_place (kind_at us) j) (sym (words_at us s h (9 + j) (omega arith)) ∙ sym (command_at (slot_words us s h) j p))

    field_same : (j : ℕ) → j < 16 → field_of (kind_at ws) (row_of_command ws) j ≡ field_of (kind_at vs) (row_of_command vs) j
    field_same j p =
        sym (command_number (kind_at ws) j (get_or (row_of_command ws) j 0))
        ∙ ap (λ (e : Place). e.number) (read (field_entry ws l u j p) (field_entry vs m vs_used j p) (b (330 + s * 26 + (9 + j)) (omega arith)))
        ∙ command_number (kind_at vs) j (get_or (row_of_command vs) j 0)

    pub out_slot_same : Named ws 1236 → Named vs 1236 → get_or (whole ws).outgoing s no_outgoing ≡ get_or (whole vs).outgoing s no_outgoing
    out_slot_same n k =
        let kinds : kind_from (kind_at ws) ≡ kind_from (kind_at vs) =
        ap kind_from (words_at ws s h 25 (omega arith)) ∙ kinds_same ws vs l m s 1236 h (omega arith) u n k b ∙ sym (ap kind_from (words_at vs s h 25 (omega arith)))
        in
        slot_is ws s h
        ∙ slot_eq (slot_words ws s h) (slot_words vs s h)
        (λ (j : ℕ) (p : j < 9). ap (λ (e : Place). e.number) (read (slot_number ws l u j p) (slot_number vs m vs_used j p) (b (330 + s * 26 + j) (omega arith))))
        (command_eq (kind_at ws) (kind_at vs) (row_of_command ws) (row_of_command vs) kinds field_same)
        ∙ sym (slot_is vs s h)

  -- ---- a used incoming slot
  module _ (s : ℕ) (h : s < 12) (u : used_incoming (whole ws) s ≡ true) where
    in_number : (us : List ℕ) → length us ≡ 1236 → used_incoming (whole us) s ≡ true → (j : ℕ) → j < 6
        → entry_at us (1162 + s * 6 + j) ≡ cut_place (get_or in_slot_bits j 0) (get_or (row_in 6 (section 1162 72 us) s) j 0)
    in_number us k t j p =
        in_slot_entry us k s j h p
        ∙ ap (λ (v : Bool). shown_if v (cut_place (get_or in_slot_bits j 0) (get_or us (1162 + s * 6 + j) 0))) t
        ∙ ap (cut_place (get_or in_slot_bits j 0)) (sym (in_words_at us s j h p))

    pub in_slot_same : get_or (whole ws).incoming s no_incoming ≡ get_or (whole vs).incoming s no_incoming
    in_slot_same =
        let t : used_incoming (whole vs) s ≡ true = sym (used_in_same ws vs l m s 1236 (omega arith) b) ∙ u in
        in_slot_is ws s h
        ∙ in_slot_eq (row_in 6 (section 1162 72 ws) s) (row_in 6 (section 1162 72 vs) s)
        (λ (j : ℕ) (p : j < 6). ap (λ (e : Place). e.number) (read (in_number ws l u j p) (in_number vs m t j p) (b (1162 + s * 6 + j) (omega arith))))
        ∙ sym (in_slot_is vs s h)
