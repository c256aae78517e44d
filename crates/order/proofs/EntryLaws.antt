-- Each entry of the lent record's table by the numbers that decide it, region by region; and a law for every place is a law for each region.
-- The argument: the part laws, put together at the place's own number; a place's number is its part's, its thing's and its own in it, by division.
use Prim.Native.Nat.{ℕ, ◌+◌, ◌*◌, ◌-◌, ◌/◌, ◌%◌, ◌≤◌, ◌<◌}
use mathlib.Core.Path.{◌≡◌, refl, ap, sym, subst, ◌∙◌}
use mathlib.Core.Bool.{Bool, true, false}
use mathlib.Core.List.{List}
use native.Mathlib.Omega.{arith}
use lib.Dec.{leb, ltb}
use lib.ListN.{length, get_or}
use borrow.Author.Tests.{ltb-true, ltb-false}
use Rattle.numbers.specs.Pick.{pick}
use Rattle.lists.specs.Rows.{low}
use Rattle.record.specs.Fresh.{no_outgoing, no_incoming}
use Rattle.places.specs.Whole.{whole}
use Rattle.places.specs.Updates.{channel_at}
use Rattle.order.specs.Table.{plain, length_of, as_command, unwritten, nowhere, own_bits, group_bits, channel_places, slot_bits, slot_places, in_slot_bits, in_slot_places, used_outgoing, used_incoming, lists_places, things_places, table}
use Rattle.order.specs.CodeCuts.{cut_place, command_place}
use Rattle.order.specs.declared.Place.{Place}
use Rattle.order.proofs.TableLaws.{shown_if}
use Rattle.order.proofs.PartLaws.{own_place, group_place, mark_place, list_at, list_length, list_cell, channel_number_place, channel_list_place, in_slot_place}
use Rattle.order.proofs.SlotLaws.{slot_number_place, slot_kind_place, slot_command_place}
use Rattle.order.proofs.WholeLaws.{lists_place, dispatched_place, channels_place, outgoing_place, incoming_place, marks_place, table_own, table-lists, table-groups, table-things}

-- place i of a record's table
abbrev pub entry_at : List ℕ → ℕ → Place
entry_at ws i = get_or (table (whole ws)) i nowhere

-- a list's cell, by the number that has its length
abbrev pub cell_at : ℕ → ℕ → List ℕ → Place
cell_at at j ws = shown_if (leb j (low (get_or ws at 0))) (plain 16 (low (get_or ws (at + j) 0)))

-- a command's place, by whether it is its byte, and whether its struct has that number
abbrev pub command_by : Bool → Bool → Place → Place
command_by is_byte is_there e = pick is_byte (as_command e) (pick is_there e (unwritten e))

-- division by a width, in the record's three widths of things and its lists
quotient_33 : (q j : ℕ) → j < 33 → (q * 33 + j) / 33 ≡ q
quotient_33 q j h = omega arith

remainder_33 : (q j : ℕ) → j < 33 → (q * 33 + j) % 33 ≡ j
remainder_33 q j h = omega arith

quotient_17 : (q j : ℕ) → j < 17 → (q * 17 + j) / 17 ≡ q
quotient_17 q j h = omega arith

remainder_17 : (q j : ℕ) → j < 17 → (q * 17 + j) % 17 ≡ j
remainder_17 q j h = omega arith

quotient_26 : (q j : ℕ) → j < 26 → (q * 26 + j) / 26 ≡ q
quotient_26 q j h = omega arith

remainder_26 : (q j : ℕ) → j < 26 → (q * 26 + j) % 26 ≡ j
remainder_26 q j h = omega arith

quotient_6 : (q j : ℕ) → j < 6 → (q * 6 + j) / 6 ≡ q
quotient_6 q j h = omega arith

remainder_6 : (q j : ℕ) → j < 6 → (q * 6 + j) % 6 ≡ j
remainder_6 q j h = omega arith

module _ (ws : List ℕ) (l : length ws ≡ 1236) where
  abbrev lists : List Place
  lists = lists_places (whole ws).lists

  abbrev things : List Place
  things = things_places (whole ws)

  -- ---- what is always written
  pub own_entry : (i : ℕ) → i < 43 → entry_at ws i ≡ cut_place (get_or own_bits i 0) (get_or ws i 0)
  own_entry i h = sym (own_place ws i (get_or own_bits i 0) h refl ∙ table_own ws l i h)

  pub group_entry : (j : ℕ) → j < 39 → entry_at ws (155 + j) ≡ cut_place (get_or group_bits j 0) (get_or ws (155 + j) 0)
  group_entry j h =
      let e : 155 + j - 155 ≡ j = omega arith in
      sym (rw e at (table-groups ws l (155 + j) (omega arith) (omega arith))) ∙ sym (group_place ws j (get_or group_bits j 0) l h refl)

  pub mark_entry : (j : ℕ) → j < 2 → entry_at ws (1234 + j) ≡ plain 32 (get_or ws (1234 + j) 0)
  mark_entry j h =
      let e : 1234 + j - 194 ≡ 1040 + j = omega arith in
      sym (mark_place ws j h ∙ marks_place ws l (1040 + j) j refl ∙ (rw e at (table-things ws l (1234 + j) (omega arith))))

  -- ---- the lists
  in_lists : (k : ℕ) → k < 112 → get_or lists k nowhere ≡ entry_at ws (43 + k)
  in_lists k h =
      let e : 43 + k - 43 ≡ k = omega arith in
      rw e at (table-lists ws l (43 + k) (omega arith) (omega arith))

  pub list_entry : (q j : ℕ) → q < 3 → j ≤ 32 → entry_at ws (43 + q * 33 + j) ≡ get_or (list_at (43 + q * 33) 32 ws) j nowhere
  list_entry q j a b =
      let e : 43 + q * 33 + j ≡ 43 + (q * 33 + j) = omega arith in
      ap (entry_at ws) e
      ∙ sym (in_lists (q * 33 + j) (omega arith))
      ∙ sym (lists_place ws l (q * 33 + j) (omega arith))
      ∙ ap (λ (k : ℕ). get_or (list_at (43 + k * 33) 32 ws) ((q * 33 + j) % 33) nowhere) (quotient_33 q j (omega arith))
      ∙ ap (λ (k : ℕ). get_or (list_at (43 + q * 33) 32 ws) k nowhere) (remainder_33 q j (omega arith))

  pub dispatched_entry : (j : ℕ) → j ≤ 12 → entry_at ws (142 + j) ≡ get_or (list_at 142 12 ws) j nowhere
  dispatched_entry j b =
      let e : 142 + j ≡ 43 + (99 + j) = omega arith in
      let f : 99 + j - 99 ≡ j = omega arith in
      ap (entry_at ws) e
      ∙ sym (in_lists (99 + j) (omega arith))
      ∙ sym (rw f at (dispatched_place ws l (99 + j) (omega arith)))

  -- ---- things
  in_things : (k : ℕ) → get_or things k nowhere ≡ entry_at ws (194 + k)
  in_things k =
      let e : 194 + k - 194 ≡ k = omega arith in
      rw e at (table-things ws l (194 + k) (omega arith))

  channel_entry : (c j : ℕ) → c < 8 → j < 17 → entry_at ws (194 + c * 17 + j) ≡ get_or (channel_places (ltb c (whole ws).standing.channels) (channel_at (whole ws) c)) j nowhere
  channel_entry c j a b =
      let e : 194 + c * 17 + j ≡ 194 + (c * 17 + j) = omega arith in
      ap (entry_at ws) e
      ∙ sym (in_things (c * 17 + j))
      ∙ sym (channels_place ws l (c * 17 + j) (omega arith))
      ∙ ap (λ (k : ℕ). get_or (channel_places (ltb k (whole ws).standing.channels) (channel_at (whole ws) k)) ((c * 17 + j) % 17) nowhere) (quotient_17 c j b)
      ∙ ap (λ (k : ℕ). get_or (channel_places (ltb c (whole ws).standing.channels) (channel_at (whole ws) c)) k nowhere) (remainder_17 c j b)

  pub number_entry : (c j : ℕ) → c < 8 → j < 4 → entry_at ws (194 + c * 17 + j) ≡ shown_if (ltb c (get_or ws 6 0)) (plain 16 (low (get_or ws (194 + c * 17 + j) 0)))
  number_entry c j a b = channel_entry c j a (omega arith) ∙ sym (channel_number_place ws l c a j b)

  pub held_entry : (c j : ℕ) → c < 8 → j ≤ 12 → entry_at ws (194 + c * 17 + 4 + j) ≡ shown_if (ltb c (get_or ws 6 0)) (get_or (list_at (194 + c * 17 + 4) 12 ws) j nowhere)
  held_entry c j a b =
      let e : 194 + c * 17 + 4 + j ≡ 194 + c * 17 + (4 + j) = omega arith in
      let f : 4 + j - 4 ≡ j = omega arith in
      ap (entry_at ws) e ∙ channel_entry c (4 + j) a (omega arith) ∙ sym (rw f at (channel_list_place ws l c a (4 + j) (omega arith) (omega arith)))

  pub slot_entry : (s j : ℕ) → s < 32 → j < 26 → entry_at ws (330 + s * 26 + j) ≡ get_or (slot_places (used_outgoing (whole ws) s) (get_or (whole ws).outgoing s no_outgoing)) j nowhere
  slot_entry s j a b =
      let e : 330 + s * 26 + j ≡ 194 + (136 + (s * 26 + j)) = omega arith in
      ap (entry_at ws) e
      ∙ sym (in_things (136 + (s * 26 + j)))
      ∙ sym (outgoing_place ws l (136 + (s * 26 + j)) (s * 26 + j) refl (omega arith))
      ∙ ap (λ (k : ℕ). get_or (slot_places (used_outgoing (whole ws) k) (get_or (whole ws).outgoing k no_outgoing)) ((s * 26 + j) % 26) nowhere) (quotient_26 s j b)
      ∙ ap (λ (k : ℕ). get_or (slot_places (used_outgoing (whole ws) s) (get_or (whole ws).outgoing s no_outgoing)) k nowhere) (remainder_26 s j b)

  pub slot_number_entry : (s j : ℕ) → s < 32 → j < 9
      → entry_at ws (330 + s * 26 + j) ≡ shown_if (used_outgoing (whole ws) s) (cut_place (get_or (slot_bits 1) j 0) (get_or ws (330 + s * 26 + j) 0))
  slot_number_entry s j a b = slot_entry s j a (omega arith) ∙ sym (slot_number_place ws s a (used_outgoing (whole ws) s) j b)

  pub slot_command_entry : (s j : ℕ) → s < 32 → j < 16
      → entry_at ws (330 + s * 26 + (9 + j)) ≡ shown_if (used_outgoing (whole ws) s) (command_place (get_or ws (330 + s * 26 + 25) 0) j (get_or ws (330 + s * 26 + (9 + j)) 0))
  slot_command_entry s j a b =
      let e : 9 + j - 9 ≡ j = omega arith in
      slot_entry s (9 + j) a (omega arith) ∙ sym (rw e at (slot_command_place ws s a (used_outgoing (whole ws) s) (9 + j) (omega arith) (omega arith)))

  pub slot_kind_entry : (s : ℕ) → s < 32 → entry_at ws (330 + s * 26 + 25) ≡ unwritten (plain 8 0)
  slot_kind_entry s a = slot_entry s 25 a (omega arith) ∙ sym (slot_kind_place ws s a (used_outgoing (whole ws) s) 25 0 refl)

  pub incoming_entry : (s j : ℕ) → s < 12 → j < 6 → entry_at ws (1162 + s * 6 + j) ≡ get_or (in_slot_places (used_incoming (whole ws) s) (get_or (whole ws).incoming s no_incoming)) j nowhere
  incoming_entry s j a b =
      let e : 1162 + s * 6 + j ≡ 194 + (968 + (s * 6 + j)) = omega arith in
      ap (entry_at ws) e
      ∙ sym (in_things (968 + (s * 6 + j)))
      ∙ sym (incoming_place ws l (968 + (s * 6 + j)) (s * 6 + j) refl (omega arith))
      ∙ ap (λ (k : ℕ). get_or (in_slot_places (used_incoming (whole ws) k) (get_or (whole ws).incoming k no_incoming)) ((s * 6 + j) % 6) nowhere) (quotient_6 s j b)
      ∙ ap (λ (k : ℕ). get_or (in_slot_places (used_incoming (whole ws) s) (get_or (whole ws).incoming s no_incoming)) k nowhere) (remainder_6 s j b)

  pub in_slot_entry : (s j : ℕ) → s < 12 → j < 6
      → entry_at ws (1162 + s * 6 + j) ≡ shown_if (used_incoming (whole ws) s) (cut_place (get_or in_slot_bits j 0) (get_or ws (1162 + s * 6 + j) 0))
  in_slot_entry s j a b = incoming_entry s j a b ∙ sym (in_slot_place ws (used_incoming (whole ws) s) s j (get_or in_slot_bits j 0) a b refl)

-- ---- a list of so many cells at a place: its length, a cell of it
module _ (ws : List ℕ) (at size : ℕ) (h : at + size + 1 ≤ length ws) where
  pub length_of_list : get_or (list_at at size ws) 0 nowhere ≡ length_of size (low (get_or ws at 0))
  length_of_list =
      let e : at + 0 ≡ at = omega arith in
      sym (list_length ws at size h 0 refl) ∙ ap (λ (k : ℕ). length_of size (low (get_or ws k 0))) e

  pub cell_of_list : (j : ℕ) → 0 < j → j ≤ size → get_or (list_at at size ws) j nowhere ≡ cell_at at j ws
  cell_of_list j a b = sym (list_cell ws at size h j (low (get_or ws at 0)) (λ e. omega (arith, e)) b refl)

-- ---- every place is in one of the regions
pub record Regions (P : ℕ → Type 0) : Type 0 where
  pub own : (i : ℕ) → i < 43 → P i
  pub list : (q j : ℕ) → q < 3 → j ≤ 32 → P (43 + q * 33 + j)
  pub dispatched : (j : ℕ) → j ≤ 12 → P (142 + j)
  pub group : (j : ℕ) → j < 39 → P (155 + j)
  pub number : (c j : ℕ) → c < 8 → j < 4 → P (194 + c * 17 + j)
  pub held : (c j : ℕ) → c < 8 → j ≤ 12 → P (194 + c * 17 + 4 + j)
  pub slot : (s j : ℕ) → s < 32 → j < 9 → P (330 + s * 26 + j)
  pub command : (s j : ℕ) → s < 32 → j < 16 → P (330 + s * 26 + (9 + j))
  pub kind : (s : ℕ) → s < 32 → P (330 + s * 26 + 25)
  pub in_slot : (s j : ℕ) → s < 12 → j < 6 → P (1162 + s * 6 + j)
  pub mark : (j : ℕ) → j < 2 → P (1234 + j)

-- below a bound, or from it on
pub below_or : {A : Type 0} (i n : ℕ) → (i < n → A) → (n ≤ i → A) → A
below_or {A} i n f g = go (ltb i n) refl
  where
    go : (b : Bool) → ltb i n ≡ b → A
    go true e = f (ltb-true i n e)
    go false e = g (ltb-false i n e)

module _ (P : ℕ → Type 0) (r : Regions P) where
  moved : (i k : ℕ) → k ≡ i → P k → P i
  moved i k e p = subst P e p

  in_list : (i : ℕ) → 43 ≤ i → i < 142 → P i
  in_list i a b = moved i (43 + (i - 43) / 33 * 33 + (i - 43) % 33) (omega arith) (r.list ((i - 43) / 33) ((i - 43) % 33) (omega arith) (omega arith))

  in_channel : (i : ℕ) → 194 ≤ i → i < 330 → P i
  in_channel i a b =
      let c = (i - 194) / 17 in
      let j = (i - 194) % 17 in
      below_or j 4
      (λ (h : j < 4). moved i (194 + c * 17 + j) (omega arith) (r.number c j (omega arith) h))
      (λ (h : 4 ≤ j). moved i (194 + c * 17 + 4 + (j - 4)) (omega arith) (r.held c (j - 4) (omega arith) (omega arith)))

  in_slot_lem : (i : ℕ) → 330 ≤ i → i < 1162 → P i
  in_slot_lem i a b =
      let s = (i - 330) / 26 in
      let j = (i - 330) % 26 in
      below_or j 9
      (λ (h : j < 9). moved i (330 + s * 26 + j) (omega arith) (r.slot s j (omega arith) h))
      (λ (h : 9 ≤ j). below_or j 25
      (λ (k : j < 25). moved i (330 + s * 26 + (9 + (j - 9))) (omega arith) (r.command s (j - 9) (omega arith) (omega arith)))
      (λ (k : 25 ≤ j). moved i (330 + s * 26 + 25) (omega arith) (r.kind s (omega arith))))

  in_incoming : (i : ℕ) → 1162 ≤ i → i < 1234 → P i
  in_incoming i a b = moved i (1162 + (i - 1162) / 6 * 6 + (i - 1162) % 6) (omega arith) (r.in_slot ((i - 1162) / 6) ((i - 1162) % 6) (omega arith) (omega arith))

  pub by_region : (i : ℕ) → i < 1236 → P i
  by_region i h =
      below_or i 43 (r.own i) (λ (a : 43 ≤ i).
      below_or i 142 (in_list i a) (λ (b : 142 ≤ i).
      below_or i 155 (λ (k : i < 155). moved i (142 + (i - 142)) (omega arith) (r.dispatched (i - 142) (omega arith))) (λ (c : 155 ≤ i).
      below_or i 194 (λ (k : i < 194). moved i (155 + (i - 155)) (omega arith) (r.group (i - 155) (omega arith))) (λ (d : 194 ≤ i).
      below_or i 330 (in_channel i d) (λ (e : 330 ≤ i).
      below_or i 1162 (in_slot_lem i e) (λ (f : 1162 ≤ i).
      below_or i 1234 (in_incoming i f) (λ (g : 1234 ≤ i).
      moved i (1234 + (i - 1234)) (omega arith) (r.mark (i - 1234) (omega arith)))))))))
