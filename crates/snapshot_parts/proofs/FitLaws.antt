-- Every written number of a sound record fits its place: it is at most the most that may be read there, below 2 ^ 32, and a command's byte names a command.
-- The argument, by the place's region: a number is cut to its bits; a list's length is at most its pool, for else the record were damaged; the byte of a used slot names
-- its fields, so it names a command. Of a number of 32 bits the logic knows no bound but the one it is given: that is a premise, as the program has it of every u32.
use Prim.Native.Nat.{ℕ, zero, suc, ◌+◌, ◌*◌, ◌-◌, ◌%◌, ◌^◌, ◌≤◌, ◌<◌}
use mathlib.Core.Path.{◌≡◌, refl, ap, sym, subst, ◌∙◌}
use mathlib.Core.Bool.{Bool, true, false}
use mathlib.Core.List.{List, [], ◌∷◌}
use native.Mathlib.Nat.{mod-lt, div-add-mod'}
use native.Mathlib.Omega.{arith}
use lib.Dec.{leb, ltb, eqb}
use lib.ListN.{length, get_or, take}
use lib.Pow.{pow_pos}
use borrow.Author.Tests.{le-leb, leb-true, ltb-true, eqb-true}
use Rattle.numbers.specs.Pick.{pick, both}
use Rattle.numbers.proofs.BoolLaws.{both_left, both_right, both_true}
use Rattle.command.specs.Layout.{known, width_of}
use Rattle.lists.specs.Rows.{low, row_at, len_of}
use Rattle.lists.proofs.Placed.{row_is}
use Rattle.record.specs.Fresh.{no_channel}
use Rattle.record.specs.Damage.{held_fit, lists_fit}
use Rattle.record.specs.declared.groups.Channel.{Channel}
use Rattle.record.specs.declared.groups.Standing.{Standing}
use Rattle.record.specs.declared.incoming.InList.{InList}
use Rattle.pool.specs.Slots.{kind_from}
use Rattle.peer.specs.Damage.{sound}
use Rattle.peer.proofs.Clauses.{sound_clauses}
use Rattle.places.specs.Whole.{sizes, numbers, parts, made, whole}
use Rattle.places.proofs.Sized.{sized}
use Rattle.places.proofs.GroupLaws.{standing_is}
use Rattle.places.proofs.ChannelLaws.{held_is}
use Rattle.order.specs.Table.{plain, length_of, as_command, unwritten, nowhere, own_bits, group_bits, slot_bits, in_slot_bits, used_outgoing, used_incoming}
use Rattle.order.specs.CodeCuts.{cut, cut_place, field_from, command_place}
use Rattle.order.specs.declared.Place.{Place}
use Rattle.order.proofs.TableLaws.{shown_if}
use Rattle.order.proofs.PartLaws.{list_at}
use Rattle.order.proofs.EntryLaws.{entry_at, own_entry, group_entry, mark_entry, list_entry, dispatched_entry, number_entry, held_entry, slot_number_entry, slot_command_entry, slot_kind_entry, in_slot_entry, length_of_list, cell_of_list, Regions, below_or, by_region}
use Rattle.order.proofs.Determined.{sound_named, byte_place, kind_named}
use Rattle.snapshot_parts.specs.Row.{fits}

never : {A : Type 0} → false ≡ true → A
never e = let z : ◌≡◌ {A = ℕ} 0 1 = cc in absurd (omega arith)

-- an entry whose number fits
pub record Good (e : Place) : Type 0 where
  pub least : e.number ≤ e.most
  pub small : e.number < 4294967296
  pub names : e.is_written ≡ true → e.is_command ≡ true → known (e.number % 16) ≡ true

pub good_fits : (e : Place) → Good e → e.is_written ≡ true → fits e e.number ≡ true
good_fits e g w = both_true (leb e.number e.most) (pick e.is_command (known (e.number % 16)) true) (le-leb e.number e.most g.least) (go e.is_command refl)
  where
    go : (t : Bool) → e.is_command ≡ t → pick t (known (e.number % 16)) true ≡ true
    go true c = g.names w c
    go false c = refl

-- ---- the places there are
cut_most : (b y : ℕ) → y < 4294967296 → cut b y ≤ 2 ^ b - 1
cut_most b y h = wide (eqb b 32) refl
  where
    flagged : (t : Bool) → eqb b 1 ≡ t → pick t (pick (leb 1 y) 1 0) (y % 2 ^ b) ≤ 2 ^ b - 1
    flagged false e = omega (arith, mod-lt y (pow_pos b))
    flagged true e = subst (λ (k : ℕ). pick (leb 1 y) 1 0 ≤ 2 ^ k - 1) (sym (eqb-true b 1 e)) (go (leb 1 y))
      where
        go : (t : Bool) → pick t 1 0 ≤ 2 ^ 1 - 1
        go true = omega arith
        go false = omega arith

    wide : (t : Bool) → eqb b 32 ≡ t → pick t y (pick (eqb b 1) (pick (leb 1 y) 1 0) (y % 2 ^ b)) ≤ 2 ^ b - 1
    wide true e = subst (λ (k : ℕ). y ≤ 2 ^ k - 1) (sym (eqb-true b 32 e)) (omega arith)
    wide false e = flagged (eqb b 1) refl

cut_below : (b y : ℕ) → y < 4294967296 → cut b y < 4294967296
cut_below b y h = go (eqb b 32) (eqb b 1) (leb 1 y)
  where
    go : (t u v : Bool) → pick t y (pick u (pick v 1 0) (y % 2 ^ b)) < 4294967296
    go true u v = h
    go false true true = omega arith
    go false true false = omega arith
    go false false v = omega (arith, div-add-mod' y (2 ^ b))

good_cut : (b y : ℕ) → y < 4294967296 → Good (cut_place b y)
good_cut b y h = record { least = cut_most b y h; small = cut_below b y h; names = λ w c. never c }

good_length : (pool n : ℕ) → n ≤ pool → n < 4294967296 → Good (length_of pool n)
good_length pool n h k = record { least = h; small = k; names = λ w c. never c }

good_unwritten : (e : Place) → Good (unwritten e)
good_unwritten e = record { least = omega arith; small = omega arith; names = λ w c. never w }

good_shown : (t : Bool) (e : Place) → (t ≡ true → Good e) → Good (shown_if t e)
good_shown true e g = g refl
good_shown false e g = good_unwritten e

good_byte : (x : ℕ) → known (x % 256 % 16) ≡ true → Good (as_command (plain 8 (x % 256)))
good_byte x k = record { least = omega arith; small = omega arith; names = λ w c. k }

field_small : (kind j y : ℕ) → y < 4294967296 → field_from kind j y < 4294967296
field_small kind j y h = go (ltb j 3) (known kind)
  where
    go : (a b : Bool) → pick a y (pick b y 0) < 4294967296
    go true b = h
    go false true = h
    go false false = omega arith

-- a command's place: its byte, or a field
good_field : (kind j y : ℕ) → 1 ≤ j → y < 4294967296 → Good (command_place kind j y)
good_field kind j y a h = go (eqb j 0) refl (ltb 0 (width_of (kind_from kind) j))
  where
    e : Place
    e = cut_place (8 * width_of (kind_from kind) j) (field_from kind j y)

    good : Good e
    good = good_cut (8 * width_of (kind_from kind) j) (field_from kind j y) (field_small kind j y h)

    go : (t : Bool) → eqb j 0 ≡ t → (u : Bool) → Good (pick t (as_command e) (pick u e (unwritten e)))
    go true z u = absurd (omega (arith, eqb-true j 0 z))
    go false z true = good
    go false z false = good_unwritten e

good_command : (kind j y : ℕ) → y < 4294967296 → (j ≡ 0 → known (y % 256 % 16) ≡ true) → Good (command_place kind j y)
good_command kind j y h k =
    below_or j 1
    (λ (b : j < 1).
    let z : j ≡ 0 = omega arith in
    subst (λ (n : ℕ). Good (command_place kind n y)) (sym z) (subst Good (sym (byte_place kind y)) (good_byte y (k z))))
    (λ (b : 1 ≤ j). good_field kind j y b h)

kind_known : (k : ℕ) → known (kind_from k) ≡ true
kind_known k = go (known k) refl
  where
    go : (t : Bool) → known k ≡ t → known (pick t k 1) ≡ true
    go true e = e
    go false e = refl

-- a list whose length is at most its pool
good_list : (ws : List ℕ) (at size : ℕ) → at + size + 1 ≤ length ws → low (get_or ws at 0) ≤ size → (j : ℕ) → j ≤ size → Good (get_or (list_at at size ws) j nowhere)
good_list ws at size h n zero b = subst Good (sym (length_of_list ws at size h)) (good_length size (low (get_or ws at 0)) n (omega arith))
good_list ws at size h n (suc j) b =
    subst Good (sym (cell_of_list ws at size h (suc j) (omega arith) b))
    (good_shown (leb (suc j) (low (get_or ws at 0))) (plain 16 (low (get_or ws (at + suc j) 0))) (λ t. record { least = omega arith; small = omega arith; names = λ w c. never c }))

-- ---- the lists of a sound record
held_fit_at : (cs : List Channel) (n c : ℕ) → held_fit (take n cs) ≡ true → c < n → c < length cs → (get_or cs c no_channel).held.len ≤ 12
unfolding held_fit
held_fit_at [] n c e a b = absurd (omega arith)
held_fit_at (d ∷ cs) zero c e a b = absurd (omega arith)
held_fit_at (d ∷ cs) (suc n) zero e a b = leb-true d.held.len 12 (both_left (leb d.held.len 12) (held_fit (take n cs)) e)
held_fit_at (d ∷ cs) (suc n) (suc c) e a b = held_fit_at cs n c (both_right (leb d.held.len 12) (held_fit (take n cs)) e) (omega arith) (omega arith)

lens_fit : (a b c d : ℕ) → both (leb a 32) (both (leb b 32) (both (leb c 32) (leb d 12))) ≡ true → (a ≤ 32) × (b ≤ 32) × (c ≤ 32) × (d ≤ 12)
lens_fit a b c d e =
    let f = both_right (leb a 32) (both (leb b 32) (both (leb c 32) (leb d 12))) e in
    let g = both_right (leb b 32) (both (leb c 32) (leb d 12)) f in (
      leb-true a 32 (both_left (leb a 32) (both (leb b 32) (both (leb c 32) (leb d 12))) e),
      leb-true b 32 (both_left (leb b 32) (both (leb c 32) (leb d 12)) f),
      leb-true c 32 (both_left (leb c 32) (leb d 12) g),
      leb-true d 12 (both_right (leb c 32) (leb d 12) g),
    )

lists_fit_are : (ws : List ℕ) → lists_fit (whole ws).lists
    ≡ both (leb (len_of (row_at 43 32 ws)) 32) (both (leb (len_of (row_at 76 32 ws)) 32) (both (leb (len_of (row_at 109 32 ws)) 32) (leb (len_of (row_at 142 12 ws)) 12)))
unfolding made parts numbers sizes
lists_fit_are ws = refl

module _ (ws : List ℕ) (l : length ws ≡ 1236) (e : sound (whole ws) ≡ true) (small : (k : ℕ) → get_or ws k 0 < 4294967296) where
  fitting : (len_of (row_at 43 32 ws) ≤ 32) × (len_of (row_at 76 32 ws) ≤ 32) × (len_of (row_at 109 32 ws) ≤ 32) × (len_of (row_at 142 12 ws) ≤ 12)
  fitting =
      lens_fit (len_of (row_at 43 32 ws)) (len_of (row_at 76 32 ws)) (len_of (row_at 109 32 ws)) (len_of (row_at 142 12 ws))
      (sym (lists_fit_are ws) ∙ (sound_clauses (whole ws) e).lists)

  len_at : (at size : ℕ) → at + size + 1 ≤ 1236 → len_of (row_at at size ws) ≤ size → low (get_or ws at 0) ≤ size
  len_at at size h n = subst (λ (k : ℕ). k ≤ size) (ap len_of (row_is ws at size (omega arith))) n

  three_fit : (q : ℕ) → q < 3 → low (get_or ws (43 + q * 33) 0) ≤ 32
  three_fit zero h = len_at 43 32 (omega arith) fitting.0
  three_fit (suc zero) h = len_at 76 32 (omega arith) fitting.1
  three_fit (suc (suc zero)) h = len_at 109 32 (omega arith) fitting.2
  three_fit (suc (suc (suc q))) h = absurd (omega arith)

  dispatched_fit : low (get_or ws 142 0) ≤ 12
  dispatched_fit = len_at 142 12 (omega arith) fitting.3

  held_fit_lem : (c : ℕ) → c < 8 → c < get_or ws 6 0 → low (get_or ws (194 + c * 17 + 4) 0) ≤ 12
  held_fit_lem c a b =
      let n : (whole ws).standing.channels ≡ get_or ws 6 0 = ap (λ (s : Standing). s.channels) (standing_is ws) in
      let p : length (whole ws).channels ≡ 8 = (sized ws).channels in
      let f : (get_or (whole ws).channels c no_channel).held.len ≤ 12 =
      held_fit_at (whole ws).channels (whole ws).standing.channels c (sound_clauses (whole ws) e).held (omega arith) (omega arith)
      in
      len_at (194 + c * 17 + 4) 12 (omega arith) (subst (λ (i : InList). i.len ≤ 12) (held_is ws c a l) f)

  byte_known : (s : ℕ) → s < 32 → used_outgoing (whole ws) s ≡ true → known (get_or ws (330 + s * 26 + 9) 0 % 256 % 16) ≡ true
  byte_known s a u =
      ap (λ (k : ℕ). known k) (sym (kind_named ws s a (sound_named ws e 1236 s a (omega arith) u))) ∙ kind_known (get_or ws (330 + s * 26 + 25) 0)

  abbrev GoodAt : ℕ → Type 0
  GoodAt i = Good (entry_at ws i)

  good_as : (i : ℕ) (f : Place) → entry_at ws i ≡ f → Good f → GoodAt i
  good_as i f p h = subst Good (sym p) h

  good_regions : Regions GoodAt
  good_regions =
      record {
        own = λ i h. good_as i (cut_place (get_or own_bits i 0) (get_or ws i 0)) (own_entry ws l i h) (good_cut (get_or own_bits i 0) (get_or ws i 0) (small i));
        list = λ q j h p. good_as (43 + q * 33 + j) (get_or (list_at (43 + q * 33) 32 ws) j nowhere) (list_entry ws l q j h p) (good_list ws (43 + q * 33) 32 (omega arith) (three_fit q h) j p);
        dispatched = λ j p. good_as (142 + j) (get_or (list_at 142 12 ws) j nowhere) (dispatched_entry ws l j p) (good_list ws 142 12 (omega arith) dispatched_fit j p);
        group = λ j h. good_as (155 + j) (cut_place (get_or group_bits j 0) (get_or ws (155 + j) 0)) (group_entry ws l j h) (good_cut (get_or group_bits j 0) (get_or ws (155 + j) 0) (small (155 + j)));
        number = λ c j h p. good_as (194 + c * 17 + j) (shown_if (ltb c (get_or ws 6 0)) (plain 16 (low (get_or ws (194 + c * 17 + j) 0)))) (number_entry ws l c j h p)
            (good_shown (ltb c (get_or ws 6 0)) (plain 16 (low (get_or ws (194 + c * 17 + j) 0))) (λ t. good_cut 16 (get_or ws (194 + c * 17 + j) 0) (small (194 + c * 17 + j))));
        held = λ c j h p. good_as (194 + c * 17 + 4 + j) (shown_if (ltb c (get_or ws 6 0)) (get_or (list_at (194 + c * 17 + 4) 12 ws) j nowhere)) (held_entry ws l c j h p)
            (good_shown (ltb c (get_or ws 6 0)) (get_or (list_at (194 + c * 17 + 4) 12 ws) j nowhere) (λ t. good_list ws (194 + c * 17 + 4) 12 (omega arith) (held_fit_lem c h (ltb-true c (get_or ws 6 0) t)) j p));
        slot = λ s j h p. good_as (330 + s * 26 + j) (shown_if (used_outgoing (whole ws) s) (cut_place (get_or (slot_bits 1) j 0) (get_or ws (330 + s * 26 + j) 0))) (slot_number_entry ws l s j h p)
            (good_shown (used_outgoing (whole ws) s) (cut_place (get_or (slot_bits 1) j 0) (get_or ws (330 + s * 26 + j) 0)) (λ t. good_cut (get_or (slot_bits 1) j 0) (get_or ws (330 + s * 26 + j) 0) (small (330 + s * 26 + j))));
        command = λ s j h p. good_as (330 + s * 26 + (9 + j)) (shown_if (used_outgoing (whole ws) s) (command_place (get_or ws (330 + s * 26 + 25) 0) j (get_or ws (330 + s * 26 + (9 + j)) 0))) (slot_command_entry ws l s j h p)
            (good_shown (used_outgoing (whole ws) s) (command_place (get_or ws (330 + s * 26 + 25) 0) j (get_or ws (330 + s * 26 + (9 + j)) 0))
            (λ t. good_command (get_or ws (330 + s * 26 + 25) 0) j (get_or ws (330 + s * 26 + (9 + j)) 0) (small (330 + s * 26 + (9 + j)))
            (λ z. subst (λ (n : ℕ). known (get_or ws (330 + s * 26 + (9 + n)) 0 % 256 % 16) ≡ true) (sym z) (byte_known s h t))));
        kind = λ s h. good_as (330 + s * 26 + 25) (unwritten (plain 8 0)) (slot_kind_entry ws l s h) (good_unwritten (plain 8 0));
        in_slot = λ s j h p. good_as (1162 + s * 6 + j) (shown_if (used_incoming (whole ws) s) (cut_place (get_or in_slot_bits j 0) (get_or ws (1162 + s * 6 + j) 0))) (in_slot_entry ws l s j h p)
            (good_shown (used_incoming (whole ws) s) (cut_place (get_or in_slot_bits j 0) (get_or ws (1162 + s * 6 + j) 0)) (λ t. good_cut (get_or in_slot_bits j 0) (get_or ws (1162 + s * 6 + j) 0) (small (1162 + s * 6 + j))));
        mark = λ j h. good_as (1234 + j) (plain 32 (get_or ws (1234 + j) 0)) (mark_entry ws l j h) (good_cut 32 (get_or ws (1234 + j) 0) (small (1234 + j)));
      }

  pub good_at : (i : ℕ) → i < 1236 → Good (entry_at ws i)
  good_at i h = by_region GoodAt good_regions i h
