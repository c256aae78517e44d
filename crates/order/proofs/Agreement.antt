-- The number of an entry is the lent number at its place, cut to its bits, where it is written; and records whose numbers agree below place n have tables that agree below it,
-- so a number set at a place leaves the entries before it.
-- The argument, by the place's region: an entry is made of the number at its place and of numbers before it; a command's field of its kind number besides, which stands behind
-- the slot, and reads 0 where that names no kind.
use Prim.Native.Nat.{ℕ, zero, suc, ◌+◌, ◌*◌, ◌≤◌, ◌<◌}
use mathlib.Core.Path.{◌≡◌, refl, ap, sym, subst, ◌∙◌}
use mathlib.Core.Bool.{Bool, true, false}
use mathlib.Core.List.{List}
use native.Mathlib.Omega.{arith}
use lib.Dec.{leb, ltb, eqb}
use lib.ListN.{length, get_or, set, take, length-take, length-set}
use lib.Seq.{ext_get_or, get_or-take, get_or-set_other}
use borrow.Author.Tests.{lt-ltb}
use Rattle.numbers.specs.Pick.{pick}
use Rattle.command.specs.Layout.{known, width_of}
use Rattle.cells.specs.Runs.{has}
use Rattle.lists.specs.Rows.{low, section, row_at, items_of}
use Rattle.record.specs.Damage.{below, held}
use Rattle.record.specs.declared.groups.Channel.{Channel}
use Rattle.record.specs.declared.groups.Standing.{Standing}
use Rattle.pool.specs.Slots.{kind_from}
use Rattle.places.specs.Whole.{whole, channels_from}
use Rattle.places.proofs.Sections.{section-length, section_number}
use Rattle.places.proofs.GroupLaws.{standing_is}
use Rattle.places.proofs.ChannelLaws.{channels_is}
use Rattle.order.specs.Table.{plain, length_of, unwritten, nowhere, own_bits, group_bits, slot_bits, in_slot_bits, used_outgoing, used_incoming, table}
use Rattle.order.specs.CodeCuts.{cut, cut_place, field_from, command_place}
use Rattle.order.specs.declared.Place.{Place}
use Rattle.order.proofs.TableLaws.{shown_if}
use Rattle.order.proofs.UsedLaws.{used_out_lem, used_in}
use Rattle.order.proofs.PartLaws.{list_at}
use Rattle.order.proofs.WholeLaws.{table-length}
use Rattle.order.proofs.EntryLaws.{entry_at, own_entry, group_entry, mark_entry, list_entry, dispatched_entry, number_entry, held_entry, slot_number_entry, slot_command_entry, slot_kind_entry, in_slot_entry, length_of_list, cell_of_list, command_by, Regions, below_or, by_region}

-- ---- an entry's number is the number x, cut to its bits
abbrev pub Stands : ℕ → Place → Type 0
Stands x e = e.number ≡ pick e.is_written (cut e.bits x) 0

-- the kind number of a used slot is known, where place i is a field of its command
abbrev pub Known : List ℕ → ℕ → Type 0
Known ws i =
    (s j : ℕ) → s < 32 → 3 ≤ j → j < 16 → i ≡ 330 + s * 26 + (9 + j) → used_outgoing (whole ws) s ≡ true → known (get_or ws (330 + s * 26 + 25) 0) ≡ true

cut_stands : (t : Bool) (b x : ℕ) → Stands x (shown_if t (cut_place b x))
cut_stands true b x = refl
cut_stands false b x = refl

shown_stands : (t : Bool) (x : ℕ) (e : Place) → Stands x e → Stands x (shown_if t e)
shown_stands true x e h = h
shown_stands false x e h = refl

-- a list's place
list_stands : (ws : List ℕ) (at size : ℕ) → at + size + 1 ≤ length ws → (j : ℕ) → j ≤ size → Stands (get_or ws (at + j) 0) (get_or (list_at at size ws) j nowhere)
list_stands ws at size h zero b =
    let e : at ≡ at + zero = omega arith in
    subst (λ (k : ℕ). Stands (get_or ws k 0) (get_or (list_at at size ws) 0 nowhere)) e (subst (Stands (get_or ws at 0)) (sym (length_of_list ws at size h)) refl)
list_stands ws at size h (suc j) b =
    subst (Stands (get_or ws (at + suc j) 0)) (sym (cell_of_list ws at size h (suc j) (omega arith) b)) (cut_stands (leb (suc j) (low (get_or ws at 0))) 16 (get_or ws (at + suc j) 0))

-- a command's place, of a kind that names one or before the fields
by_stands : (a b : Bool) (n x : ℕ) → Stands x (command_by a b (cut_place n x))
by_stands true b n x = refl
by_stands false true n x = refl
by_stands false false n x = refl

field_known : (kind j x : ℕ) → known kind ≡ true → field_from kind j x ≡ x
field_known kind j x e = ap (λ (t : Bool). pick (ltb j 3) x (pick t x 0)) e ∙ go (ltb j 3)
  where
    go : (t : Bool) → pick t x x ≡ x
    go true = refl
    go false = refl

field_head : (kind j x : ℕ) → j < 3 → field_from kind j x ≡ x
field_head kind j x h = ap (λ (t : Bool). pick t x (pick (known kind) x 0)) (lt-ltb j 3 h)

command_stands : (kind j x : ℕ) → field_from kind j x ≡ x → Stands x (command_place kind j x)
command_stands kind j x e =
    let w = width_of (kind_from kind) j in
    subst (λ (y : ℕ). Stands x (command_by (eqb j 0) (ltb 0 w) (cut_place (8 * w) y))) (sym e) (by_stands (eqb j 0) (ltb 0 w) (8 * w) x)

module _ (ws : List ℕ) (l : length ws ≡ 1236) where
  abbrev There : ℕ → Type 0
  There i = Known ws i → Stands (get_or ws i 0) (entry_at ws i)

  -- an entry by what it is
  stands : (i : ℕ) (e : Place) → entry_at ws i ≡ e → Stands (get_or ws i 0) e → Stands (get_or ws i 0) (entry_at ws i)
  stands i e p h = subst (Stands (get_or ws i 0)) (sym p) h

  command_there : (s j : ℕ) → s < 32 → j < 16 → There (330 + s * 26 + (9 + j))
  command_there s j a p k =
      stands (330 + s * 26 + (9 + j)) (shown_if (used_outgoing (whole ws) s) (command_place (get_or ws (330 + s * 26 + 25) 0) j (get_or ws (330 + s * 26 + (9 + j)) 0))) (slot_command_entry ws l s j a p)
      (go (used_outgoing (whole ws) s) refl)
    where
      go : (t : Bool) → used_outgoing (whole ws) s ≡ t
          → Stands (get_or ws (330 + s * 26 + (9 + j)) 0) (shown_if t (command_place (get_or ws (330 + s * 26 + 25) 0) j (get_or ws (330 + s * 26 + (9 + j)) 0)))
      go true u =
          command_stands (get_or ws (330 + s * 26 + 25) 0) j (get_or ws (330 + s * 26 + (9 + j)) 0)
          (below_or j 3
          (λ (h : j < 3). field_head (get_or ws (330 + s * 26 + 25) 0) j (get_or ws (330 + s * 26 + (9 + j)) 0) h)
          (λ (h : 3 ≤ j). field_known (get_or ws (330 + s * 26 + 25) 0) j (get_or ws (330 + s * 26 + (9 + j)) 0) (k s j a h p refl u)))
      go false u = refl

  there_regions : Regions There
  there_regions =
      record {
        own = λ i h k. stands i (cut_place (get_or own_bits i 0) (get_or ws i 0)) (own_entry ws l i h) refl;
        list = λ q j h p k. stands (43 + q * 33 + j) (get_or (list_at (43 + q * 33) 32 ws) j nowhere) (list_entry ws l q j h p) (list_stands ws (43 + q * 33) 32 (omega arith) j p);
        dispatched = λ j p k. stands (142 + j) (get_or (list_at 142 12 ws) j nowhere) (dispatched_entry ws l j p) (list_stands ws 142 12 (omega arith) j p);
        group = λ j h k. stands (155 + j) (cut_place (get_or group_bits j 0) (get_or ws (155 + j) 0)) (group_entry ws l j h) refl;
        number = λ c j h p k. stands (194 + c * 17 + j) (shown_if (ltb c (get_or ws 6 0)) (plain 16 (low (get_or ws (194 + c * 17 + j) 0)))) (number_entry ws l c j h p)
            (cut_stands (ltb c (get_or ws 6 0)) 16 (get_or ws (194 + c * 17 + j) 0));
        held = λ c j h p k. stands (194 + c * 17 + 4 + j) (shown_if (ltb c (get_or ws 6 0)) (get_or (list_at (194 + c * 17 + 4) 12 ws) j nowhere)) (held_entry ws l c j h p)
            (shown_stands (ltb c (get_or ws 6 0)) (get_or ws (194 + c * 17 + 4 + j) 0) (get_or (list_at (194 + c * 17 + 4) 12 ws) j nowhere) (list_stands ws (194 + c * 17 + 4) 12 (omega arith) j p));
        slot = λ s j h p k. stands (330 + s * 26 + j) (shown_if (used_outgoing (whole ws) s) (cut_place (get_or (slot_bits 1) j 0) (get_or ws (330 + s * 26 + j) 0))) (slot_number_entry ws l s j h p)
            (cut_stands (used_outgoing (whole ws) s) (get_or (slot_bits 1) j 0) (get_or ws (330 + s * 26 + j) 0));
        command = λ s j h p k. command_there s j h p k;
        kind = λ s h k. stands (330 + s * 26 + 25) (unwritten (plain 8 0)) (slot_kind_entry ws l s h) refl;
        in_slot = λ s j h p k. stands (1162 + s * 6 + j) (shown_if (used_incoming (whole ws) s) (cut_place (get_or in_slot_bits j 0) (get_or ws (1162 + s * 6 + j) 0))) (in_slot_entry ws l s j h p)
            (cut_stands (used_incoming (whole ws) s) (get_or in_slot_bits j 0) (get_or ws (1162 + s * 6 + j) 0));
        mark = λ j h k. stands (1234 + j) (plain 32 (get_or ws (1234 + j) 0)) (mark_entry ws l j h) refl;
      }

pub number_at : (ws : List ℕ) (i : ℕ) → length ws ≡ 1236 → i < 1236 → Known ws i
    → (get_or (table (whole ws)) i nowhere).number
    ≡ pick (get_or (table (whole ws)) i nowhere).is_written (cut (get_or (table (whole ws)) i nowhere).bits (get_or ws i 0)) 0
number_at ws i l h k = by_region (There ws l) (there_regions ws l) i h k

-- outside the outgoing slots
pub outside_known : (ws : List ℕ) (i : ℕ) → (330 ≤ i → i < 1162 → ⊥) → Known ws i
outside_known ws i d s j a b c e u = absurd (d (omega arith) (omega arith))

-- a place of an outgoing slot, the kind number of which is known where the slot is used
pub slot_known : (ws : List ℕ) (s j : ℕ) → s < 32 → j < 26 → (used_outgoing (whole ws) s ≡ true → known (get_or ws (330 + s * 26 + 25) 0) ≡ true) → Known ws (330 + s * 26 + j)
slot_known ws s j a h f t i b c d e u =
    let q : t ≡ s = omega arith in
    subst (λ (v : ℕ). known (get_or ws (330 + v * 26 + 25) 0) ≡ true) (sym q) (f (subst (λ (v : ℕ). used_outgoing (whole ws) v ≡ true) q u))

-- ---- numbers that agree below place n, and the kind numbers of the slots whose byte stands before it
abbrev pub Agrees : List ℕ → List ℕ → ℕ → Type 0
Agrees ws vs n = (k : ℕ) → k < n → get_or ws k 0 ≡ get_or vs k 0

abbrev pub Kinds : List ℕ → List ℕ → ℕ → Type 0
Kinds ws vs n = (s : ℕ) → s < 32 → 330 + s * 26 + 9 < n → get_or ws (330 + s * 26 + 25) 0 ≡ get_or vs (330 + s * 26 + 25) 0

module _ (ws vs : List ℕ) (l : length ws ≡ 1236) (m : length vs ≡ 1236) where
  section_agrees : (at n : ℕ) → at + n ≤ 1236 → Agrees ws vs (at + n) → section at n ws ≡ section at n vs
  section_agrees at n h e =
      let a : length (section at n ws) ≡ n = section-length at n ws (omega arith) in
      let b : length (section at n vs) ≡ n = section-length at n vs (omega arith) in
      ext_get_or 0 (section at n ws) (section at n vs) (a ∙ sym b)
      (λ (i : ℕ) (p : i < length (section at n ws)).
      section_number at n i ws (omega arith) ∙ e (at + i) (omega arith) ∙ sym (section_number at n i vs (omega arith)))

  fewer : (i n : ℕ) → i ≤ n → Agrees ws vs n → Agrees ws vs i
  fewer i n h e k p = e k (omega arith)

  -- which slots are used
  used_out_agrees : (s i : ℕ) → 142 ≤ i → Agrees ws vs i → used_outgoing (whole ws) s ≡ used_outgoing (whole vs) s
  used_out_agrees s i h e =
      used_out_lem ws s
      ∙ ap (λ (r : List ℕ). pick (has (items_of r) s) true (pick (has (items_of (row_at 76 32 ws)) s) true (has (items_of (row_at 109 32 ws)) s))) (section_agrees 43 33 (omega arith) (fewer 76 i (omega arith) e))
      ∙ ap (λ (r : List ℕ). pick (has (items_of (row_at 43 32 vs)) s) true (pick (has (items_of r) s) true (has (items_of (row_at 109 32 ws)) s))) (section_agrees 76 33 (omega arith) (fewer 109 i (omega arith) e))
      ∙ ap (λ (r : List ℕ). pick (has (items_of (row_at 43 32 vs)) s) true (pick (has (items_of (row_at 76 32 vs)) s) true (has (items_of r) s))) (section_agrees 109 33 (omega arith) (fewer 142 i (omega arith) e))
      ∙ sym (used_out_lem vs s)

  channels_agree : (i : ℕ) → 330 ≤ i → Agrees ws vs i → (whole ws).channels ≡ (whole vs).channels
  channels_agree i h e = channels_is ws ∙ ap channels_from (section_agrees 194 136 (omega arith) (fewer 330 i h e)) ∙ sym (channels_is vs)

  count_agrees : (i : ℕ) → 6 < i → Agrees ws vs i → (whole ws).standing.channels ≡ (whole vs).standing.channels
  count_agrees i h e = ap (λ (s : Standing). s.channels) (standing_is ws) ∙ e 6 h ∙ sym (ap (λ (s : Standing). s.channels) (standing_is vs))

  used_in_agrees : (s i : ℕ) → 330 ≤ i → Agrees ws vs i → used_incoming (whole ws) s ≡ used_incoming (whole vs) s
  used_in_agrees s i h e =
      used_in ws s
      ∙ ap (λ (r : List ℕ). pick (has (items_of r) s) true (has (held (below (whole ws).channels (whole ws).standing.channels)) s)) (section_agrees 142 13 (omega arith) (fewer 155 i (omega arith) e))
      ∙ ap (λ (cs : List Channel). pick (has (items_of (row_at 142 12 vs)) s) true (has (held (below cs (whole ws).standing.channels)) s)) (channels_agree i h e)
      ∙ ap (λ (n : ℕ). pick (has (items_of (row_at 142 12 vs)) s) true (has (held (below (whole vs).channels n)) s)) (count_agrees i (omega arith) e)
      ∙ sym (used_in vs s)

  -- a list's place
  list_agrees : (at size j i : ℕ) → at + size + 1 ≤ 1236 → j ≤ size → at + j < i → Agrees ws vs i → get_or (list_at at size ws) j nowhere ≡ get_or (list_at at size vs) j nowhere
  list_agrees at size zero i h b p e =
      length_of_list ws at size (omega arith) ∙ ap (λ (x : ℕ). length_of size (low x)) (e at (omega arith)) ∙ sym (length_of_list vs at size (omega arith))
  list_agrees at size (suc j) i h b p e =
      cell_of_list ws at size (omega arith) (suc j) (omega arith) b
      ∙ ap (λ (x : ℕ). shown_if (leb (suc j) (low x)) (plain 16 (low (get_or ws (at + suc j) 0)))) (e at (omega arith))
      ∙ ap (λ (x : ℕ). shown_if (leb (suc j) (low (get_or vs at 0))) (plain 16 (low x))) (e (at + suc j) p)
      ∙ sym (cell_of_list vs at size (omega arith) (suc j) (omega arith) b)

  abbrev Equal : ℕ → Type 0
  Equal i = Agrees ws vs (suc i) → Kinds ws vs (suc i) → entry_at ws i ≡ entry_at vs i

  -- the same by a test and a number
  by_both : (f : Bool → ℕ → Place) {t u : Bool} {x y : ℕ} → t ≡ u → x ≡ y → f t x ≡ f u y
  by_both f {t} {u} {x} {y} p q = ap (λ (v : Bool). f v x) p ∙ ap (f u) q

  held_equal : (c j : ℕ) → c < 8 → j ≤ 12 → Equal (194 + c * 17 + 4 + j)
  held_equal c j h p e k =
      held_entry ws l c j h p
      ∙ ap (λ (n : ℕ). shown_if (ltb c n) (get_or (list_at (194 + c * 17 + 4) 12 ws) j nowhere)) (e 6 (omega arith))
      ∙ ap (shown_if (ltb c (get_or vs 6 0))) (list_agrees (194 + c * 17 + 4) 12 j (suc (194 + c * 17 + 4 + j)) (omega arith) p (omega arith) e)
      ∙ sym (held_entry vs m c j h p)

  command_equal : (s j : ℕ) → s < 32 → j < 16 → Equal (330 + s * 26 + (9 + j))
  command_equal s j h p e k =
      slot_command_entry ws l s j h p
      ∙ ap (λ (n : ℕ). shown_if (used_outgoing (whole ws) s) (command_place n j (get_or ws (330 + s * 26 + (9 + j)) 0))) (k s h (omega arith))
      ∙ by_both (λ (t : Bool) (x : ℕ). shown_if t (command_place (get_or vs (330 + s * 26 + 25) 0) j x)) (used_out_agrees s (suc (330 + s * 26 + (9 + j))) (omega arith) e) (e (330 + s * 26 + (9 + j)) (omega arith))
      ∙ sym (slot_command_entry vs m s j h p)

  equal_regions : Regions Equal
  equal_regions =
      record {
        own = λ i h e k. own_entry ws l i h ∙ ap (cut_place (get_or own_bits i 0)) (e i (omega arith)) ∙ sym (own_entry vs m i h);
        list = λ q j h p e k. list_entry ws l q j h p ∙ list_agrees (43 + q * 33) 32 j (suc (43 + q * 33 + j)) (omega arith) p (omega arith) e ∙ sym (list_entry vs m q j h p);
        dispatched = λ j p e k. dispatched_entry ws l j p ∙ list_agrees 142 12 j (suc (142 + j)) (omega arith) p (omega arith) e ∙ sym (dispatched_entry vs m j p);
        group = λ j h e k. group_entry ws l j h ∙ ap (cut_place (get_or group_bits j 0)) (e (155 + j) (omega arith)) ∙ sym (group_entry vs m j h);
        number = λ c j h p e k.
            number_entry ws l c j h p
            ∙ ap (λ (n : ℕ). shown_if (ltb c n) (plain 16 (low (get_or ws (194 + c * 17 + j) 0)))) (e 6 (omega arith))
            ∙ ap (λ (x : ℕ). shown_if (ltb c (get_or vs 6 0)) (plain 16 (low x))) (e (194 + c * 17 + j) (omega arith))
            ∙ sym (number_entry vs m c j h p);
        held = λ c j h p e k. held_equal c j h p e k;
        slot = λ s j h p e k.
            slot_number_entry ws l s j h p
            ∙ by_both (λ (t : Bool) (x : ℕ). shown_if t (cut_place (get_or (slot_bits 1) j 0) x)) (used_out_agrees s (suc (330 + s * 26 + j)) (omega arith) e) (e (330 + s * 26 + j) (omega arith))
            ∙ sym (slot_number_entry vs m s j h p);
        command = λ s j h p e k. command_equal s j h p e k;
        kind = λ s h e k. slot_kind_entry ws l s h ∙ sym (slot_kind_entry vs m s h);
        in_slot = λ s j h p e k.
            in_slot_entry ws l s j h p
            ∙ by_both (λ (t : Bool) (x : ℕ). shown_if t (cut_place (get_or in_slot_bits j 0) x)) (used_in_agrees s (suc (1162 + s * 6 + j)) (omega arith) e) (e (1162 + s * 6 + j) (omega arith))
            ∙ sym (in_slot_entry vs m s j h p);
        mark = λ j h e k. mark_entry ws l j h ∙ ap (plain 32) (e (1234 + j) (omega arith)) ∙ sym (mark_entry vs m j h);
      }

  pub entry_agrees : (i : ℕ) → i < 1236 → Agrees ws vs (suc i) → Kinds ws vs (suc i) → entry_at ws i ≡ entry_at vs i
  entry_agrees i h = by_region Equal equal_regions i h

-- entries one by one, then the first n
pub take_entries : (ws vs : List ℕ) (n : ℕ) → length ws ≡ 1236 → length vs ≡ 1236 → n ≤ 1236 → ((i : ℕ) → i < n → entry_at ws i ≡ entry_at vs i)
    → take n (table (whole ws)) ≡ take n (table (whole vs))
take_entries ws vs n l m h e =
    let a : length (take n (table (whole ws))) ≡ n = length-take n (table (whole ws)) ∙ omega (arith, table-length ws l) in
    let b : length (take n (table (whole vs))) ≡ n = length-take n (table (whole vs)) ∙ omega (arith, table-length vs m) in
    ext_get_or nowhere (take n (table (whole ws))) (take n (table (whole vs))) (a ∙ sym b)
    (λ (i : ℕ) (p : i < length (take n (table (whole ws)))).
    get_or-take n (table (whole ws)) i nowhere (omega arith) ∙ e i (omega arith) ∙ sym (get_or-take n (table (whole vs)) i nowhere (omega arith)))

pub agree : (ws vs : List ℕ) (n : ℕ) → length ws ≡ 1236 → length vs ≡ 1236 → n ≤ 1236 → Agrees ws vs n → Kinds ws vs n
    → take n (table (whole ws)) ≡ take n (table (whole vs))
agree ws vs n l m h e k =
    take_entries ws vs n l m h
    (λ (i : ℕ) (p : i < n). entry_agrees ws vs l m i (omega arith) (λ (j : ℕ) (q : j < suc i). e j (omega arith)) (λ (s : ℕ) (a : s < 32) (q : 330 + s * 26 + 9 < suc i). k s a (omega arith)))

-- ---- a number set at a place leaves the entries before it, but for a kind number behind a byte that stands before
pub set_behind : (ws : List ℕ) (n i x : ℕ) → length ws ≡ 1236 → n ≤ 1236 → n ≤ i → ((s : ℕ) → s < 32 → 330 + s * 26 + 9 < n → i ≡ 330 + s * 26 + 25 → ⊥)
    → take n (table (whole (set ws i x))) ≡ take n (table (whole ws))
set_behind ws n i x l h p d =
    agree (set ws i x) ws n (length-set ws i x ∙ l) l h
    (λ (k : ℕ) (q : k < n). get_or-set_other ws i k x 0 (λ e. omega (arith, e)))
    (λ (s : ℕ) (a : s < 32) (q : 330 + s * 26 + 9 < n). get_or-set_other ws i (330 + s * 26 + 25) x 0 (λ e. d s a q (sym e)))

pub set_past : (ws : List ℕ) (i x : ℕ) → length ws ≡ 1236 → i < 1236 → ((s : ℕ) → s < 32 → i ≡ 330 + s * 26 + 25 → ⊥)
    → take i (table (whole (set ws i x))) ≡ take i (table (whole ws))
set_past ws i x l h d = set_behind ws i i x l (omega arith) (omega arith) (λ (s : ℕ) (a : s < 32) (q : 330 + s * 26 + 9 < i) e. d s a e)

-- a slot's byte, and the kind number behind it
pub set_byte_past : (ws : List ℕ) (s x y : ℕ) → length ws ≡ 1236 → s < 32
    → take (330 + s * 26 + 9) (table (whole (set (set ws (330 + s * 26 + 9) x) (330 + s * 26 + 9 + 16) y))) ≡ take (330 + s * 26 + 9) (table (whole ws))
set_byte_past ws s x y l a =
    set_behind (set ws (330 + s * 26 + 9) x) (330 + s * 26 + 9) (330 + s * 26 + 9 + 16) y (length-set ws (330 + s * 26 + 9) x ∙ l) (omega arith) (omega arith)
    (λ (t : ℕ) (b : t < 32) (q : 330 + t * 26 + 9 < 330 + s * 26 + 9) e. omega (arith, e))
    ∙ set_past ws (330 + s * 26 + 9) x l (omega arith) (λ (t : ℕ) (b : t < 32) e. omega (arith, e))
