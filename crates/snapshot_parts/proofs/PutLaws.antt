-- A number put at its place: the entries before it stay, the entry there is written as before and has that number; and what the reader knows of the kinds that it has set.
-- The argument: what is put stands at the place, and a kind number behind it where the place is a command's byte; neither stands before the place, and no kind number of a
-- slot whose byte stands before is touched, for a kind's place is never written. So the entries before agree, and they say what the entry at the place is like.
use Prim.Native.Nat.{ℕ, zero, suc, ◌+◌, ◌*◌, ◌-◌, ◌%◌, ◌^◌, ◌≤◌, ◌<◌}
use mathlib.Core.Path.{◌≡◌, refl, ap, sym, subst, ◌∙◌}
use mathlib.Core.Bool.{Bool, true, false}
use mathlib.Core.List.{List}
use native.Mathlib.Nat.{mod-eq_of_lt}
use native.Mathlib.Omega.{arith}
use lib.Dec.{leb, ltb, eqb}
use lib.ListN.{length, get_or, set, take, drop, length-set}
use lib.Pow.{pow_pos}
use lib.Seq.{get_or-set_same, get_or-set_other}
use borrow.Author.Tests.{eq-eqb, leb-true, leb-false, eqb-true}
use Rattle.numbers.specs.Pick.{pick}
use Rattle.numbers.proofs.BoolLaws.{both_right}
use Rattle.command.specs.Layout.{known, width_of}
use Rattle.command.specs.Rows.{names_fields}
use Rattle.lists.specs.Rows.{low}
use Rattle.pool.specs.Slots.{kind_from}
use Rattle.pool.proofs.Decoding.{named_by, command_at}
use Rattle.places.specs.Whole.{whole}
use Rattle.order.specs.Table.{plain, length_of, as_command, unwritten, nowhere, own_bits, group_bits, slot_bits, in_slot_bits, used_outgoing, used_incoming}
use Rattle.order.specs.CodeCuts.{cut, cut_place, field_from, command_place}
use Rattle.order.specs.declared.Place.{Place}
use Rattle.order.proofs.TableLaws.{shown_if}
use Rattle.order.proofs.PartLaws.{list_at}
use Rattle.order.proofs.EntryLaws.{entry_at, own_entry, group_entry, mark_entry, list_entry, dispatched_entry, number_entry, held_entry, slot_number_entry, slot_command_entry, slot_kind_entry, in_slot_entry, length_of_list, cell_of_list, Regions, below_or, by_region}
use Rattle.order.proofs.Determined.{shape, seen, Named, Before, byte_place, slot_words, words_at, command_is, used_out_same, next_seen, next_written}
use Rattle.order.proofs.Agreement.{Known, number_at, Agrees, Kinds, entry_agrees}
use Rattle.snapshot_parts.specs.Row.{fits, put_at}
use Rattle.snapshot_parts.proofs.ReadLaws.{fit_most, command_inside}

never : {A : Type 0} → false ≡ true → A
never e = let z : ◌≡◌ {A = ℕ} 0 1 = cc in absurd (omega arith)

-- ---- a number that is at most an entry's most is not cut
pub cut_small : (b x : ℕ) → x ≤ 2 ^ b - 1 → cut b x ≡ x
cut_small b x h = wide (eqb b 32) refl
  where
    below : x < 2 ^ b
    below = omega (arith, pow_pos b)

    flagged : (t : Bool) → eqb b 1 ≡ t → pick t (pick (leb 1 x) 1 0) (x % 2 ^ b) ≡ x
    flagged false e = mod-eq_of_lt below
    flagged true e =
        let one : b ≡ 1 = eqb-true b 1 e in
        let two : x < 2 = subst (λ (k : ℕ). x < 2 ^ k) one below in
        go (leb 1 x) refl two
      where
        go : (t : Bool) → leb 1 x ≡ t → x < 2 → pick t 1 0 ≡ x
        go true q k = omega (arith, leb-true 1 x q)
        go false q k = omega (arith, leb-false 1 x q)

    wide : (t : Bool) → eqb b 32 ≡ t → pick t x (pick (eqb b 1) (pick (leb 1 x) 1 0) (x % 2 ^ b)) ≡ x
    wide true e = refl
    wide false e = flagged (eqb b 1) refl

-- what an entry takes at most is of its bits
abbrev pub Bounded : Place → Type 0
Bounded e = e.most ≤ 2 ^ e.bits - 1

plain_bounded : (b x : ℕ) → Bounded (plain b x)
plain_bounded b x = omega arith

length_bounded : (n x : ℕ) → n ≤ 65535 → Bounded (length_of n x)
length_bounded n x h = h

shown_bounded : (t : Bool) (e : Place) → Bounded e → Bounded (shown_if t e)
shown_bounded true e h = h
shown_bounded false e h = h

command_bounded : (kind j x : ℕ) → Bounded (command_place kind j x)
command_bounded kind j x = go (eqb j 0) (ltb 0 (width_of (kind_from kind) j))
  where
    e : Place
    e = cut_place (8 * width_of (kind_from kind) j) (field_from kind j x)

    own : Bounded e
    own = plain_bounded (8 * width_of (kind_from kind) j) (cut (8 * width_of (kind_from kind) j) (field_from kind j x))

    go : (a b : Bool) → Bounded (pick a (as_command e) (pick b e (unwritten e)))
    go true b = own
    go false true = own
    go false false = own

list_bounded : (ws : List ℕ) (at size : ℕ) → at + size + 1 ≤ length ws → size ≤ 32 → (j : ℕ) → j ≤ size → Bounded (get_or (list_at at size ws) j nowhere)
list_bounded ws at size h n zero b = subst Bounded (sym (length_of_list ws at size h)) (length_bounded size (low (get_or ws at 0)) (omega arith))
list_bounded ws at size h n (suc j) b =
    subst Bounded (sym (cell_of_list ws at size h (suc j) (omega arith) b))
    (shown_bounded (leb (suc j) (low (get_or ws at 0))) (plain 16 (low (get_or ws (at + suc j) 0))) (plain_bounded 16 (low (get_or ws (at + suc j) 0))))

module _ (ws : List ℕ) (l : length ws ≡ 1236) where
  abbrev BoundedAt : ℕ → Type 0
  BoundedAt i = Bounded (entry_at ws i)

  bounded_as : (i : ℕ) (e : Place) → entry_at ws i ≡ e → Bounded e → BoundedAt i
  bounded_as i e p h = subst Bounded (sym p) h

  bounded_regions : Regions BoundedAt
  bounded_regions =
      record {
        own = λ i h. bounded_as i (cut_place (get_or own_bits i 0) (get_or ws i 0)) (own_entry ws l i h) (plain_bounded (get_or own_bits i 0) (cut (get_or own_bits i 0) (get_or ws i 0)));
        list = λ q j h p. bounded_as (43 + q * 33 + j) (get_or (list_at (43 + q * 33) 32 ws) j nowhere) (list_entry ws l q j h p) (list_bounded ws (43 + q * 33) 32 (omega arith) (omega arith) j p);
        dispatched = λ j p. bounded_as (142 + j) (get_or (list_at 142 12 ws) j nowhere) (dispatched_entry ws l j p) (list_bounded ws 142 12 (omega arith) (omega arith) j p);
        group = λ j h. bounded_as (155 + j) (cut_place (get_or group_bits j 0) (get_or ws (155 + j) 0)) (group_entry ws l j h) (plain_bounded (get_or group_bits j 0) (cut (get_or group_bits j 0) (get_or ws (155 + j) 0)));
        number = λ c j h p. bounded_as (194 + c * 17 + j) (shown_if (ltb c (get_or ws 6 0)) (plain 16 (low (get_or ws (194 + c * 17 + j) 0)))) (number_entry ws l c j h p)
            (shown_bounded (ltb c (get_or ws 6 0)) (plain 16 (low (get_or ws (194 + c * 17 + j) 0))) (plain_bounded 16 (low (get_or ws (194 + c * 17 + j) 0))));
        held = λ c j h p. bounded_as (194 + c * 17 + 4 + j) (shown_if (ltb c (get_or ws 6 0)) (get_or (list_at (194 + c * 17 + 4) 12 ws) j nowhere)) (held_entry ws l c j h p)
            (shown_bounded (ltb c (get_or ws 6 0)) (get_or (list_at (194 + c * 17 + 4) 12 ws) j nowhere) (list_bounded ws (194 + c * 17 + 4) 12 (omega arith) (omega arith) j p));
        slot = λ s j h p. bounded_as (330 + s * 26 + j) (shown_if (used_outgoing (whole ws) s) (cut_place (get_or (slot_bits 1) j 0) (get_or ws (330 + s * 26 + j) 0))) (slot_number_entry ws l s j h p)
            (shown_bounded (used_outgoing (whole ws) s) (cut_place (get_or (slot_bits 1) j 0) (get_or ws (330 + s * 26 + j) 0)) (plain_bounded (get_or (slot_bits 1) j 0) (cut (get_or (slot_bits 1) j 0) (get_or ws (330 + s * 26 + j) 0))));
        command = λ s j h p. bounded_as (330 + s * 26 + (9 + j)) (shown_if (used_outgoing (whole ws) s) (command_place (get_or ws (330 + s * 26 + 25) 0) j (get_or ws (330 + s * 26 + (9 + j)) 0))) (slot_command_entry ws l s j h p)
            (shown_bounded (used_outgoing (whole ws) s) (command_place (get_or ws (330 + s * 26 + 25) 0) j (get_or ws (330 + s * 26 + (9 + j)) 0)) (command_bounded (get_or ws (330 + s * 26 + 25) 0) j (get_or ws (330 + s * 26 + (9 + j)) 0)));
        kind = λ s h. bounded_as (330 + s * 26 + 25) (unwritten (plain 8 0)) (slot_kind_entry ws l s h) (plain_bounded 8 0);
        in_slot = λ s j h p. bounded_as (1162 + s * 6 + j) (shown_if (used_incoming (whole ws) s) (cut_place (get_or in_slot_bits j 0) (get_or ws (1162 + s * 6 + j) 0))) (in_slot_entry ws l s j h p)
            (shown_bounded (used_incoming (whole ws) s) (cut_place (get_or in_slot_bits j 0) (get_or ws (1162 + s * 6 + j) 0)) (plain_bounded (get_or in_slot_bits j 0) (cut (get_or in_slot_bits j 0) (get_or ws (1162 + s * 6 + j) 0))));
        mark = λ j h. bounded_as (1234 + j) (plain 32 (get_or ws (1234 + j) 0)) (mark_entry ws l j h) (plain_bounded 32 (get_or ws (1234 + j) 0));
      }

  pub most_bits : (i : ℕ) → i < 1236 → Bounded (entry_at ws i)
  most_bits i h = by_region BoundedAt bounded_regions i h

-- ---- the kinds that the reader has set
-- of each used slot whose byte stands before place i, the kind number is known, and the one that the byte names
abbrev pub Kinded : List ℕ → ℕ → Type 0
Kinded vs i =
    (s : ℕ) → s < 32 → 330 + s * 26 + 9 < i → used_outgoing (whole vs) s ≡ true
    → (known (get_or vs (330 + s * 26 + 25) 0) ≡ true) × (get_or vs (330 + s * 26 + 25) 0 ≡ get_or vs (330 + s * 26 + 9) 0 % 16)

pub kinded_none : (vs : List ℕ) → Kinded vs 0
kinded_none vs s a h u = absurd (omega arith)

pub kinded_named : (vs : List ℕ) (i : ℕ) → Kinded vs i → Named vs i
kinded_named vs i k s a h u =
    let r = slot_words vs s a in
    let b = get_or vs (330 + s * 26 + 9) 0 in
    let n = get_or vs (330 + s * 26 + 25) 0 in
    let q : n ≡ b % 16 = (k s a h u).1 in
    let e : get_or (take 16 (drop 9 r)) 0 0 ≡ b = command_at r 0 (omega arith) ∙ words_at vs s a 9 (omega arith) in
    let f : get_or r 25 0 ≡ n = words_at vs s a 25 (omega arith) in
    let m : b % 256 % 16 ≡ n = omega arith in
    let g : kind_from n ≡ n = ap (λ (t : Bool). pick t n 1) (k s a h u).0 in
    ap names_fields (command_is vs s a)
    ∙ named_by (get_or r 25 0) (take 16 (drop 9 r))
    ∙ eq-eqb (get_or (take 16 (drop 9 r)) 0 0 % 256 % 16) (kind_from (get_or r 25 0))
    (ap (λ (y : ℕ). y % 256 % 16) e ∙ m ∙ sym g ∙ sym (ap kind_from f))

pub kinded_known : (vs : List ℕ) (i : ℕ) → Kinded vs i → Known vs i
kinded_known vs i k s j a b c e u = (k s a (omega arith) u).0

-- ---- a place of a command's byte
byte_command : (t : Bool) (x : ℕ) → (shown_if t (as_command (plain 8 x))).is_command ≡ true
byte_command true x = refl
byte_command false x = refl

byte_written : (t : Bool) (x : ℕ) → (shown_if t (as_command (plain 8 x))).is_written ≡ t
byte_written true x = refl
byte_written false x = refl

module _ (vs : List ℕ) (l : length vs ≡ 1236) (s : ℕ) (a : s < 32) where
  byte_entry : entry_at vs (330 + s * 26 + 9) ≡ shown_if (used_outgoing (whole vs) s) (as_command (plain 8 (get_or vs (330 + s * 26 + 9) 0 % 256)))
  byte_entry =
      slot_command_entry vs l s 0 a (omega arith)
      ∙ ap (shown_if (used_outgoing (whole vs) s)) (byte_place (get_or vs (330 + s * 26 + 25) 0) (get_or vs (330 + s * 26 + 9) 0))

  pub byte_is_command : (entry_at vs (330 + s * 26 + 9)).is_command ≡ true
  byte_is_command = ap (λ (e : Place). e.is_command) byte_entry ∙ byte_command (used_outgoing (whole vs) s) (get_or vs (330 + s * 26 + 9) 0 % 256)

  pub byte_is_written : (entry_at vs (330 + s * 26 + 9)).is_written ≡ used_outgoing (whole vs) s
  byte_is_written = ap (λ (e : Place). e.is_written) byte_entry ∙ byte_written (used_outgoing (whole vs) s) (get_or vs (330 + s * 26 + 9) 0 % 256)

-- a place that is not written is passed
pub kinded_pass : (vs : List ℕ) → length vs ≡ 1236 → (i : ℕ) → (entry_at vs i).is_written ≡ false → Kinded vs i → Kinded vs (i + 1)
kinded_pass vs l i w k s a h u =
    below_or (330 + s * 26 + 9) i
    (λ (b : 330 + s * 26 + 9 < i). k s a b u)
    (λ (b : i ≤ 330 + s * 26 + 9).
    let e : i ≡ 330 + s * 26 + 9 = omega arith in
    never (sym w ∙ ap (λ (n : ℕ). (entry_at vs n).is_written) e ∙ byte_is_written vs l s a ∙ u))

-- ---- a written entry is seen as it is
pub seen_is : (e : Place) → e.is_written ≡ true → seen e ≡ e
seen_is e w = ap (λ (t : Bool). pick t e nowhere) w

-- ---- x put at place i, which is written
module _ (vs : List ℕ) (l : length vs ≡ 1236) (i : ℕ) (h : i < 1236) (w : (entry_at vs i).is_written ≡ true) (x : ℕ) where
  abbrev put_by : Bool → List ℕ
  put_by t = pick t (set (set vs i x) (i + 16) (x % 16)) (set vs i x)

  abbrev us : List ℕ
  us = put_at (entry_at vs i) i x vs

  pub put-length : length us ≡ 1236
  put-length = go (entry_at vs i).is_command
    where
      go : (t : Bool) → length (put_by t) ≡ 1236
      go true = length-set (set vs i x) (i + 16) (x % 16) ∙ length-set vs i x ∙ l
      go false = length-set vs i x ∙ l

  put_other : (k : ℕ) → (k ≡ i → ⊥) → (k ≡ i + 16 → ⊥) → get_or us k 0 ≡ get_or vs k 0
  put_other k a b = go (entry_at vs i).is_command
    where
      go : (t : Bool) → get_or (put_by t) k 0 ≡ get_or vs k 0
      go true = get_or-set_other (set vs i x) (i + 16) k (x % 16) 0 b ∙ get_or-set_other vs i k x 0 a
      go false = get_or-set_other vs i k x 0 a

  pub put_same : get_or us i 0 ≡ x
  put_same = go (entry_at vs i).is_command
    where
      go : (t : Bool) → get_or (put_by t) i 0 ≡ x
      go true = get_or-set_other (set vs i x) (i + 16) i (x % 16) 0 (λ e. omega (arith, e)) ∙ get_or-set_same vs i x 0 (omega arith)
      go false = get_or-set_same vs i x 0 (omega arith)

  put_kind : (entry_at vs i).is_command ≡ true → get_or us (i + 16) 0 ≡ x % 16
  put_kind c =
      let b : i + 16 < 1236 = command_inside vs l i h (entry_at vs i) refl c in
      ap (λ (t : Bool). get_or (put_by t) (i + 16) 0) c ∙ get_or-set_same (set vs i x) (i + 16) (x % 16) 0 (omega (arith, length-set vs i x))

  not_kind : (s : ℕ) → s < 32 → i ≡ 330 + s * 26 + 25 → ⊥
  not_kind s a e =
      never (sym (ap (λ (n : ℕ). (entry_at vs n).is_written) e ∙ ap (λ (p : Place). p.is_written) (slot_kind_entry vs l s a)) ∙ w)

  pub put_agrees : Agrees us vs i
  put_agrees k b = put_other k (λ e. omega (arith, e)) (λ e. omega (arith, e))

  pub put_kinds : Kinds us vs i
  put_kinds s a b = put_other (330 + s * 26 + 25) (λ e. not_kind s a (sym e)) (λ e. omega (arith, e))

  pub put_before : Before us vs i
  put_before k b =
      ap seen
      (entry_agrees us vs put-length l k (omega arith) (λ (j : ℕ) (q : j < suc k). put_agrees j (omega arith)) (λ (s : ℕ) (a : s < 32) (q : 330 + s * 26 + 9 < suc k). put_kinds s a (omega arith)))

  put_used : (s : ℕ) → 142 ≤ i → used_outgoing (whole us) s ≡ used_outgoing (whole vs) s
  put_used s b = used_out_same us vs put-length l s i b put_before

  module _ (k : Kinded vs i) where
    kinded_still : Kinded us i
    kinded_still s a b u =
        let q = k s a b (sym (put_used s (omega arith)) ∙ u) in
        let n : get_or us (330 + s * 26 + 25) 0 ≡ get_or vs (330 + s * 26 + 25) 0 = put_kinds s a b in
        let m : get_or us (330 + s * 26 + 9) 0 ≡ get_or vs (330 + s * 26 + 9) 0 = put_agrees (330 + s * 26 + 9) b in
        (ap (λ (y : ℕ). known y) n ∙ q.0, n ∙ q.1 ∙ ap (λ (y : ℕ). y % 16) (sym m))

    -- what the entry is like
    put_alike : shape (seen (entry_at us i)) ≡ shape (seen (entry_at vs i))
    put_alike = next_seen us vs i put-length l h (kinded_named us i kinded_still) (kinded_named vs i k) put_before

    pub put_written : (entry_at us i).is_written ≡ true
    put_written = next_written us vs i put-length l h (kinded_named us i kinded_still) (kinded_named vs i k) put_before ∙ w

    pub put_shape : shape (entry_at us i) ≡ shape (entry_at vs i)
    put_shape = sym (ap shape (seen_is (entry_at us i) put_written)) ∙ put_alike ∙ ap shape (seen_is (entry_at vs i) w)

    module _ (f : fits (entry_at vs i) x ≡ true) where
      pub put_number : (entry_at us i).number ≡ x
      put_number =
          number_at us i put-length h (kinded_known us i kinded_still)
          ∙ ap (λ (t : Bool). pick t (cut (entry_at us i).bits (get_or us i 0)) 0) put_written
          ∙ ap (λ (b : ℕ). cut b (get_or us i 0)) (ap (λ (e : Place). e.bits) put_shape)
          ∙ ap (cut (entry_at vs i).bits) put_same
          ∙ cut_small (entry_at vs i).bits x (omega (arith, fit_most (entry_at vs i) x f, most_bits vs l i h))

      pub kinded_put : Kinded us (i + 1)
      kinded_put s a b u =
          below_or (330 + s * 26 + 9) i
          (λ (q : 330 + s * 26 + 9 < i). kinded_still s a q u)
          (λ (q : i ≤ 330 + s * 26 + 9).
          let e : i ≡ 330 + s * 26 + 9 = omega arith in
          let c : (entry_at vs i).is_command ≡ true = ap (λ (n : ℕ). (entry_at vs n).is_command) e ∙ byte_is_command vs l s a in
          let z : 330 + s * 26 + 25 ≡ i + 16 = omega arith in
          let n : get_or us (330 + s * 26 + 25) 0 ≡ x % 16 = ap (λ (t : ℕ). get_or us t 0) z ∙ put_kind c in
          let m : get_or us (330 + s * 26 + 9) 0 ≡ x = ap (λ (t : ℕ). get_or us t 0) (sym e) ∙ put_same in
          let y : known (x % 16) ≡ true = sym (ap (λ (t : Bool). pick t (known (x % 16)) true) c) ∙ both_right (leb x (entry_at vs i).most) _ f in
          (ap (λ (t : ℕ). known t) n ∙ y, n ∙ ap (λ (t : ℕ). t % 16) (sym m)))
