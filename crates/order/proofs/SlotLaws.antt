-- The places of an outgoing slot of the lent record: its nine numbers, its command's as wide as in its struct, its kind.
-- The argument: a slot's numbers are its row's, each cut to its bits; a command's by `shaped_row`, where its kind names none by computing. A field is written
-- where the layout has a width, and there alone.
use Prim.Native.Nat.{ℕ, zero, suc, ◌+◌, ◌*◌, ◌-◌, ◌≤◌, ◌<◌}
use mathlib.Core.Path.{◌≡◌, refl, ap, sym, ◌∙◌}
use mathlib.Core.Bool.{Bool, true, false}
use mathlib.Core.List.{List, [], ◌∷◌, ◌++◌, map}
use native.Mathlib.Nat.{zero-add}
use native.Mathlib.Omega.{arith}
use lib.Dec.{ltb}
use lib.ListN.{length, get_or, set, take, drop, length-append, length-set, get_or-map}
use lib.Seq.{get_or-set_same, get_or-set_other}
use borrow.Author.Tests.{lt-ltb, le-ltb, ne_eqb}
use Rattle.numbers.specs.Pick.{pick, both}
use Rattle.numbers.proofs.BoolLaws.{both_left, both_right}
use Rattle.command.specs.Layout.{known, layout, width_of}
use Rattle.command.specs.Bytes.{pad}
use Rattle.command.specs.Rows.{kind_of, row_of}
use Rattle.command.specs.Shapes.{assembled}
use Rattle.command.specs.declared.fields.Command.{Command}
use Rattle.command.proofs.LayoutLaws.{known_low, known_high, layout-known, layout-length, each_layout}
use Rattle.command.proofs.RowLaws.{pad-length, pad_at}
use Rattle.wire.specs.Decoded.{decoded, unnamed}
use Rattle.wire.proofs.ShapeLaws.{cut as cut_to, cuts as cuts_to, shaped_row, shaped_row_lem}
use Rattle.lists.specs.Rows.{section}
use Rattle.record.specs.Fresh.{no_outgoing}
use Rattle.record.specs.declared.groups.Outgoing.{Outgoing}
use Rattle.pool.specs.Rows.{row_at}
use Rattle.pool.specs.Slots.{flag, slot_from, words_of, kind_from}
use Rattle.pool.proofs.Rows.{rows_at, row_at_lem}
use Rattle.pool.proofs.Decoding.{words_length, command_at}
use Rattle.places.specs.Whole.{whole}
use Rattle.places.proofs.Sections.{section_number}
use Rattle.places.proofs.PoolLaws.{pool_is}
use Rattle.order.specs.Table.{plain, as_command, unwritten, nowhere, first, there, numbered, command_bits, slot_bits, slot_numbers, slot_places}
use Rattle.order.specs.CodeCuts.{cut, cut_place, field_from, command_place}
use Rattle.order.specs.declared.Place.{Place}
use Rattle.order.proofs.TableLaws.{at_front, at_back, shown_if, shown_twice, ltb-suc, first_at, first-length, there-ltb, there-both, numbered_at, numbered-length}

-- ---- the widths of a layout are 1, 2 or 4
abbrev one_two_four : ℕ → Bool
one_two_four zero = false
one_two_four (suc zero) = true
one_two_four (suc (suc zero)) = true
one_two_four (suc (suc (suc zero))) = false
one_two_four (suc (suc (suc (suc zero)))) = true
one_two_four (suc (suc (suc (suc (suc w))))) = false

unfoldable plain_widths : List ℕ → Bool
plain_widths [] = true
plain_widths (w ∷ ws) = both (one_two_four w) (plain_widths ws)

layout_plain : (k : ℕ) → plain_widths (layout k) ≡ true
unfolding layout plain_widths
layout_plain = each_layout plain_widths refl refl

never : {A : Type 0} → false ≡ true → A
never e = let z : ◌≡◌ {A = ℕ} 0 1 = cc in absurd (omega arith)

-- a width that a field has
abbrev Fit : ℕ → Type 0
Fit w = (w ≤ 4) × (w ≡ 3 → ⊥)

fit_one : (w : ℕ) → one_two_four w ≡ true → Fit w
fit_one zero e = never e
fit_one (suc zero) e = (omega arith, λ q. omega (arith, q))
fit_one (suc (suc zero)) e = (omega arith, λ q. omega (arith, q))
fit_one (suc (suc (suc zero))) e = never e
fit_one (suc (suc (suc (suc zero)))) e = (omega arith, λ q. omega (arith, q))
fit_one (suc (suc (suc (suc (suc w))))) e = never e

fit_at : (ws : List ℕ) (j : ℕ) → plain_widths ws ≡ true → Fit (get_or ws j 0)
unfolding plain_widths
fit_at [] j e = (omega arith, λ q. omega (arith, q))
fit_at (w ∷ ws) zero e = fit_one w (both_left (one_two_four w) (plain_widths ws) e)
fit_at (w ∷ ws) (suc j) e = fit_at ws j (both_right (one_two_four w) (plain_widths ws) e)

pub width_fit : (k j : ℕ) → Fit (width_of k j)
width_fit k j = fit_at (layout k) j (layout_plain k)

-- a layout has a width at j where it is longer than j
width_there : (ws : List ℕ) (j : ℕ) → plain_widths ws ≡ true → ltb j (length ws) ≡ ltb 0 (get_or ws j 0)
unfolding plain_widths
width_there [] j e = le-ltb j 0 (omega arith)
width_there (w ∷ ws) zero e = lt-ltb 0 (suc (length ws)) (omega arith) ∙ sym (one w (both_left (one_two_four w) (plain_widths ws) e))
  where
    one : (v : ℕ) → one_two_four v ≡ true → ltb 0 v ≡ true
    one zero q = never q
    one (suc v) q = lt-ltb 0 (suc v) (omega arith)
width_there (w ∷ ws) (suc j) e = sym (ltb-suc j (length ws)) ∙ width_there ws j (both_right (one_two_four w) (plain_widths ws) e)

-- ---- a command's numbers
cut_none : (x : ℕ) → 0 ≡ cut 0 x
cut_none x = omega arith

cut_same : (w x : ℕ) → one_two_four w ≡ true → cut_to w x ≡ cut (8 * w) x
cut_same zero x e = never e
cut_same (suc zero) x e = refl
cut_same (suc (suc zero)) x e = refl
cut_same (suc (suc (suc zero))) x e = never e
cut_same (suc (suc (suc (suc zero)))) x e = refl
cut_same (suc (suc (suc (suc (suc w))))) x e = never e

cuts_same : (ws xs : List ℕ) (i j : ℕ) → plain_widths ws ≡ true → get_or (cuts_to ws xs i) j 0 ≡ cut (8 * get_or ws j 0) (get_or xs (i + j) 0)
unfolding plain_widths
cuts_same [] xs i j e = cut_none (get_or xs (i + j) 0)
cuts_same (w ∷ ws) xs i zero e =
    let z : i ≡ i + zero = omega arith in
    cut_same w (get_or xs i 0) (both_left (one_two_four w) (plain_widths ws) e) ∙ ap (λ (k : ℕ). cut (8 * w) (get_or xs k 0)) z
cuts_same (w ∷ ws) xs i (suc j) e =
    let z : i + 1 + j ≡ i + suc j = omega arith in
    cuts_same ws xs (i + 1) j (both_right (one_two_four w) (plain_widths ws) e) ∙ ap (λ (k : ℕ). cut (8 * get_or ws j 0) (get_or xs k 0)) z

-- of a kind that names a command, and of one that names none
module _ (k : ℕ) (xs : List ℕ) where
  row_known : known k ≡ true → shaped_row k xs ≡ k ∷ cuts_to (layout k) xs 0
  row_known e = shaped_row_lem k xs (known_low k e) (known_high k e)

  pub kind_decoded : kind_of (decoded k xs).fields ≡ kind_from k
  unfolding decoded
  kind_decoded = go (known k) refl
    where
      go : (b : Bool) → known k ≡ b → kind_of (decoded k xs).fields ≡ pick b k 1
      go true e = rw e (ap (λ (l : List ℕ). get_or l 0 0) (row_known e))
      go false e = rw e

  none_at : (j : ℕ) → get_or (row_of (unnamed xs)) j 0 ≡ cut (8 * width_of 1 j) (pick (ltb j 3) (get_or xs j 0) 0)
  unfolding layout
  none_at zero = refl
  none_at (suc zero) = refl
  none_at (suc (suc zero)) = refl
  none_at (suc (suc (suc zero))) = refl
  none_at (suc (suc (suc (suc zero)))) = refl
  none_at (suc (suc (suc (suc (suc j))))) = cut_none _

  known_at : (j : ℕ) → known k ≡ true → get_or (drop 1 (shaped_row k xs)) j 0 ≡ cut (8 * width_of k j) (get_or xs j 0)
  known_at j e =
      ap (λ (l : List ℕ). get_or (drop 1 l) j 0) (row_known e)
      ∙ cuts_same (layout k) xs 0 j (layout_plain k)
      ∙ ap (λ (i : ℕ). cut (8 * width_of k j) (get_or xs i 0)) (zero-add j)

  decoded_is : (b : Bool) → known k ≡ b → decoded k xs ≡ pick b (assembled k xs) (unnamed xs)
  unfolding decoded
  decoded_is b e = ap (λ (t : Bool). pick t (assembled k xs) (unnamed xs)) e

  pub decoded_at : (j : ℕ) → get_or (row_of (decoded k xs)) j 0 ≡ cut (8 * width_of (kind_from k) j) (field_from k j (get_or xs j 0))
  decoded_at j = go (known k) refl
    where
      same : (b : Bool) (x : ℕ) → x ≡ pick b x x
      same true x = refl
      same false x = refl

      go : (b : Bool) → known k ≡ b → get_or (row_of (decoded k xs)) j 0 ≡ cut (8 * width_of (pick b k 1) j) (pick (ltb j 3) (get_or xs j 0) (pick b (get_or xs j 0) 0))
      go true e = ap (λ (c : Command). get_or (row_of c) j 0) (decoded_is true e) ∙ known_at j e ∙ ap (cut (8 * width_of k j)) (same (ltb j 3) (get_or xs j 0))
      go false e = ap (λ (c : Command). get_or (row_of c) j 0) (decoded_is false e) ∙ none_at j

-- ---- a slot by its row of numbers
abbrev eightfold : ℕ → ℕ
eightfold bytes = 8 * bytes

bits_length : (k : ℕ) → length (slot_bits k) ≡ 26
bits_length k =
    let e : length (command_bits k ++ (8 ∷ [])) ≡ 17 = length-append (command_bits k) (8 ∷ []) ∙ ap (λ (n : ℕ). n + 1) (pad-length 16 (map eightfold (layout k))) in
    omega arith

numbers-length : (k : ℕ) (o : Outgoing) → length (numbered (slot_bits k) (words_of o)) ≡ 26
numbers-length k o = numbered-length (slot_bits k) (words_of o) (bits_length k ∙ sym (words_length o)) ∙ bits_length k

pub slot_length : (b : Bool) (o : Outgoing) → length (slot_places b o) ≡ 26
slot_length b o =
    let k = kind_of o.command.fields in
    let es = slot_numbers o in
    first-length (there b (9 + length (layout k))) (set es 9 (as_command (get_or es 9 nowhere)))
    ∙ length-set es 9 (as_command (get_or es 9 nowhere))
    ∙ numbers-length k o

module _ (r : List ℕ) where
  abbrev kind : ℕ
  kind = kind_from (get_or r 25 0)

  abbrev es : List Place
  es = numbered (slot_bits kind) (words_of (slot_from r))

  place_is : (j : ℕ) → j < 26 → get_or es j nowhere ≡ plain (get_or (slot_bits kind) j 0) (get_or (words_of (slot_from r)) j 0)
  place_is j h = numbered_at (slot_bits kind) (words_of (slot_from r)) j (rw (bits_length kind) h) (rw (words_length (slot_from r)) h)

  pub own_number_lem : (j : ℕ) → j < 9 → get_or es j nowhere ≡ cut_place (get_or (slot_bits 1) j 0) (get_or r j 0)
  unfolding slot_from words_of
  own_number_lem j h = place_is j (omega arith) ∙ go j h
    where
      go : (i : ℕ) → i < 9 → plain (get_or (slot_bits kind) i 0) (get_or (words_of (slot_from r)) i 0) ≡ cut_place (get_or (slot_bits 1) i 0) (get_or r i 0)
      go zero l = refl
      go (suc zero) l = refl
      go (suc (suc zero)) l = refl
      go (suc (suc (suc zero))) l = refl
      go (suc (suc (suc (suc zero)))) l = refl
      go (suc (suc (suc (suc (suc zero))))) l = refl
      go (suc (suc (suc (suc (suc (suc zero)))))) l = refl
      go (suc (suc (suc (suc (suc (suc (suc zero))))))) l = refl
      go (suc (suc (suc (suc (suc (suc (suc (suc zero)))))))) l = refl
      go (suc (suc (suc (suc (suc (suc (suc (suc (suc i))))))))) l = absurd (omega arith)

  -- the command's
  pub command_number : (j : ℕ) → j < 16 → get_or es (9 + j) nowhere ≡ cut_place (8 * width_of kind j) (field_from (get_or r 25 0) j (get_or r (9 + j) 0))
  unfolding slot_from words_of
  command_number j h =
      let o = slot_from r in
      let xs = take 16 (drop 9 r) in
      let row = row_of o.command in
      let before = o.reliable.0 ∷ o.unreliable.0 ∷ o.sent ∷ o.timeout ∷ o.queued ∷ o.offset ∷ o.length ∷ o.attempts ∷ flag o.packet ∷ [] in
      let bits : get_or (slot_bits kind) (9 + j) 0 ≡ 8 * width_of kind j =
      at_back (16 ∷ 16 ∷ 32 ∷ 32 ∷ 32 ∷ 32 ∷ 16 ∷ 16 ∷ 1 ∷ []) (command_bits kind ++ (8 ∷ [])) 0 9 refl j
      ∙ at_front (command_bits kind) (8 ∷ []) 0 16 (pad-length 16 (map eightfold (layout kind))) j h
      ∙ pad_at 16 (map eightfold (layout kind)) j h
      ∙ get_or-map eightfold (layout kind) j 0
      in
      let number : get_or (words_of o) (9 + j) 0 ≡ cut (8 * width_of kind j) (field_from (get_or r 25 0) j (get_or r (9 + j) 0)) =
      at_back before (pad 16 row ++ (kind_of o.command.fields ∷ [])) 0 9 refl j
      ∙ at_front (pad 16 row) (kind_of o.command.fields ∷ []) 0 16 (pad-length 16 row) j h
      ∙ pad_at 16 row j h
      ∙ decoded_at (get_or r 25 0) xs j
      ∙ ap (λ (x : ℕ). cut (8 * width_of kind j) (field_from (get_or r 25 0) j x)) (command_at r j h)
      in
      place_is (9 + j) (omega arith) ∙ ap (λ (b : ℕ). plain b (get_or (words_of o) (9 + j) 0)) bits ∙ ap (plain (8 * width_of kind j)) number

  -- ---- as it is written
  abbrev laid : List Place
  laid = set es 9 (as_command (get_or es 9 nowhere))

  kind_is : kind_of (slot_from r).command.fields ≡ kind
  unfolding slot_from
  kind_is = kind_decoded (get_or r 25 0) (take 16 (drop 9 r))

  slot_is : (is_used : Bool) (j : ℕ) → get_or (slot_places is_used (slot_from r)) j nowhere ≡ shown_if (ltb j (there is_used (9 + length (layout kind)))) (get_or laid j nowhere)
  slot_is is_used j =
      ap (λ (k : ℕ). get_or (first (there is_used (9 + length (layout k))) (set (numbered (slot_bits k) (words_of (slot_from r))) 9 (as_command (get_or (numbered (slot_bits k) (words_of (slot_from r))) 9 nowhere)))) j nowhere) kind_is
      ∙ first_at (there is_used (9 + length (layout kind))) j laid

  pub own_shown : (is_used : Bool) (j : ℕ) → j < 9 → get_or (slot_places is_used (slot_from r)) j nowhere ≡ shown_if is_used (cut_place (get_or (slot_bits 1) j 0) (get_or r j 0))
  own_shown is_used j h =
      slot_is is_used j
      ∙ ap (λ (t : Bool). shown_if t (get_or laid j nowhere)) (there-ltb is_used (9 + length (layout kind)) j (omega arith))
      ∙ ap (shown_if is_used) (get_or-set_other es 9 j (as_command (get_or es 9 nowhere)) nowhere (λ e. omega (arith, e)) ∙ own_number_lem j h)

  -- the kind, which is never written
  pub kind_shown : (is_used : Bool) (x : ℕ) → get_or (slot_places is_used (slot_from r)) 25 nowhere ≡ unwritten (plain 8 x)
  kind_shown is_used x =
      slot_is is_used 25
      ∙ ap (λ (t : Bool). shown_if t (get_or laid 25 nowhere)) (le-ltb 25 (there is_used (9 + length (layout kind))) (most is_used))
      ∙ ap unwritten (get_or-set_other es 9 25 (as_command (get_or es 9 nowhere)) nowhere (λ e. omega (arith, e)) ∙ place_is 25 (omega arith))
      ∙ ap (λ (b : ℕ). unwritten (plain b x)) (at_back (16 ∷ 16 ∷ 32 ∷ 32 ∷ 32 ∷ 32 ∷ 16 ∷ 16 ∷ 1 ∷ []) (command_bits kind ++ (8 ∷ [])) 0 9 refl 16
      ∙ at_back (command_bits kind) (8 ∷ []) 0 16 (pad-length 16 (map eightfold (layout kind))) 0)
    where
      most : (b : Bool) → there b (9 + length (layout kind)) ≤ 25
      most true = omega (arith, layout-length kind)
      most false = omega arith

  -- the byte, which names a command; then the others, where the layout has a width
  byte_shown : (is_used : Bool) → get_or (slot_places is_used (slot_from r)) 9 nowhere ≡ shown_if is_used (command_place (get_or r 25 0) 0 (get_or r 9 0))
  byte_shown is_used =
      slot_is is_used 9
      ∙ ap (λ (t : Bool). shown_if t (get_or laid 9 nowhere)) (there-ltb is_used (9 + length (layout kind)) 9 (omega (arith, some (get_or r 25 0))))
      ∙ ap (shown_if is_used) (get_or-set_same es 9 (as_command (get_or es 9 nowhere)) nowhere (rw (numbers-length kind (slot_from r)) (omega arith)) ∙ ap as_command (command_number 0 (omega arith)))
    where
      some : (k : ℕ) → 1 ≤ length (layout (kind_from k))
      some k = go (known k) refl
        where
          go : (b : Bool) → known k ≡ b → 1 ≤ length (layout (pick b k 1))
          go true e = rw (layout-known k e) (omega arith)
          go false e = rw (layout-known 1 refl) (omega arith)

  pub command_shown : (is_used : Bool) (j : ℕ) → j < 16 → get_or (slot_places is_used (slot_from r)) (9 + j) nowhere ≡ shown_if is_used (command_place (get_or r 25 0) j (get_or r (9 + j) 0))
  command_shown is_used zero h = byte_shown is_used
  command_shown is_used (suc j) h =
      let e = cut_place (8 * width_of kind (suc j)) (field_from (get_or r 25 0) (suc j) (get_or r (9 + suc j) 0)) in
      slot_is is_used (9 + suc j)
      ∙ ap (λ (t : Bool). shown_if t (get_or laid (9 + suc j) nowhere)) (there-both is_used 9 (suc j) (length (layout kind)) ∙ ap (both is_used) (width_there (layout kind) (suc j) (layout_plain kind)))
      ∙ shown_twice is_used (ltb 0 (width_of kind (suc j))) (get_or laid (9 + suc j) nowhere)
      ∙ ap (λ (p : Place). shown_if is_used (shown_if (ltb 0 (width_of kind (suc j))) p)) (get_or-set_other es 9 (9 + suc j) (as_command (get_or es 9 nowhere)) nowhere (λ e. omega (arith, e)) ∙ command_number (suc j) h)
      ∙ ap (λ (t : Bool). shown_if is_used (pick t (as_command e) (shown_if (ltb 0 (width_of kind (suc j))) e))) (sym (ne_eqb (suc j) 0 (λ q. omega (arith, q))))

-- ---- of the lent record
module _ (ws : List ℕ) (s : ℕ) (h : s < 32) where
  abbrev own : List ℕ
  own = row_at 26 (section 330 832 ws) s

  slot_at : get_or (whole ws).outgoing s no_outgoing ≡ slot_from own
  slot_at = ap (λ (os : List Outgoing). get_or os s no_outgoing) (pool_is ws) ∙ rows_at slot_from 26 32 (section 330 832 ws) s no_outgoing h

  own_at : (j : ℕ) → j < 26 → get_or own j 0 ≡ get_or ws (330 + s * 26 + j) 0
  own_at j l =
      let p : 330 + (s * 26 + j) ≡ 330 + s * 26 + j = omega arith in
      row_at_lem 26 (section 330 832 ws) s j l ∙ section_number 330 832 (s * 26 + j) ws (omega arith) ∙ ap (λ (k : ℕ). get_or ws k 0) p

  abbrev places_of : Bool → List Place
  places_of is_used = slot_places is_used (get_or (whole ws).outgoing s no_outgoing)

  there_at_slot : (is_used : Bool) (j : ℕ) → get_or (slot_places is_used (slot_from own)) j nowhere ≡ get_or (places_of is_used) j nowhere
  there_at_slot is_used j = ap (λ (o : Outgoing). get_or (slot_places is_used o) j nowhere) (sym slot_at)

  pub slot_number_place : (is_used : Bool) (j : ℕ) → j < 9 → shown_if is_used (cut_place (get_or (slot_bits 1) j 0) (get_or ws (330 + s * 26 + j) 0)) ≡ get_or (places_of is_used) j nowhere
  slot_number_place is_used j l =
      ap (λ (x : ℕ). shown_if is_used (cut_place (get_or (slot_bits 1) j 0) x)) (sym (own_at j (omega arith)))
      ∙ sym (own_shown own is_used j l)
      ∙ there_at_slot is_used j

  pub slot_kind_place : (is_used : Bool) (j x : ℕ) → j ≡ 25 → unwritten (plain 8 x) ≡ get_or (places_of is_used) j nowhere
  slot_kind_place is_used j x e =
      sym (kind_shown own is_used x) ∙ there_at_slot is_used 25 ∙ ap (λ (i : ℕ). get_or (places_of is_used) i nowhere) (sym e)

  pub slot_command_place : (is_used : Bool) (j : ℕ) → 9 ≤ j → j < 25
      → shown_if is_used (command_place (get_or ws (330 + s * 26 + 25) 0) (j - 9) (get_or ws (330 + s * 26 + j) 0)) ≡ get_or (places_of is_used) j nowhere
  slot_command_place is_used j a b =
      let e : 9 + (j - 9) ≡ j = omega arith in
      ap (λ (k : ℕ). shown_if is_used (command_place k (j - 9) (get_or ws (330 + s * 26 + j) 0))) (sym (own_at 25 (omega arith)))
      ∙ ap (λ (x : ℕ). shown_if is_used (command_place (get_or own 25 0) (j - 9) x)) (sym (own_at j (omega arith)) ∙ ap (λ (i : ℕ). get_or own i 0) (sym e))
      ∙ sym (command_shown own is_used (j - 9) (omega arith))
      ∙ ap (λ (i : ℕ). get_or (slot_places is_used (slot_from own)) i nowhere) e
      ∙ there_at_slot is_used j
