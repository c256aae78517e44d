-- The places of each part of the lent record but the outgoing slots: its own numbers, its groups, its marks, a list, a channel, an incoming slot.
-- The argument: a part's row is its lent numbers cut to their bits, by computing; then a place by its number.
use Prim.Native.Nat.{ℕ, zero, suc, ◌+◌, ◌*◌, ◌-◌, ◌%◌, ◌≤◌, ◌<◌}
use mathlib.Core.Path.{◌≡◌, refl, ap, sym, ◌∙◌}
use mathlib.Core.Bool.{Bool}
use mathlib.Core.List.{List, [], ◌∷◌, ◌++◌, map}
use native.Mathlib.Nat.{zero-add}
use native.Mathlib.Numerals.{add-one}
use native.Mathlib.Omega.{arith}
use lib.Dec.{leb, ltb}
use lib.ListN.{length, get_or, replicate, length-map, get_or-replicate, get_or-append, get_or-map, get_or-eq_default}
use Rattle.cells.proofs.Views.{at_any}
use Rattle.lists.specs.Rows.{low, section, row_at, len_of, cells_of}
use Rattle.lists.proofs.Placed.{row_is, cells_length}
use Rattle.record.specs.Fresh.{no_incoming}
use Rattle.record.specs.declared.groups.Channel.{Channel}
use Rattle.record.specs.declared.groups.Incoming.{Incoming}
use Rattle.record.specs.declared.groups.Standing.{Standing}
use Rattle.record.specs.declared.incoming.InList.{InList}
use Rattle.pool.specs.Rows.{row_at as row_in}
use Rattle.pool.specs.Slots.{in_slot_from}
use Rattle.pool.proofs.Rows.{rows_at, row_at_lem}
use Rattle.peer.specs.declared.Peer.{Peer}
use Rattle.places.specs.Whole.{sizes, numbers, parts, made, whole, channel_from}
use Rattle.places.specs.Updates.{channel_at}
use Rattle.places.proofs.Sections.{section_number}
use Rattle.places.proofs.GroupLaws.{standing_is}
use Rattle.places.proofs.ChannelLaws.{channel_is, channel_number, held_is}
use Rattle.places.proofs.PoolLaws.{in_pool_is}
use Rattle.order.specs.Table.{plain, length_of, nowhere, first, there, numbered, list_places, in_places, own_bits, own_row, group_bits, group_row, channel_places, in_slot_bits, in_slot_row, in_slot_places, marks_row}
use Rattle.order.specs.CodeCuts.{cut_place}
use Rattle.order.specs.declared.Place.{Place}
use Rattle.order.proofs.TableLaws.{past_seam, shown_if, first_at, first-length, there_at, numbered-length}
use Rattle.order.proofs.CutLaws.{cuts, cuts-length, cut_number, numbers-length, section-numbers}

-- ---- the own numbers
own_row_lem : (ws : List ℕ) → own_row (whole ws) ≡ cuts own_bits (numbers 43 0 ws)
unfolding made parts numbers sizes own_row cuts
own_row_lem ws = refl

pub own_place : (ws : List ℕ) (j b : ℕ) → j < 43 → get_or own_bits j 0 ≡ b → cut_place b (get_or ws j 0) ≡ get_or (numbered own_bits (own_row (whole ws))) j nowhere
own_place ws j b h e =
    let z : j ≡ 0 + j = omega arith in
    ap (λ (k : ℕ). cut_place b (get_or ws k 0)) z
    ∙ sym (cut_number own_bits 43 0 ws j b refl h e)
    ∙ ap (λ (r : List ℕ). get_or (numbered own_bits r) j nowhere) (sym (own_row_lem ws))

pub own-length : (p : Peer) → length (numbered own_bits (own_row p)) ≡ 43
unfolding own_row
own-length p = numbered-length own_bits (own_row p) refl

-- two of 16 bits, one of 32, two of 8, 37 of 32, one of 16
pub own_peers : (j : ℕ) → j < 2 → get_or own_bits j 0 ≡ 16
own_peers zero h = refl
own_peers (suc zero) h = refl
own_peers (suc (suc j)) h = absurd (omega arith)

pub own_sessions : (j : ℕ) → 3 ≤ j → j < 5 → get_or own_bits j 0 ≡ 8
own_sessions (suc (suc (suc zero))) l h = refl
own_sessions (suc (suc (suc (suc zero)))) l h = refl
own_sessions (suc (suc (suc (suc (suc j))))) l h = absurd (omega arith)
own_sessions zero l h = absurd (omega arith)
own_sessions (suc zero) l h = absurd (omega arith)
own_sessions (suc (suc zero)) l h = absurd (omega arith)

pub own_wide : (j : ℕ) → 5 ≤ j → j < 42 → get_or own_bits j 0 ≡ 32
own_wide j l h =
    past_seam (16 ∷ 16 ∷ 32 ∷ 8 ∷ 8 ∷ []) (replicate 37 32 ++ (16 ∷ [])) 0 5 refl j l
    ∙ get_or-append (replicate 37 32) (16 ∷ []) 0 (j - 5) (omega arith)
    ∙ get_or-replicate 37 (j - 5) 32 0 (omega arith)

-- ---- flags, groups, words, event data, waiting total, host count
group_row_lem : (ws : List ℕ) → length ws ≡ 1236 → group_row (whole ws).unsequenced (whole ws).waiting ≡ cuts group_bits (numbers 39 155 ws)
unfolding made parts numbers sizes cuts
group_row_lem ws l =
    ap (λ (words : List ℕ). get_or ws 155 0 % 65536 ∷ get_or ws 156 0 % 65536 ∷ get_or ws 157 0 % 65536 ∷ get_or ws 158 0 % 65536 ∷ (words ++ (get_or ws 191 0 ∷ get_or ws 192 0 ∷ get_or ws 193 0 ∷ [])))
    (section-numbers 32 159 ws (omega arith))

pub group_place : (ws : List ℕ) (j b : ℕ) → length ws ≡ 1236 → j < 39 → get_or group_bits j 0 ≡ b
    → cut_place b (get_or ws (155 + j) 0) ≡ get_or (numbered group_bits (group_row (whole ws).unsequenced (whole ws).waiting)) j nowhere
group_place ws j b l h e =
    sym (cut_number group_bits 39 155 ws j b refl h e)
    ∙ ap (λ (r : List ℕ). get_or (numbered group_bits r) j nowhere) (sym (group_row_lem ws l))

pub group_length : (ws : List ℕ) → length ws ≡ 1236 → length (numbered group_bits (group_row (whole ws).unsequenced (whole ws).waiting)) ≡ 39
group_length ws l =
    let e : length (cuts group_bits (numbers 39 155 ws)) ≡ 39 = cuts-length group_bits (numbers 39 155 ws) (sym (numbers-length 39 155 ws)) in
    numbered-length group_bits (group_row (whole ws).unsequenced (whole ws).waiting) (sym (ap length (group_row_lem ws l) ∙ e))

pub group_narrow : (j : ℕ) → j < 4 → get_or group_bits j 0 ≡ 16
group_narrow zero h = refl
group_narrow (suc zero) h = refl
group_narrow (suc (suc zero)) h = refl
group_narrow (suc (suc (suc zero))) h = refl
group_narrow (suc (suc (suc (suc j)))) h = absurd (omega arith)

pub group_wide : (j : ℕ) → 4 ≤ j → j < 39 → get_or group_bits j 0 ≡ 32
group_wide j l h = past_seam (16 ∷ 16 ∷ 16 ∷ 16 ∷ []) (replicate 35 32) 0 4 refl j l ∙ get_or-replicate 35 (j - 4) 32 0 (omega arith)

-- ---- the marks
marks_row_lem : (ws : List ℕ) → numbered (32 ∷ 32 ∷ []) (marks_row (whole ws).marks) ≡ plain 32 (get_or ws 1234 0) ∷ plain 32 (get_or ws 1235 0) ∷ []
unfolding made parts numbers sizes numbered
marks_row_lem ws = refl

pub mark_place : (ws : List ℕ) (j : ℕ) → j < 2 → plain 32 (get_or ws (1234 + j) 0) ≡ get_or (numbered (32 ∷ 32 ∷ []) (marks_row (whole ws).marks)) j nowhere
mark_place ws j h = go j h ∙ ap (λ (es : List Place). get_or es j nowhere) (sym (marks_row_lem ws))
  where
    go : (i : ℕ) → i < 2 → plain 32 (get_or ws (1234 + i) 0) ≡ get_or (plain 32 (get_or ws 1234 0) ∷ plain 32 (get_or ws 1235 0) ∷ []) i nowhere
    go zero l = refl
    go (suc zero) l = refl
    go (suc (suc i)) l = absurd (omega arith)

pub mark_none : (ws : List ℕ) (j : ℕ) → 2 ≤ j → nowhere ≡ get_or (numbered (32 ∷ 32 ∷ []) (marks_row (whole ws).marks)) j nowhere
mark_none ws j h =
    sym (get_or-eq_default (plain 32 (get_or ws 1234 0) ∷ plain 32 (get_or ws 1235 0) ∷ []) nowhere {n = j} h)
    ∙ ap (λ (es : List Place). get_or es j nowhere) (sym (marks_row_lem ws))

-- ---- a list at a place
abbrev pub list_at : ℕ → ℕ → List ℕ → List Place
list_at at size ws = list_places size (len_of (row_at at size ws)) (cells_of (row_at at size ws))

module _ (ws : List ℕ) (at size : ℕ) (h : at + size + 1 ≤ length ws) where
  list_is : list_at at size ws ≡ length_of size (low (get_or ws at 0)) ∷ first (low (get_or ws at 0)) (map (plain 16) (map low (section (at + 1) size ws)))
  list_is = ap (λ (r : List ℕ). list_places size (len_of r) (cells_of r)) (row_is ws at size h)

  pub places_length : length (list_at at size ws) ≡ size + 1
  places_length =
      ap length list_is
      ∙ ap suc (first-length (low (get_or ws at 0)) (map (plain 16) (map low (section (at + 1) size ws))) ∙ length-map (map low (section (at + 1) size ws)) (plain 16) ∙ length-map (section (at + 1) size ws) low ∙ cells_length ws at size h)
      ∙ sym (add-one size)

  pub list_length : (j : ℕ) → j ≡ 0 → length_of size (get_or ws (at + j) 0 % 65536) ≡ get_or (list_at at size ws) j nowhere
  list_length j z =
      let e : at + j ≡ at = omega arith in
      ap (λ (k : ℕ). length_of size (low (get_or ws k 0))) e
      ∙ ap (λ (i : ℕ). get_or (length_of size (low (get_or ws at 0)) ∷ first (low (get_or ws at 0)) (map (plain 16) (map low (section (at + 1) size ws)))) i nowhere) (sym z)
      ∙ ap (λ (es : List Place). get_or es j nowhere) (sym list_is)

  cell_at : (i : ℕ) → i < size → get_or (map (plain 16) (map low (section (at + 1) size ws))) i nowhere ≡ plain 16 (low (get_or ws (at + 1 + i) 0))
  cell_at i l =
      let s = section (at + 1) size ws in
      let full : i < length (map (plain 16) (map low s)) = rw (length-map, length-map, cells_length ws at size h) l in
      at_any (map (plain 16) (map low s)) i nowhere (plain 16 0) full
      ∙ get_or-map (plain 16) (map low s) i 0
      ∙ ap (plain 16) (get_or-map low s i 0 ∙ ap low (section_number (at + 1) size i ws l))

  pub list_cell : (j n : ℕ) → (j ≡ 0 → ⊥) → j ≤ size → n ≡ get_or ws at 0 % 65536 → shown_if (leb j n) (plain 16 (get_or ws (at + j) 0 % 65536)) ≡ get_or (list_at at size ws) j nowhere
  list_cell zero n d l e = absurd (d refl)
  list_cell (suc i) n d l e =
      let p : at + suc i ≡ at + 1 + i = omega arith in
      ap (λ (m : ℕ). shown_if (ltb i m) (plain 16 (low (get_or ws (at + suc i) 0)))) e
      ∙ ap (λ (k : ℕ). shown_if (ltb i (low (get_or ws at 0))) (plain 16 (low (get_or ws k 0)))) p
      ∙ ap (shown_if (ltb i (low (get_or ws at 0)))) (sym (cell_at i (omega arith)))
      ∙ sym (first_at (low (get_or ws at 0)) i (map (plain 16) (map low (section (at + 1) size ws))))
      ∙ ap (λ (es : List Place). get_or es (suc i) nowhere) (sym list_is)

-- ---- a channel
abbrev numbers_in : Channel → List Place
numbers_in c = plain 16 c.outgoing_reliable.0 ∷ plain 16 c.outgoing_unreliable.0 ∷ plain 16 c.incoming_reliable.0 ∷ plain 16 c.incoming_unreliable.0 ∷ []

numbers_in_lem : (r : List ℕ) (es : List Place) (j : ℕ) → j < 4 → get_or (numbers_in (channel_from r) ++ es) j nowhere ≡ plain 16 (get_or r j 0 % 65536)
unfolding channel_from
numbers_in_lem r es zero h = refl
numbers_in_lem r es (suc zero) h = refl
numbers_in_lem r es (suc (suc zero)) h = refl
numbers_in_lem r es (suc (suc (suc zero))) h = refl
numbers_in_lem r es (suc (suc (suc (suc j)))) h = absurd (omega arith)

module _ (ws : List ℕ) (l : length ws ≡ 1236) (c : ℕ) (h : c < 8) where
  -- whether it is below the count
  abbrev counted : Bool
  counted = ltb c (get_or ws 6 0)

  channel_at_lem : (j : ℕ) → j < 17 → get_or (channel_places (ltb c (whole ws).standing.channels) (channel_at (whole ws) c)) j nowhere
      ≡ shown_if counted (get_or (numbers_in (channel_at (whole ws) c) ++ in_places (channel_at (whole ws) c).held) j nowhere)
  channel_at_lem j b =
      ap (λ (s : Standing). get_or (channel_places (ltb c s.channels) (channel_at (whole ws) c)) j nowhere) (standing_is ws)
      ∙ there_at counted 17 j (numbers_in (channel_at (whole ws) c) ++ in_places (channel_at (whole ws) c).held) b

  pub channel_length : (b : Bool) → length (channel_places b (channel_at (whole ws) c)) ≡ 17
  channel_length b =
      let e : length (in_places (channel_at (whole ws) c).held) ≡ 13 = ap (λ (i : InList). length (in_places i)) (held_is ws c h l) ∙ places_length ws (194 + c * 17 + 4) 12 (omega arith) in
      first-length (there b 17) (numbers_in (channel_at (whole ws) c) ++ in_places (channel_at (whole ws) c).held) ∙ omega (arith, e)

  pub channel_number_place : (j : ℕ) → j < 4
      → shown_if counted (plain 16 (get_or ws (194 + c * 17 + j) 0 % 65536)) ≡ get_or (channel_places (ltb c (whole ws).standing.channels) (channel_at (whole ws) c)) j nowhere
  channel_number_place j b =
      let r = section (194 + c * 17) 17 ws in
      ap (λ (x : ℕ). shown_if counted (plain 16 (low x))) (sym (channel_number ws l c h j (omega arith)))
      ∙ ap (shown_if counted) (sym (numbers_in_lem r (in_places (channel_from r).held) j b))
      ∙ ap (λ (d : Channel). shown_if counted (get_or (numbers_in d ++ in_places d.held) j nowhere)) (sym (channel_is ws l c h))
      ∙ sym (channel_at_lem j (omega arith))

  pub channel_list_place : (j : ℕ) → 4 ≤ j → j < 17
      → shown_if counted (get_or (list_at (194 + c * 17 + 4) 12 ws) (j - 4) nowhere) ≡ get_or (channel_places (ltb c (whole ws).standing.channels) (channel_at (whole ws) c)) j nowhere
  channel_list_place j a b =
      ap (λ (i : InList). shown_if counted (get_or (in_places i) (j - 4) nowhere)) (sym (held_is ws c h l))
      ∙ ap (shown_if counted) (sym (past_seam (numbers_in (channel_at (whole ws) c)) (in_places (channel_at (whole ws) c).held) nowhere 4 refl j a))
      ∙ sym (channel_at_lem j b)

-- ---- an incoming slot
in_slot_row_lem : (r : List ℕ) → in_slot_row (in_slot_from r) ≡ cuts in_slot_bits (numbers 6 0 r)
unfolding in_slot_from numbers cuts
in_slot_row_lem r = refl

pub in_slot_place : (ws : List ℕ) (is_used : Bool) (s j b : ℕ) → s < 12 → j < 6 → get_or in_slot_bits j 0 ≡ b
    → shown_if is_used (cut_place b (get_or ws (1162 + s * 6 + j) 0)) ≡ get_or (in_slot_places is_used (get_or (whole ws).incoming s no_incoming)) j nowhere
in_slot_place ws is_used s j b h l e =
    let pool = section 1162 72 ws in
    let r = row_in 6 pool s in
    let p : 1162 + (s * 6 + j) ≡ 1162 + s * 6 + j = omega arith in
    let n : get_or r (0 + j) 0 ≡ get_or ws (1162 + s * 6 + j) 0 = ap (λ (k : ℕ). get_or r k 0) (zero-add j) ∙ row_at_lem 6 pool s j l ∙ section_number 1162 72 (s * 6 + j) ws (omega arith) ∙ ap (λ (k : ℕ). get_or ws k 0) p in
    let slot : get_or (whole ws).incoming s no_incoming ≡ in_slot_from r =
    ap (λ (is : List Incoming). get_or is s no_incoming) (in_pool_is ws) ∙ rows_at in_slot_from 6 12 pool s no_incoming h
    in
    ap (λ (x : ℕ). shown_if is_used (cut_place b x)) (sym n)
    ∙ ap (shown_if is_used) (sym (cut_number in_slot_bits 6 0 r j b refl l e))
    ∙ ap (λ (xs : List ℕ). shown_if is_used (get_or (numbered in_slot_bits xs) j nowhere)) (sym (in_slot_row_lem r))
    ∙ sym (there_at is_used 6 j (numbered in_slot_bits (in_slot_row (in_slot_from r))) l)
    ∙ ap (λ (i : Incoming). get_or (in_slot_places is_used i) j nowhere) (sym slot)

pub in_slot_length : (b : Bool) (i : Incoming) → length (in_slot_places b i) ≡ 6
in_slot_length b i = first-length (there b 6) (numbered in_slot_bits (in_slot_row i)) ∙ numbered-length in_slot_bits (in_slot_row i) refl

pub in_slot_narrow : (j : ℕ) → j < 2 → get_or in_slot_bits j 0 ≡ 8
in_slot_narrow zero h = refl
in_slot_narrow (suc zero) h = refl
in_slot_narrow (suc (suc j)) h = absurd (omega arith)

pub in_slot_wide : (j : ℕ) → 3 ≤ j → j < 6 → get_or in_slot_bits j 0 ≡ 32
in_slot_wide j l h = past_seam (8 ∷ 8 ∷ 16 ∷ []) (replicate 3 32) 0 3 refl j l ∙ get_or-replicate 3 (j - 3) 32 0 (omega arith)
