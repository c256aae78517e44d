-- The channels of the record: a channel by its own numbers, and the record after some of them were written.
-- The argument: a write inside a channel is a row pasted inside the channels' part; then a channel is four numbers and the rest.
use Prim.Native.Nat.{ℕ, suc, ◌+◌, ◌*◌, ◌%◌, ◌≤◌, ◌<◌}
use mathlib.Core.Path.{◌≡◌, refl, ap, sym, ◌∙◌}
use mathlib.Core.List.{List, [], ◌∷◌}
use native.Mathlib.Omega.{arith}
use lib.ListN.{length, get_or, set, drop, length-drop}
use lib.Seq.{paste, sets-eq, take_all, length-paste}
use Rattle.numbers.specs.declared.counters.Reliable.{Reliable}
use Rattle.numbers.specs.declared.counters.Unreliable.{Unreliable}
use Rattle.lists.specs.Rows.{section}
use Rattle.record.specs.Fresh.{no_channel}
use Rattle.record.specs.Updates.{with_numbers, with_last, with_held}
use Rattle.record.specs.declared.groups.Channel.{Channel}
use Rattle.peer.specs.Updates.{with_channels}
use Rattle.pool.proofs.Copies.{paste_over}
use Rattle.pool.proofs.Rows.{rows_at, rows_paste}
use Rattle.places.specs.Whole.{sizes, numbers, parts, made, whole, in_list_from, channel_from, channels_from}
use Rattle.places.specs.Updates.{channel_at, numbers_of}
use Rattle.places.proofs.Sections.{section-length, section_number, section-section, paste_in}
use Rattle.places.proofs.GroupLaws.{low}
use Rattle.places.proofs.Written.{place, row_put}

-- ---- a channel's row
-- four numbers and the rest
four : (r : List ℕ) → 4 ≤ length r → r ≡ get_or r 0 0 ∷ get_or r 1 0 ∷ get_or r 2 0 ∷ get_or r 3 0 ∷ drop 4 r
four (a ∷ b ∷ c ∷ d ∷ r) h = refl
four (a ∷ b ∷ c ∷ []) h = absurd (omega (arith, h))
four (a ∷ b ∷ []) h = absurd (omega (arith, h))
four (a ∷ []) h = absurd (omega (arith, h))
four [] h = absurd (omega (arith, h))

row_held : (r row : List ℕ) → length r ≡ 17 → length row ≡ 13 → channel_from (paste r 4 row 13) ≡ with_held (channel_from r) (in_list_from row)
unfolding channel_from
row_held r row l m =
    let rest : length (drop 4 r) ≡ 13 = length-drop 4 r ∙ omega arith in
    ap (λ (s : List ℕ). channel_from (paste s 4 row 13)) (four r (omega arith))
    ∙ ap (λ (s : List ℕ). with_held (channel_from r) (in_list_from s)) (paste_over (drop 4 r) row 13 rest ∙ take_all 13 row (omega arith))

module _ (s : List ℕ) (r : Reliable) (u : Unreliable) (m : length s ≡ 17) (hr : r.0 < 65536) (hu : u.0 < 65536) where
  abbrev two : List ℕ
  two = r.0 ∷ u.0 ∷ []

  row_outgoing : channel_from (paste s 0 two 2) ≡ with_numbers (channel_from s) r u
  unfolding channel_from
  row_outgoing = ap (λ (t : List ℕ). channel_from (paste t 0 two 2)) (four s (omega arith)) ∙ rw (low r.0 r.0 refl hr, low u.0 u.0 refl hu)

  row_incoming : channel_from (paste s 2 two 2) ≡ with_last (channel_from s) r u
  unfolding channel_from
  row_incoming = ap (λ (t : List ℕ). channel_from (paste t 2 two 2)) (four s (omega arith)) ∙ rw (low r.0 r.0 refl hr, low u.0 u.0 refl hu)

-- ---- the channels' part
pub channels_is : (ws : List ℕ) → (whole ws).channels ≡ channels_from (section 194 136 ws)
unfolding made parts numbers sizes
channels_is ws = refl

module _ (ws : List ℕ) (l : length ws ≡ 1236) where
  pub put_channels : (row : List ℕ) → length row ≡ 136 → whole (paste ws 194 row 136) ≡ with_channels (whole ws) (channels_from row)
  unfolding made parts numbers sizes place
  put_channels row m = row_put ws 8 194 136 row l (omega arith) refl refl (omega arith) m

  module _ (i : ℕ) (h : i < 8) where
    abbrev own : List ℕ
    own = section (194 + i * 17) 17 ws

    own-length : length own ≡ 17
    own-length = section-length (194 + i * 17) 17 ws (omega arith)

    -- its row among the channels' numbers
    own_row_lem : section (i * 17) 17 (section 194 136 ws) ≡ own
    own_row_lem = section-section 194 136 (i * 17) 17 ws (omega arith)

    pub channel_is : channel_at (whole ws) i ≡ channel_from own
    channel_is =
        ap (λ (cs : List Channel). get_or cs i no_channel) (channels_is ws)
        ∙ rows_at channel_from 17 8 (section 194 136 ws) i no_channel h
        ∙ ap channel_from own_row_lem

    pub channel_number : (k : ℕ) → k < 17 → get_or own k 0 ≡ get_or ws (194 + i * 17 + k) 0
    channel_number k b = section_number (194 + i * 17) 17 k ws b

    -- m of its numbers written, from number k on
    pub put_channel_part : (k m : ℕ) (row : List ℕ) → k + m ≤ 17 → length row ≡ m
        → whole (paste ws (194 + i * 17 + k) row m) ≡ with_channels (whole ws) (set (whole ws).channels i (channel_from (paste own k row m)))
    put_channel_part k m row b r =
        let s = section 194 136 ws in
        let e : 194 + i * 17 + k ≡ 194 + (i * 17 + k) = omega arith in
        let ls : length s ≡ 136 = section-length 194 136 ws (omega arith) in
        let lp : length (paste s (i * 17 + k) row m) ≡ 136 = length-paste s (i * 17 + k) row m (omega arith) (omega arith) ∙ ls in
        ap (λ (n : ℕ). whole (paste ws n row m)) e
        ∙ ap whole (paste_in ws row 194 136 (i * 17 + k) m (omega arith) (omega arith) r)
        ∙ put_channels (paste s (i * 17 + k) row m) lp
        ∙ ap (with_channels (whole ws)) (rows_paste channel_from 17 8 s i k m row h b ls r ∙ ap (λ (v : List ℕ). set (channels_from s) i (channel_from (paste v k row m))) own_row_lem)
        ∙ ap (λ (cs : List Channel). with_channels (whole ws) (set cs i (channel_from (paste own k row m)))) (sym (channels_is ws))

-- ---- its list
pub held_is : (ws : List ℕ) (i : ℕ) → i < 8 → length ws ≡ 1236 → (channel_at (whole ws) i).held ≡ in_list_from (section (194 + i * 17 + 4) 13 ws)
unfolding channel_from
held_is ws i h l =
    let rest : length (drop 4 (own ws l i h)) ≤ 13 = rw (length-drop) (omega (arith, own-length ws l i h)) in
    ap (λ (c : Channel). c.held) (channel_is ws l i h)
    ∙ ap in_list_from (sym (take_all 13 (drop 4 (own ws l i h)) rest) ∙ section-section (194 + i * 17) 17 4 13 ws (omega arith))

pub put_held_lem : (ws : List ℕ) (i : ℕ) (row : List ℕ) → i < 8 → length row ≡ 13 → length ws ≡ 1236
    → whole (paste ws (194 + i * 17 + 4) row 13) ≡ with_channels (whole ws) (set (whole ws).channels i (with_held (channel_at (whole ws) i) (in_list_from row)))
put_held_lem ws i row h m l =
    put_channel_part ws l i h 4 13 row (omega arith) m
    ∙ ap (λ (c : Channel). with_channels (whole ws) (set (whole ws).channels i c)) (row_held (own ws l i h) row (own-length ws l i h) m ∙ ap (λ (c : Channel). with_held c (in_list_from row)) (sym (channel_is ws l i h)))

-- ---- its numbers
pub numbers_is : (ws : List ℕ) (i a b c d : ℕ) → i < 8 → length ws ≡ 1236
    → a ≡ get_or ws (194 + i * 17) 0 % 65536 → b ≡ get_or ws (194 + i * 17 + 1) 0 % 65536 → c ≡ get_or ws (194 + i * 17 + 2) 0 % 65536 → d ≡ get_or ws (194 + i * 17 + 3) 0 % 65536
    → numbers_of (channel_at (whole ws) i)
    ≡ record { outgoing_reliable = record { 0 = a }; outgoing_unreliable = record { 0 = b }; incoming_reliable = record { 0 = c }; incoming_unreliable = record { 0 = d } }
unfolding channel_from
numbers_is ws i a b c d h l ea eb ec ed =
    let e : 194 + i * 17 + 0 ≡ 194 + i * 17 = omega arith in
    let n0 : get_or (own ws l i h) 0 0 ≡ get_or ws (194 + i * 17) 0 = channel_number ws l i h 0 (omega arith) ∙ ap (λ (k : ℕ). get_or ws k 0) e in
    ap numbers_of (channel_is ws l i h)
    ∙ rw (ea, eb, ec, ed, n0, channel_number ws l i h 1 (omega arith), channel_number ws l i h 2 (omega arith), channel_number ws l i h 3 (omega arith))

module _ (ws : List ℕ) (i : ℕ) (r : Reliable) (u : Unreliable) (h : i < 8) (l : length ws ≡ 1236) (hr : r.0 < 65536) (hu : u.0 < 65536) where
  -- two numbers, one by one: the channel that comes of it is `to` of what it was
  pair : (to : Channel → Channel) (at k : ℕ) → at ≡ 194 + i * 17 + k → k + 2 ≤ 17 → channel_from (paste (own ws l i h) k (r.0 ∷ u.0 ∷ []) 2) ≡ to (channel_from (own ws l i h))
      → whole (set (set ws at r.0) (at + 1) u.0) ≡ with_channels (whole ws) (set (whole ws).channels i (to (channel_at (whole ws) i)))
  pair to at k e b is =
      let s : at + 1 ≡ suc at = omega arith in
      ap (λ (n : ℕ). whole (set (set ws at r.0) n u.0)) s
      ∙ ap whole (sets-eq (r.0 ∷ u.0 ∷ []) ws at (omega arith))
      ∙ ap (λ (n : ℕ). whole (paste ws n (r.0 ∷ u.0 ∷ []) 2)) e
      ∙ put_channel_part ws l i h k 2 (r.0 ∷ u.0 ∷ []) b refl
      ∙ ap (λ (c : Channel). with_channels (whole ws) (set (whole ws).channels i c)) (is ∙ ap to (sym (channel_is ws l i h)))

  pub put_outgoing_numbers : whole (set (set ws (194 + i * 17) r.0) (194 + i * 17 + 1) u.0) ≡ with_channels (whole ws) (set (whole ws).channels i (with_numbers (channel_at (whole ws) i) r u))
  put_outgoing_numbers = pair (λ (c : Channel). with_numbers c r u) (194 + i * 17) 0 (omega arith) (omega arith) (row_outgoing (own ws l i h) r u (own-length ws l i h) hr hu)

  pub put_incoming_numbers : whole (set (set ws (194 + i * 17 + 2) r.0) (194 + i * 17 + 2 + 1) u.0) ≡ with_channels (whole ws) (set (whole ws).channels i (with_last (channel_at (whole ws) i) r u))
  put_incoming_numbers = pair (λ (c : Channel). with_last c r u) (194 + i * 17 + 2) 2 refl (omega arith) (row_incoming (own ws l i h) r u (own-length ws l i h) hr hu)
