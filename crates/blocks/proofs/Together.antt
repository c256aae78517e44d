-- The parts of a packet come together: once each byte of it was in a write, the store begins with the packet, in whatever order and however often its parts
-- were written; past the packet the store is as it was, and its length stays.
-- The argument: a part's write puts the packet's byte at each place that it reaches and leaves the others. So a byte becomes the packet's at the first write
-- that reaches it and stays so; and two lists that agree at each index are the same.
use Rattle.std.proofs.Common.{◌≡◌, ℕ, ◌+◌, ◌-◌, ◌<◌, ◌≤◌, Bool, true, false, ltb, ◌⊎◌, List, [], ◌∷◌, length, get_or, take, drop, sym, refl, ap, ◌∙◌, inl, inr, le_refl, add-sub_of_le, arith, length-take-le, get_or-drop, get_or-take, drop-drop, ext_get_or, ltb-false, ltb-true}
use lib.Seq.{length-paste, drop-paste}
use Rattle.cells.proofs.Pasting.{pasted_before, pasted_after, pasted_at}
use Rattle.blocks.specs.Writing.{Write, written, all_written, PartOf, AllParts, Reaches, Reached}

-- a write that fits into the store
module _ (store : List ℕ) (w : Write) (fits : w.place + length w.bytes ≤ length store) where
  one_length : length (written store w) ≡ length store
  one_length = length-paste store w.place w.bytes (length w.bytes) fits (le_refl (length w.bytes))

  -- from its end on nothing changes
  one_past : drop (w.place + length w.bytes) (written store w) ≡ drop (w.place + length w.bytes) store
  one_past = drop-paste store w.place w.bytes (length w.bytes) (omega arith) (le_refl (length w.bytes))

  one_beyond : (n : ℕ) → w.place + length w.bytes ≤ n → drop n (written store w) ≡ drop n store
  one_beyond n h =
      let end = w.place + length w.bytes in
      let e : end + (n - end) ≡ n = add-sub_of_le h in
      rw e at (sym (drop-drop (n - end) end (written store w)) ∙ ap (drop (n - end)) one_past ∙ drop-drop (n - end) end store)

  one_before : (j : ℕ) → j < w.place → get_or (written store w) j 0 ≡ get_or store j 0
  one_before = pasted_before store w.place w.bytes (length w.bytes) fits (le_refl (length w.bytes))

  one_after : (j : ℕ) → w.place + length w.bytes ≤ j → get_or (written store w) j 0 ≡ get_or store j 0
  one_after = pasted_after store w.place w.bytes (length w.bytes) fits (le_refl (length w.bytes))

  one_bytes : (k : ℕ) → k < length w.bytes → get_or (written store w) (w.place + k) 0 ≡ get_or w.bytes k 0
  one_bytes = pasted_at store w.place w.bytes (length w.bytes) fits (le_refl (length w.bytes))

module _ (packet : List ℕ) where
  -- a part's byte is the packet's
  part_byte : (w : Write) → PartOf packet w → (k : ℕ) → k < length w.bytes → get_or w.bytes k 0 ≡ get_or packet (w.place + k) 0
  part_byte w p k h =
      ap (λ (l : List ℕ). get_or l k 0) p.same
      ∙ get_or-take (length w.bytes) (drop w.place packet) k 0 h
      ∙ get_or-drop w.place packet k 0

  -- one write of a part: what it reaches is the packet's, and what was the packet's stays so
  module _ (store : List ℕ) (w : Write) (p : PartOf packet w) (room : length packet ≤ length store) (j : ℕ) where
    reached : Reaches j w → get_or (written store w) j 0 ≡ get_or packet j 0
    reached r =
        let e : w.place + (j - w.place) ≡ j = add-sub_of_le r.from in
        let h : j - w.place < length w.bytes = omega arith in
        rw e at (one_bytes store w (omega arith) (j - w.place) h ∙ part_byte w p (j - w.place) h)

    kept : get_or store j 0 ≡ get_or packet j 0 → get_or (written store w) j 0 ≡ get_or packet j 0
    kept e = go (ltb j w.place) (ltb j (w.place + length w.bytes)) refl refl
      where
        go : (a b : Bool) → ltb j w.place ≡ a → ltb j (w.place + length w.bytes) ≡ b → get_or (written store w) j 0 ≡ get_or packet j 0
        go true b t u = one_before store w (omega arith) j (ltb-true j w.place t) ∙ e
        go false true t u = reached (record { from = ltb-false j w.place t; below = ltb-true j (w.place + length w.bytes) u })
        go false false t u = one_after store w (omega arith) j (ltb-false j (w.place + length w.bytes) u) ∙ e

  pub written_length : (store : List ℕ) (ws : List Write) → AllParts packet ws → length packet ≤ length store → length (all_written store ws) ≡ length store
  unfolding all_written
  written_length store [] parts room = refl
  written_length store (w ∷ ws) parts room =
      let one = one_length store w (omega arith) in
      written_length (written store w) ws parts.1 (omega arith) ∙ one

  pub beyond : (store : List ℕ) (ws : List Write) → AllParts packet ws → length packet ≤ length store
      → drop (length packet) (all_written store ws) ≡ drop (length packet) store
  unfolding all_written
  beyond store [] parts room = refl
  beyond store (w ∷ ws) parts room =
      let one = one_length store w (omega arith) in
      beyond (written store w) ws parts.1 (omega arith) ∙ one_beyond store w (omega arith) (length packet) parts.0.inside

  -- a byte that is the packet's already, or that one of the writes reaches
  byte : (j : ℕ) (store : List ℕ) (ws : List Write) → AllParts packet ws → length packet ≤ length store
      → (get_or store j 0 ≡ get_or packet j 0) ⊎ Reached j ws
      → get_or (all_written store ws) j 0 ≡ get_or packet j 0
  unfolding all_written
  byte j store [] parts room (inl e) = e
  byte j store [] parts room (inr none) = absurd none
  byte j store (w ∷ ws) parts room known =
      let one = one_length store w (omega arith) in
      byte j (written store w) ws parts.1 (omega arith) (next known)
    where
      next : (get_or store j 0 ≡ get_or packet j 0) ⊎ Reached j (w ∷ ws) → (get_or (written store w) j 0 ≡ get_or packet j 0) ⊎ Reached j ws
      next (inl e) = inl (kept store w parts.0 room j e)
      next (inr (inl r)) = inl (reached store w parts.0 room j r)
      next (inr (inr r)) = inr r

  pub together : (store : List ℕ) (ws : List Write) → AllParts packet ws → ((j : ℕ) → j < length packet → Reached j ws) → length packet ≤ length store
      → take (length packet) (all_written store ws) ≡ packet
  together store ws parts all room = ext_get_or 0 (take (length packet) after) packet size same
    where
      after : List ℕ
      after = all_written store ws

      size : length (take (length packet) after) ≡ length packet
      size = length-take-le (length packet) after (omega (arith, written_length store ws parts room))

      same : (j : ℕ) → j < length (take (length packet) after) → get_or (take (length packet) after) j 0 ≡ get_or packet j 0
      same j h =
          let k : j < length packet = omega (arith, size) in
          get_or-take (length packet) after j 0 k ∙ byte j store ws parts room (inr (all j k))
