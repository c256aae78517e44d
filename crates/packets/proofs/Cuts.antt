-- A cut packet's pieces: as many as the count, together the packet, each where the one before ends, all but the last of the fragment length.
-- The argument: the first i pieces carry the smaller of i fragment lengths and the packet, by induction; the count is the packet's length
-- over the fragment length, rounded up.
use Prim.Native.Nat.{ℕ, zero, suc, ◌+◌, ◌-◌, ◌*◌, ◌≤◌, ◌<◌, min}
use mathlib.Core.Path.{◌≡◌, refl, ap}
use mathlib.Core.List.{List, ◌∷◌}
use native.Mathlib.Nat.{div-lt_iff_lt-mul, le-mul_of_pos_right, div-mul-le_self, lt-div-mul-add, suc-mul, mul-le-mul_right, zero-mul, sub-zero}
use native.Mathlib.Numerals.{add-one}
use native.Mathlib.Omega.{arith}
use lib.ListN.{length, get_or, take}
use Rattle.outbox.specs.declared.pieces.Piece.{Piece}
use Rattle.packets.specs.Packets.{piece_count, length_at, cut_piece, cut_from, pieces}
use Rattle.packets.specs.Packets.{span, Part}
use Rattle.packets.specs.declared.Cut.{Cut}

pub count_fits : (fragment length : ℕ) → 1 ≤ fragment → piece_count fragment length ≤ length
count_fits f n h =
    let wide : n ≤ n * f = le-mul_of_pos_right n (omega arith) in
    let under : piece_count f n < n + 1 = (div-lt_iff_lt-mul {k = f} {x = n + f - 1} {y = n + 1} (omega arith)).1 (omega arith) in
    omega arith

pub cut_length : (x : Cut) (left j offset : ℕ) → length (cut_from x left j offset) ≡ left
unfolding cut_from
cut_length x zero j offset = refl
cut_length x (suc left) j offset = ap suc (cut_length x left (j + 1) (offset + length_at x offset))

pub count-pieces : (x : Cut) → length (pieces x) ≡ x.count
count-pieces x = cut_length x x.count 0 0

take_cut : (x : Cut) (i left j offset : ℕ) → i ≤ left → take i (cut_from x left j offset) ≡ cut_from x i j offset
unfolding cut_from
take_cut x zero left j offset h = refl
take_cut x (suc i) zero j offset h = absurd (omega arith)
take_cut x (suc i) (suc left) j offset h =
    ap (λ (r : List Piece). cut_piece x j offset ∷ r) (take_cut x i left (j + 1) (offset + length_at x offset) (omega arith))

span_cut : (x : Cut) (left j offset : ℕ) → span (cut_from x left j offset) ≡ min (left * x.fragment) (x.length - offset)
unfolding cut_from span
span_cut x zero j offset = omega (arith, zero-mul x.fragment)
span_cut x (suc left) j offset =
    omega (arith, suc-mul left x.fragment, span_cut x left (j + 1) (offset + length_at x offset))

piece_at_lem : (x : Cut) (i left j offset : ℕ) (d : Piece) → i < left
    → get_or (cut_from x left j offset) i d ≡ cut_piece x (j + i) (offset + span (cut_from x i j offset))
unfolding cut_from span
piece_at_lem x i zero j offset d h = absurd (omega arith)
piece_at_lem x zero (suc left) j offset d h =
    let a : j ≡ j + 0 = omega arith in
    let b : offset ≡ offset + 0 = omega arith in
    rw (← a, ← b)
piece_at_lem x (suc i) (suc left) j offset d h =
    let l = length_at x offset in
    let a : j + 1 + i ≡ j + suc i = omega arith in
    let b : offset + l + span (cut_from x i (j + 1) (offset + l)) ≡ offset + (l + span (cut_from x i (j + 1) (offset + l))) = omega arith in
    rw (← a, ← b) (piece_at_lem x i left (j + 1) (offset + l) d (omega arith))

-- piece i, with the fields of its command
module _ (x : Cut) (i : ℕ) (d : Piece) (h : i < x.count) where
  piece_is : get_or (pieces x) i d ≡ cut_piece x i (span (take i (pieces x)))
  piece_is =
      let a : 0 + i ≡ i = omega arith in
      let b : 0 + span (cut_from x i 0 0) ≡ span (cut_from x i 0 0) = omega arith in
      rw (take_cut x i x.count 0 0 (omega arith)) (rw (a, b) at (piece_at_lem x i x.count 0 0 d h))

  pub piece_part : Part x i (get_or (pieces x) i d)
  piece_part = rw piece_is (record { packet = refl; offset = refl; command = refl })

  piece_length : (get_or (pieces x) i d).length ≡ min x.fragment (x.length - min (i * x.fragment) x.length)
  piece_length =
      rw (piece_is, take_cut x i x.count 0 0 (omega arith), span_cut x i 0 0, sub-zero x.length)

-- a packet of at least a byte, its count by the fragment length
module _ (x : Cut) (some : 1 ≤ x.length) (wide : 1 ≤ x.fragment) (counted : x.count ≡ piece_count x.fragment x.length) where
  above : x.length ≤ x.count * x.fragment
  above = rw counted (omega (arith, lt-div-mul-add {a = x.length + x.fragment - 1} wide))

  below : x.count * x.fragment < x.length + x.fragment
  below = rw counted (omega (arith, div-mul-le_self (x.length + x.fragment - 1) x.fragment))

  -- the pieces' lengths are the packet's
  pub span-pieces : span (pieces x) ≡ x.length
  span-pieces = omega (arith, span_cut x x.count 0 0, above)

  module _ (i : ℕ) (d : Piece) where
    -- all but the last are a fragment length
    pub full_piece : i + 1 < x.count → (get_or (pieces x) i d).length ≡ x.fragment
    full_piece h =
        omega (arith, piece_length x i d (omega arith), mul-le-mul_right x.fragment h, twice, below)
      where
        twice : suc (i + 1) * x.fragment ≡ i * x.fragment + x.fragment + x.fragment
        twice = rw (suc-mul (i + 1) x.fragment, add-one i, suc-mul i x.fragment)

    -- the last is what is left, at least a byte and no more than a fragment length
    pub last_piece : i + 1 ≡ x.count → (1 ≤ (get_or (pieces x) i d).length) × ((get_or (pieces x) i d).length ≤ x.fragment)
    last_piece h = (omega (arith, are, once, above, below), omega (arith, are))
      where
        are : (get_or (pieces x) i d).length ≡ min x.fragment (x.length - min (i * x.fragment) x.length)
        are = piece_length x i d (omega arith)

        once : x.count * x.fragment ≡ i * x.fragment + x.fragment
        once = rw (← h, add-one i) (suc-mul i x.fragment)
