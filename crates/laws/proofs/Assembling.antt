-- The pieces of a cut packet make the packet again, in whatever order they come and however often, over whatever the store held.
-- The argument: a piece begins where those before it end, and all together are the packet. So each carries a part of it, and each byte is in one of them;
-- the rest is blocks' Together.
use Prim.Native.Nat.{ℕ, zero, suc, ◌+◌, ◌-◌, ◌≤◌, ◌<◌}
use mathlib.Core.Path.{◌≡◌, refl}
use mathlib.Core.Bool.{Bool, true, false, false≢true}
use mathlib.Core.List.{List, [], ◌∷◌, map}
use mathlib.Core.Logic.{◌⊎◌, inl, inr}
use native.Mathlib.Omega.{arith}
use lib.Dec.{eqb, ltb}
use lib.ListN.{length, get_or, take, drop, length-drop}
use lib.Seq.{length-take-le}
use borrow.Author.Tests.{ltb-true, ltb-false, eqb-true, eq-eqb}
use Rattle.numbers.specs.Pick.{pick}
use Rattle.cells.specs.Runs.{has}
use Rattle.peer.specs.declared.Peer.{Peer}
use Rattle.outbox.specs.declared.pieces.Piece.{Piece}
use Rattle.packets.specs.Packets.{cut_piece, pieces, span}
use Rattle.packets.specs.declared.Cut.{Cut}
use Rattle.packets.proofs.Cuts.{count-pieces, span-pieces, piece_part}
use Rattle.blocks.specs.Writing.{Write, all_written, PartOf, AllParts, Reaches, Reached}
use Rattle.blocks.proofs.Together.{together}
use Rattle.laws.specs.Done.{Cutting}
use Rattle.laws.specs.Assembling.{CutOf, piece_at, piece_write, Comes}

-- the writes of some numbers: all are parts where each number's is, and a byte is reached where one number's write reaches it
module _ (f : ℕ → Write) where
  parts_of : (packet : List ℕ) (order : List ℕ) → ((i : ℕ) → has order i ≡ true → PartOf packet (f i)) → AllParts packet (map f order)
  parts_of packet [] all = tt
  parts_of packet (k ∷ order) all = (all k (rw (eq-eqb k k refl)), parts_of packet order (λ i h. all i (later (eqb k i) h)))
    where
      later : {b : Bool} (a : Bool) → b ≡ true → pick a true b ≡ true
      later true h = refl
      later false h = h

  reached_of : (j i : ℕ) (order : List ℕ) → has order i ≡ true → Reaches j (f i) → Reached j (map f order)
  reached_of j i [] h r = absurd (false≢true h)
  reached_of j i (k ∷ order) h r = go (reached_of j i order) (eqb k i) refl h
    where
      go : (has order i ≡ true → Reaches j (f i) → Reached j (map f order)) → (b : Bool) → eqb k i ≡ b → pick b true (has order i) ≡ true
          → Reaches j (f k) ⊎ Reached j (map f order)
      go rest true t m = inl (rw (eqb-true k i t) r)
      go rest false t m = inr (rest m r)

-- pieces one after the other: none goes past the end, and each byte is in one
module _ (d : Piece) where
  ends : (ys : List Piece) (i : ℕ) → i < length ys → span (take i ys) + (get_or ys i d).length ≤ span ys
  unfolding span
  ends [] i h = absurd (omega arith)
  ends (y ∷ ys) zero h = omega arith
  ends (y ∷ ys) (suc i) h = omega (arith, ends ys i (omega arith))

  record Inside (ys : List Piece) (j : ℕ) : Type 0 where
    number : ℕ
    is : number < length ys
    from : span (take number ys) ≤ j
    below : j < span (take number ys) + (get_or ys number d).length

  inside : (ys : List Piece) (j : ℕ) → j < span ys → Inside ys j
  unfolding span
  inside [] j h = absurd (omega arith)
  inside (y ∷ ys) j h = go (inside ys (j - y.length)) (ltb j y.length) refl
    where
      go : (j - y.length < span ys → Inside ys (j - y.length)) → (b : Bool) → ltb j y.length ≡ b → Inside (y ∷ ys) j
      go rest true t = record { number = 0; is = omega arith; from = omega arith; below = omega (arith, ltb-true j y.length t) }
      go rest false t =
          let past : y.length ≤ j = ltb-false j y.length t in
          let r = rest (omega arith) in
          record { number = suc r.number; is = omega arith; from = omega arith; below = omega arith }

-- a cut packet whose pieces carry all of it
module _ (packet : List ℕ) (x : Cut) (whole : length packet ≡ x.length) (all : span (pieces x) ≡ x.length) where
  abbrev none : Piece
  none = cut_piece x x.count x.length

  -- piece i ends within the packet, so that it carries as many bytes as it tells
  within : (i : ℕ) → i < x.count → (piece_at x i).offset + (piece_at x i).length ≤ length packet
  within i h = omega (arith, (piece_part x i none h).offset, ends none (pieces x) i (omega (arith, count-pieces x)))

  carried : (i : ℕ) → i < x.count → length (piece_write x packet i).bytes ≡ (piece_at x i).length
  carried i h =
      length-take-le (piece_at x i).length (drop (piece_at x i).offset packet)
      (omega (arith, length-drop (piece_at x i).offset packet, within i h))

  piece_of : (i : ℕ) → i < x.count → PartOf packet (piece_write x packet i)
  piece_of i h = record { inside = omega (arith, carried i h, within i h); same = rw (carried i h) }

  pub pieces_parts : (order : List ℕ) → Comes x.count order → AllParts packet (map (piece_write x packet) order)
  pieces_parts order comes = parts_of (piece_write x packet) packet order (λ i h. piece_of i (comes.below i h))

  pieces_reach : (order : List ℕ) → Comes x.count order → (j : ℕ) → j < length packet → Reached j (map (piece_write x packet) order)
  pieces_reach order comes j h =
      let r = inside none (pieces x) j (omega (arith, all)) in
      let is : r.number < x.count = omega (arith, count-pieces x) in
      let at = (piece_part x r.number none is).offset in
      reached_of (piece_write x packet) j r.number order (comes.each r.number is)
      (record { from = omega arith; below = omega (arith, carried r.number is) })

  spanned : (order : List ℕ) → Comes x.count order → (store : List ℕ) → length packet ≤ length store
      → take (length packet) (all_written store (map (piece_write x packet) order)) ≡ packet
  spanned order comes store room =
      together packet store (map (piece_write x packet) order) (pieces_parts order comes) (pieces_reach order comes) room

-- a packet of no bytes has nothing to bring together
pub assembled : (packet : List ℕ) (x : Cut) → CutOf packet x → (order : List ℕ) → Comes x.count order → (store : List ℕ)
    → length packet ≤ length store
    → take (length packet) (all_written store (map (piece_write x packet) order)) ≡ packet
assembled [] x cut order comes store room = refl
assembled (b ∷ bytes) x cut order comes store room =
    spanned (b ∷ bytes) x cut.whole (span-pieces x (omega arith) cut.wide cut.counted) order comes store room

-- and the pieces of a done send
pub sent_assembled : (packet : List ℕ) (x : Cut) (p : Peer) → length packet ≡ x.length → Cutting x p → (order : List ℕ) → Comes x.count order
    → (store : List ℕ) → length packet ≤ length store
    → take (length packet) (all_written store (map (piece_write x packet) order)) ≡ packet
sent_assembled packet x p whole cutting order comes store room = spanned packet x whole cutting.together order comes store room
