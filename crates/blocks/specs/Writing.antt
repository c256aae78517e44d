-- C-11, the bytes of a block: the stored pieces' writes over zeros, in the order in which they were stored. And when such writes are the parts of one packet.
use Rattle.std.specs.Prelude.{◌≡◌, ℕ, ◌+◌, ◌<◌, ◌≤◌, ◌⊎◌, List, [], ◌∷◌, length, take, drop}
use Rattle.std.proofs.Math.Seq.{paste}

-- a piece's bytes, and where in the block they begin
pub record Write : Type 0 where
  pub place : ℕ
  pub bytes : List ℕ

abbrev pub written : List ℕ → Write → List ℕ
written store w = paste store w.place w.bytes (length w.bytes)

unfoldable pub all_written : List ℕ → List Write → List ℕ
all_written store [] = store
all_written store (w ∷ ws) = all_written (written store w) ws

-- the write is a part of these bytes
pub record PartOf (packet : List ℕ) (w : Write) : Type 0 where
  pub inside : w.place + length w.bytes ≤ length packet
  pub same : w.bytes ≡ take (length w.bytes) (drop w.place packet)

abbrev pub AllParts : List ℕ → List Write → Type 0
AllParts packet [] = Unit {0}
AllParts packet (w ∷ ws) = PartOf packet w × AllParts packet ws

-- byte j is in the write
pub record Reaches (j : ℕ) (w : Write) : Type 0 where
  pub from : w.place ≤ j
  pub below : j < w.place + length w.bytes

-- byte j is in one of them
abbrev pub Reached : ℕ → List Write → Type 0
Reached j [] = ⊥
Reached j (w ∷ ws) = Reaches j w ⊎ Reached j ws
