-- A packet that was cut, as its pieces come: each at least once, in any order. What each of them writes is C-11's Write.
use Rattle.std.specs.Prelude.{ℕ, ◌≤◌, ◌<◌, ◌≡◌, true, List, length, get_or, take, drop}
use Rattle.cells.specs.Runs.{has}
use Rattle.outbox.specs.declared.pieces.Piece.{Piece}
use Rattle.packets.specs.Packets.{piece_count, cut_piece, pieces}
use Rattle.packets.specs.declared.Cut.{Cut}
use Rattle.blocks.specs.Writing.{Write}

-- the packet, and how it is cut
pub record CutOf (packet : List ℕ) (x : Cut) : Type 0 where
  pub whole : length packet ≡ x.length
  pub wide : 1 ≤ x.fragment
  pub counted : x.count ≡ piece_count x.fragment x.length

-- piece i; past the last there is none: no bytes, at the packet's end
abbrev pub piece_at : Cut → ℕ → Piece
piece_at x i = get_or (pieces x) i (cut_piece x x.count x.length)

-- piece i carries the packet's bytes from its offset on
abbrev pub piece_write : Cut → List ℕ → ℕ → Write
piece_write x packet i = record { place = (piece_at x i).offset; bytes = take (piece_at x i).length (drop (piece_at x i).offset packet) }

-- the numbers of n pieces as they come: each of them, and no other
pub record Comes (n : ℕ) (order : List ℕ) : Type 0 where
  pub each : (i : ℕ) → i < n → has order i ≡ true
  pub below : (i : ℕ) → has order i ≡ true → i < n
