-- Only the code's own: a packet as one value, and its commands one after another. The rule is in send's Calls.
use Rattle.std.specs.Prelude.{ℕ, ◌+◌, List, [], ◌∷◌, leb, replicate}
use Rattle.numbers.specs.Pick.{pick}
use Rattle.numbers.specs.declared.counters.Reliable.{Reliable}
use Rattle.numbers.specs.declared.counters.Unreliable.{Unreliable}
use Rattle.outbox.specs.declared.pieces.Piece.{Piece}
use Rattle.packets.specs.Packets.{whole, start_of, cut_by, length_at, cut_piece, cut_from, pieces}
use Rattle.packets.specs.declared.plans.Packet.{Packet}
use Rattle.packets.specs.declared.plans.Packet.TheVariants.{One, Pieces}

-- by a channel's two outgoing numbers
abbrev pub packet_of : ℕ → Reliable → Unreliable → ℕ → ℕ → ℕ → Packet
packet_of flags r u channel length fragment =
    pick (leb length fragment) (One (whole flags u channel length)) (Pieces (cut_by (start_of flags r u) channel length fragment))

abbrev pub pieces_of : Packet → List Piece
pieces_of (One x) = x ∷ []
pieces_of (Pieces x) = pieces x

abbrev pub count_of : Packet → ℕ
count_of (One x) = 1
count_of (Pieces x) = x.count

-- the n commands that are left, from command j at its offset on
abbrev pub left_of : Packet → ℕ → ℕ → ℕ → List Piece
left_of (One x) n j offset = replicate n x
left_of (Pieces x) n j offset = cut_from x n j offset

abbrev pub piece_at : Packet → ℕ → ℕ → Piece
piece_at (One x) j offset = x
piece_at (Pieces x) j offset = cut_piece x j offset

abbrev pub next_at : Packet → ℕ → ℕ
next_at (One x) offset = offset
next_at (Pieces x) offset = offset + length_at x offset
