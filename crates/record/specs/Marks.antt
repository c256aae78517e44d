-- C-11: "marks (two words after the slots, 0 with no block)". Piece k is bit k mod 32 of word k / 32; "count is 1 to 64".
use Rattle.std.specs.Prelude.{ℕ, zero, suc, ◌+◌, ◌/◌, ◌%◌, Bool, eqb, ltb}
use Rattle.numbers.specs.Pick.{pick, both}
use Rattle.numbers.specs.Bits.{bit, with_bit}
use Rattle.record.specs.declared.groups.Marks.{Marks}

abbrev pub most_pieces : ℕ
most_pieces = 64

-- "0 with no block"
abbrev pub no_marks : Marks
no_marks = record { low = 0; high = 0 }

-- whether piece k is marked
unfoldable pub piece_marked : Marks → ℕ → Bool
piece_marked m k = both (ltb k most_pieces) (bit (pick (eqb (k / 32) 0) m.low m.high) (k % 32))

-- the marks once piece k is stored
unfoldable pub with_piece : Marks → ℕ → Marks
with_piece m k =
    pick (eqb (k / 32) 0) (record { low = with_bit m.low (k % 32); high = m.high })
    (pick (eqb (k / 32) 1) (record { low = m.low; high = with_bit m.high (k % 32) }) m)

-- of so many pieces from piece k on, how many are marked
unfoldable pub marked_from : Marks → ℕ → ℕ → ℕ
marked_from m k zero = 0
marked_from m k (suc n) = pick (piece_marked m k) 1 0 + marked_from m (k + 1) n

abbrev pub marked_count : Marks → ℕ
marked_count m = marked_from m 0 most_pieces
