-- C-11: a block, and when its slot and the marks belong together.
use Rattle.std.specs.Prelude.{ℕ, ◌+◌, ◌-◌, Bool, not, eqb, leb}
use Rattle.numbers.specs.Pick.{both}
use Rattle.record.specs.Marks.{most_pieces, marked_from, marked_count}
use Rattle.record.specs.declared.groups.Incoming.{Incoming}
use Rattle.record.specs.declared.groups.Marks.{Marks}

-- "A block of up to 32,768 bytes is assembled in a second lent store of that size"
abbrev pub most_bytes : ℕ
most_bytes = 32768

-- a block is a slot whose fragments are not 0: a packet that came whole has none
abbrev pub is_block : Incoming → Bool
is_block slot = not (eqb slot.fragments 0)

-- "Damaged now: .. over 64 pieces, a total .. of 0 or above 32,768, marks .. unlike what remains or past the count", turned round
abbrev pub block_fit : Marks → Incoming → Bool
block_fit m slot =
    both (both (leb slot.fragments most_pieces) (both (leb 1 slot.length) (leb slot.length most_bytes)))
    (both (eqb (slot.remaining + marked_count m) slot.fragments) (eqb (marked_from m slot.fragments (most_pieces - slot.fragments)) 0))
