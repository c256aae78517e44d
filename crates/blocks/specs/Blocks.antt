-- C-11: what a piece's fields may be, and the slot of a block.
use Rattle.std.specs.Prelude.{ℕ, ◌-◌, Bool, ◌==◌, nat_le, nat_lt}
use Rattle.numbers.specs.Pick.{both}
use Rattle.numbers.specs.Modulo.{minus}
use Rattle.numbers.specs.declared.counters.Reliable.{Reliable}
use Rattle.command.specs.declared.fields.Fragment.{Fragment}
use Rattle.record.specs.declared.groups.Incoming.{Incoming}
use Rattle.record.specs.Marks.{most_pieces}
use Rattle.record.specs.Blocks.{most_bytes}

-- "count is 1 to 64, number below count, offset below total, length at most total minus offset"; a total is held to the maximum packet size too, as in the
-- source. Else 14.
abbrev pub fields_fit : ℕ → Fragment → Bool
fields_fit packet f =
    both (both (nat_le 1 f.count) (nat_le f.count most_pieces))
    (both (nat_lt f.number f.count)
    (both (both (nat_le f.total most_bytes) (nat_le f.total packet)) (both (nat_lt f.offset f.total) (nat_le f.length (f.total - f.offset)))))

-- "The first piece fixes start, count and total": a later one that is unlike it gets 14
abbrev pub like_first : Fragment → Incoming → Bool
like_first f slot = both (f.count == slot.fragments) (f.total == slot.length)

-- the slot of a block before any piece is marked: count as fragments, all of them remaining, total as length
abbrev pub block_of : ℕ → ℕ → Reliable → Fragment → Incoming
block_of byte channel start f =
    record { byte = byte; channel = channel; number = start; fragments = f.count; remaining = f.count; length = f.total }

-- the slot with a piece more stored
abbrev pub one_less : Incoming → Incoming
one_less slot =
    record {
      byte = slot.byte;
      channel = slot.channel;
      number = slot.number;
      fragments = slot.fragments;
      remaining = minus 32 slot.remaining 1;
      length = slot.length;
    }
