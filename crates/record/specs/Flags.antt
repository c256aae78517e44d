-- "Anything that joins dispatched sets bit 1 of the peer's flags": the bit of value 1.
use Rattle.std.specs.Prelude.{ℕ}
use Rattle.numbers.specs.Bits.{with_bit}
use Rattle.record.specs.Updates.{with_flags}
use Rattle.record.specs.declared.groups.Unsequenced.{Unsequenced}

abbrev pub flag_set : ℕ → ℕ
flag_set flags = with_bit flags 0

abbrev pub flagged : Unsequenced → Unsequenced
flagged g = with_flags g (flag_set g.flags)
