-- "128 asks for acknowledgement, 64 says unsequenced": the flags of a command's byte.
use Rattle.std.specs.Prelude.{ℕ, Bool}
use Rattle.numbers.specs.Bits.{bit}

abbrev pub acknowledged : ℕ → Bool
acknowledged byte = bit byte 7

abbrev pub unsequenced : ℕ → Bool
unsequenced byte = bit byte 6
