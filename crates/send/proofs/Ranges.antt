-- The fragment length that a send reads off an MTU in range is in range.
use Prim.Native.Nat.{ℕ, ◌≤◌}
use mathlib.Core.Bool.{Bool, true, false}
use native.Mathlib.Omega.{arith}
use Rattle.numbers.specs.Limits.{least_mtu, most_mtu}
use Rattle.packets.specs.Packets.{fragment_length}

pub length_low : (mtu : ℕ) (checksum : Bool) → least_mtu ≤ mtu → 1 ≤ fragment_length mtu checksum
length_low mtu true h = omega arith
length_low mtu false h = omega arith

pub length_high : (mtu : ℕ) (checksum : Bool) → mtu ≤ most_mtu → fragment_length mtu checksum ≤ 65535
length_high mtu true h = omega arith
length_high mtu false h = omega arith
