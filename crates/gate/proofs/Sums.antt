-- What the walks sum: a slot that passes is short, and a block at most. The argument: both tests of a slot ask for its kind's rule.
use Prim.Native.Nat.{ℕ, ◌≤◌}
use mathlib.Core.Path.{◌≡◌}
use mathlib.Core.Bool.{Bool, true, false}
use mathlib.Core.List.{List}
use native.Mathlib.Omega.{arith}
use lib.ListN.{get_or}
use Rattle.std.specs.Prelude.{Option, is_some, unwrap_or}
use Rattle.numbers.specs.Pick.{pick}
use Rattle.record.specs.Fresh.{no_incoming}
use Rattle.record.specs.declared.groups.Incoming.{Incoming}
use Rattle.record.specs.declared.groups.Marks.{Marks}
use Rattle.damage.proofs.SumLaws.{pass_short}
use Rattle.gate.specs.CodeHalves.{slot_passes}

pub short : (marks : Marks) (slots : List Incoming) (count : ℕ) (own : Option ℕ) (s : ℕ) → slot_passes marks slots count own s ≡ true → (get_or slots s no_incoming).length ≤ 32768
short marks slots count own s e = pass_short marks count (is_some own) (unwrap_or own 0) (get_or slots s no_incoming) e

pub at_most_one : (b : Bool) → pick b 1 0 ≤ 1
at_most_one true = omega arith
at_most_one false = omega arith
