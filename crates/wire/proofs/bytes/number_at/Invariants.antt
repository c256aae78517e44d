-- The loop adds a byte a turn: n is the number of the bytes passed, and below 256 to their count.
use mathlib.Core.Path.{◌≡◌}
use Prim.Native.Nat.{◌^◌, ◌<◌}
use Rattle.command.specs.Bytes.{number_at}
use Rattle.wire.proofs.bytes.number_at.Given as goal

abbrev pub invariant-loop-b : goal.invariant-loop-b
invariant-loop-b l = (l.n ≡ number_at l.s l.at l.b-index) × (l.n < 256 ^ l.b-index)
