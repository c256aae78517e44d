-- The loop reads a number a turn: the row so far and the numbers still to come are the whole row.
use mathlib.Core.Path.{◌≡◌}
use Prim.Native.Nat.{◌+◌, ◌-◌}
use mathlib.Core.List.{◌++◌}
use lib.ListN.{take, drop}
use Rattle.command.specs.Layout.{layout, total, size_of}
use Rattle.command.specs.Bytes.{row_at, pad}
use Rattle.wire.proofs.bytes.row_at.Given as goal

abbrev pub invariant-loop-j : goal.invariant-loop-j
invariant-loop-j l =
    (l.place + total (drop l.j (layout l.kind)) ≡ l.at + size_of l.kind)
    × (take l.j l.x-items ++ pad (16 - l.j) (row_at l.s l.place (drop l.j (layout l.kind))) ≡ pad 16 (row_at l.s l.at (layout l.kind)))
