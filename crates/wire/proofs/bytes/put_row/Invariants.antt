-- The loop puts a number a turn: what is still to be put conserves the whole.
use mathlib.Core.Path.{◌≡◌}
use Prim.Native.Nat.{◌+◌}
use lib.ListN.{drop}
use Rattle.command.specs.Layout.{layout, total, size_of}
use Rattle.command.specs.Bytes.{put_row}
use Rattle.wire.proofs.bytes.put_row.Given as goal

abbrev pub invariant-loop-j : goal.invariant-loop-j
invariant-loop-j l =
    (l.place + total (drop l.j (layout l.kind)) ≡ l.at + size_of l.kind)
    × (put_row l.out l.place (drop l.j (layout l.kind)) (drop l.j l.fn.row) ≡ put_row l.initial.out l.at (layout l.kind) l.fn.row)
