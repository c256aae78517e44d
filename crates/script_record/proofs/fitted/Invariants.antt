-- `fitted` meets its contract: the row so far is the first numbers told, and the kind has one at each of their places.
use Prim.Native.Nat.{◌≤◌}
use mathlib.Core.Path.{◌≡◌}
use lib.ListN.{length, take}
use Rattle.command.specs.Layout.{layout}
use Rattle.script.specs.Line.{Grows}
use Rattle.script.specs.Row.{told}
use Rattle.script_record.proofs.fitted.Given as goal

abbrev pub invariant-loop-j : goal.invariant-loop-j
invariant-loop-j g l = (l.j ≤ length (layout l.kind)) × (l.after ≡ told l.initial.after (take l.j l.x-items)) × Grows (g.W.Write.contents l.initial.out) (g.W.Write.contents l.out)
