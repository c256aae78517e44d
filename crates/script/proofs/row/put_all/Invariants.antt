-- `put_all` meets its contract: the row so far is the first numbers told.
use mathlib.Core.Path.{◌≡◌}
use lib.ListN.{take}
use Rattle.script.specs.Line.{Grows}
use Rattle.script.specs.Row.{told}
use Rattle.script.proofs.row.put_all.Given as goal

abbrev pub invariant-loop-x : goal.invariant-loop-x
invariant-loop-x g l = (l.after ≡ told l.initial.after (take l.x-index l.numbers)) × Grows (g.W.Write.contents l.initial.out) (g.W.Write.contents l.out)
