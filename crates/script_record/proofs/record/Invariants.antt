-- `record` meets its contract: the row so far is that of the places before i.
use mathlib.Core.Path.{◌≡◌}
use lib.ListN.{take}
use Rattle.places.specs.Whole.{whole}
use Rattle.order.specs.Table.{table, shown}
use Rattle.script.specs.Line.{Grows}
use Rattle.script.specs.Row.{told}
use Rattle.script_record.proofs.record.Given as goal

abbrev pub invariant-loop-i : goal.invariant-loop-i
invariant-loop-i g l = (l.after ≡ told l.initial.after (shown (take l.i (table (whole l.words))))) × Grows (g.W.Write.contents l.initial.out) (g.W.Write.contents l.out)
