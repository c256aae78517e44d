-- `put_slots` meets its contract: the row so far is the first slots told.
use mathlib.Core.Path.{◌≡◌}
use lib.ListN.{take}
use Rattle.script.specs.Line.{Grows}
use Rattle.script.specs.Row.{told}
use Rattle.script.proofs.row.put_slots.Given as goal

abbrev pub invariant-loop-slot : goal.invariant-loop-slot
invariant-loop-slot g l = (l.after ≡ told l.initial.after (take l.slot-index l.slots)) × Grows (g.W.Write.contents l.initial.out) (g.W.Write.contents l.out)
