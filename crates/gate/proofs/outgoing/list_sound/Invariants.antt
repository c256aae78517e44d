-- A turn of the walk at a time: each return is where the list, the cell or the slot says so.
use mathlib.Core.Path.{◌≡◌}
use mathlib.Core.List.{map}
use lib.ListN.{length}
use Rattle.lists.specs.Rows.{row_at, items_of}
use Rattle.damage.specs.CodeOutWalks.{slot_grade, grade_passes}
use Rattle.places.specs.Whole.{whole}
use Rattle.gate.proofs.Turns.{Left}
use Rattle.gate.proofs.outgoing.list_sound.Given as goal

abbrev pub invariant-loop-cell : goal.invariant-loop-cell
invariant-loop-cell l =
    (length l.marks ≡ 32) × Left (grade_passes (map (slot_grade l.count) (whole l.words).outgoing) l.sent) l.initial.marks (items_of (row_at l.at 32 l.words)) l.marks l.cell-index
