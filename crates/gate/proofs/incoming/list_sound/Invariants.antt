-- A turn of the walk at a time, as of an outgoing list, with the lengths summed and the blocks counted on the way.
use Prim.Native.Nat.{◌+◌, ◌*◌, ◌≤◌}
use mathlib.Core.Path.{◌≡◌}
use lib.ListN.{length, drop}
use Rattle.lists.specs.Rows.{row_at, items_of}
use Rattle.record.specs.Damage.{lengths, blocks}
use Rattle.places.specs.Whole.{whole}
use Rattle.gate.specs.CodeHalves.{slot_passes}
use Rattle.gate.proofs.Turns.{Left}
use Rattle.gate.proofs.incoming.list_sound.Given as goal

abbrev pub invariant-loop-cell : goal.invariant-loop-cell
invariant-loop-cell l =
    (length l.marks ≡ 12)
    × Left (slot_passes (whole l.words).marks (whole l.words).incoming l.count l.own) l.initial.marks (items_of (row_at l.at 12 l.words)) l.marks l.cell-index
    × (l.initial.walk.total + lengths (whole l.words).incoming (items_of (row_at l.at 12 l.words)) ≡ l.walk.total + lengths (whole l.words).incoming (drop l.cell-index (items_of (row_at l.at 12 l.words))))
    × (l.walk.total ≤ l.initial.walk.total + 32768 * l.cell-index)
    × (l.initial.walk.blocks + blocks (whole l.words).incoming (items_of (row_at l.at 12 l.words)) ≡ l.walk.blocks + blocks (whole l.words).incoming (drop l.cell-index (items_of (row_at l.at 12 l.words))))
    × (l.walk.blocks ≤ l.initial.walk.blocks + l.cell-index)
