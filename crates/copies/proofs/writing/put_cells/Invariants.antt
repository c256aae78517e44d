-- After k turns the first k cells stand there, and they are narrow; a turn is one more.
use mathlib.Core.Path.{◌≡◌}
use mathlib.Core.List.{map}
use lib.ListN.{length, take}
use lib.Seq.{paste}
use Rattle.lists.specs.Rows.{low}
use Rattle.copies.proofs.writing.put_cells.Given as goal

abbrev pub invariant-loop-k : goal.invariant-loop-k
invariant-loop-k l = (length l.words ≡ length l.initial.words) × (l.words ≡ paste l.initial.words l.at l.fn.slots l.k) × (map low (take l.k l.fn.slots) ≡ take l.k l.fn.slots)
