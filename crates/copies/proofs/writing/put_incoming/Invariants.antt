-- After i turns the first i stand there; a turn is one more.
use mathlib.Core.Path.{◌≡◌}
use lib.ListN.{length}
use lib.Seq.{paste}
use Rattle.places.specs.Updates.{with_incoming}
use Rattle.places.specs.Whole.{whole}
use Rattle.copies.proofs.writing.put_incoming.Given as goal

abbrev pub invariant-loop-i : goal.invariant-loop-i
invariant-loop-i l = (length l.words ≡ 1236) × (whole l.words ≡ with_incoming (whole l.initial.words) (paste (whole l.initial.words).incoming 0 l.fn.all l.i))
