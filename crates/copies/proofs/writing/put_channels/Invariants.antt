-- After i turns the first i stand there; a turn is one more.
use mathlib.Core.Path.{◌≡◌}
use lib.ListN.{length}
use lib.Seq.{paste}
use Rattle.peer.specs.Updates.{with_channels}
use Rattle.places.specs.Whole.{whole}
use Rattle.copies.proofs.writing.put_channels.Given as goal

abbrev pub invariant-loop-i : goal.invariant-loop-i
invariant-loop-i l = (length l.words ≡ 1236) × (whole l.words ≡ with_channels (whole l.initial.words) (paste (whole l.initial.words).channels 0 l.fn.all l.i))
