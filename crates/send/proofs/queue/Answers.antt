-- `queue` sets up the command that `piece_at` gives.
use mathlib.Core.Path.{subst}
use Rattle.places.specs.Whole.{whole}
use Rattle.outbox.specs.declared.pieces.Piece.{Piece}
use Rattle.outbox.proofs.PlaceLaws.{Sets}
use Rattle.send.proofs.queue.Goals as goal

pub returns : goal.returns
returns c =
    let q = c.queue in
    let a = c.args in
    let it = subst (λ (x : Piece). Sets (whole a.words.now) a.o a.marks.now x q.result q.new.marks (whole q.new.words)) c.piece_at.ensures (q.ensures.out, q.ensures.kept) in
    record { out = it.0; kept = it.1 }
