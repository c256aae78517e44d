-- `piece_marked` asks the bit of the word that has the piece.
use Rattle.std.proofs.Common.{◌≡◌, ◌+◌, ◌-◌, sym, ◌∙◌, arith}
use Rattle.blocks.proofs.Counting.{piece_low, piece_high, piece_past}
use Rattle.blocks.proofs.piece_marked.Goals as goal

pub returns-then-k-lt-WORD : goal.returns-then-k-lt-WORD
returns-then-k-lt-WORD c =
    let a = c.args in
    c.is_set.ensures ∙ sym (piece_low a.m a.k c.if-k-lt-WORD.true)

pub returns-then-k-lt-PIECES : goal.returns-then-k-lt-PIECES
returns-then-k-lt-PIECES c =
    let a = c.args in
    let from : a.k - 32 + 32 ≡ a.k = omega arith in
    c.is_set-then-k-lt-PIECES.ensures ∙ sym (rw from at (piece_high a.m (a.k - 32) (omega arith)))

pub returns : goal.returns
returns c =
    let a = c.args in
    sym (piece_past a.m a.k c.if-k-lt-PIECES.false)
