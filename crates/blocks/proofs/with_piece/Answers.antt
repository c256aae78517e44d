-- `with_piece` sets the bit of the word that has the piece, and leaves the marks where there is no such piece.
use Rattle.std.proofs.Common.{◌≡◌, ◌-◌, ◌/◌, ◌%◌, arith, ne_eqb}
use Rattle.record.specs.Marks.{with_piece}
use Rattle.blocks.proofs.with_piece.Goals as goal

pub returns-then-k-lt-WORD : goal.returns-then-k-lt-WORD
unfolding with_piece
returns-then-k-lt-WORD c =
    let k = c.args.k in
    let word : k / 32 ≡ 0 = omega arith in
    let place : k % 32 ≡ k = omega arith in
    simp (word, place, c.set.ensures)

pub returns-then-k-lt-PIECES : goal.returns-then-k-lt-PIECES
unfolding with_piece
returns-then-k-lt-PIECES c =
    let k = c.args.k in
    let word : k / 32 ≡ 1 = omega arith in
    let place : k % 32 ≡ k - 32 = omega arith in
    simp (word, place, c.set-then-k-lt-PIECES.ensures)

pub returns-else-k-lt-PIECES : goal.returns-else-k-lt-PIECES
unfolding with_piece
returns-else-k-lt-PIECES c =
    let k = c.args.k in
    simp (ne_eqb (k / 32) 0 (λ e. omega arith), ne_eqb (k / 32) 1 (λ e. omega arith))
