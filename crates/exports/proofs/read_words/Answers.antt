-- `read_words` makes the row of the words at its places, each by one call.
use Prim.Native.Nat.{◌+◌, ◌*◌}
use native.Mathlib.Omega.{arith}
use borrow.Author.Rules.{rules}
use Rattle.command.specs.Bytes.{number_at}
use Rattle.exports.proofs.Words.{row_by_place, made}
use Rattle.exports.proofs.read_words.Goals as goal

pub returns : goal.returns
returns c =
    let s = c.args.s.now in
    let m = c.from_fn.ensures.items in
    row_by_place s c.from_fn.result 0 32 m.long (λ k h. made _ _ (λ i. number_at s (0 + 4 * i) 4) (λ i r q e. search rules) _ 0 32 m.each k (omega arith) (omega arith))
