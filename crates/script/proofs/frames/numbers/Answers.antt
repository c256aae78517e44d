-- `numbers` has the number of each place, by one call each.
use Prim.Native.Nat.{◌+◌}
use native.Mathlib.Omega.{arith}
use borrow.Author.Rules.{rules}
use Rattle.script.specs.Frames.{number_at}
use Rattle.script.proofs.Laws.{made, numbers_by_place}
use Rattle.script.proofs.frames.numbers.Goals as goal

pub returns : goal.returns
returns g c =
    let a = c.args in
    let n = g.row.N in
    let m = c.from_fn.ensures.items in
    numbers_by_place a.input.now c.from_fn.result a.from n m.long
    (λ k h. made _ _ (λ i. number_at a.input.now (a.from + i)) (λ i r q e. search rules) _ 0 n m.each k (omega arith) (omega arith))
