-- `asked` has the number of each place of the row, by one call each.
use Prim.Native.Nat.{◌+◌}
use native.Mathlib.Omega.{arith}
use borrow.Author.Rules.{rules}
use Rattle.script.specs.Frames.{number_at}
use Rattle.script.proofs.Laws.{made}
use Rattle.script_commands.specs.Commands.{place_of}
use Rattle.script_commands.proofs.Laws.{row_by_place}
use Rattle.script_commands.proofs.asked.Goals as goal

pub returns : goal.returns
returns c =
    let a = c.args in
    let m = c.from_fn.ensures.items in
    row_by_place a.input.now c.from_fn.result a.head a.tail 16 0 m.long
    (λ k h. made _ _ (λ j. number_at a.input.now (place_of a.head a.tail (0 + j))) (λ i r q e. search rules) _ 0 16 m.each k (omega arith) (omega arith))
