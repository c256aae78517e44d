-- `read` meets its contract: all numbers are read as those that are left are, with those before in their places.
use mathlib.Core.Path.{ap, ◌∙◌}
use native.Mathlib.Omega.{arith}
use borrow.Author.Rules.{rules}
use Rattle.std.specs.Prelude.{ℕ, Option}
use Rattle.snapshot_parts.specs.Row.{result_of}
use Rattle.snapshot_parts.proofs.ReadLaws.{read_end, read_none, read_turn}
use Rattle.snapshot_parts.proofs.row.read.Goals as goal

pub returns-in_err-end-clause-numbers : goal.returns-in_err-end-clause-numbers
returns-in_err-end-clause-numbers c =
    let l = c.loop-i in
    let a = c.args in
    ap (λ (r : Option ℕ). result_of r c.read_at.new.words a.bytes.now) c.from_residual.ensures
    ∙ read_none a.bytes.now a.at a.words.now l.words l.end l.i l.invariant (omega arith) c.in_err-end.ensures.numbers

pub loop-i-preserved : goal.loop-i-preserved
loop-i-preserved c =
    let l = c.loop-i in
    let a = c.args in
    read_turn a.bytes.now a.at a.words.now l.words l.end l.i l.invariant (omega arith)
    c.in_ok-end.end _ c.in_ok-end.ensures.numbers c.in_ok-end.ensures.inside (search rules)

pub returns-clause-numbers : goal.returns-clause-numbers
returns-clause-numbers c =
    let l = c.loop-i in
    let a = c.args in
    read_end a.bytes.now a.at a.words.now l.words l.end l.i l.invariant (omega arith)
