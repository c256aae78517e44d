-- Where a command stands whole, the row that was read is built as it stands, at the place after it.
use mathlib.Core.Path.{sym, ap, ◌∙◌}
use Prim.Native.Nat.{◌+◌}
use Rattle.command.specs.Bytes.{Bytes}
use Rattle.wire.specs.Reading.{answer_of}
use Rattle.wire.specs.Steps.{placed}
use Rattle.wire.proofs.ReadLaws.{read_built_at}
use native.Mathlib.Omega.{arith}
use Rattle.wire.proofs.reader.read.Goals as goal

pub returns-in_err-command : goal.returns-in_err-command
returns-in_err-command c =
    let s = c.args.s.now in
    let i = c.args.at in
    let n = i + c.size_of.result in
    let bytes : Bytes s = λ j. omega (arith, c.type_inv.s j) in
    ap answer_of c.from_residual-in_err-command.ensures
    ∙ ap (placed n) c.in_err-command.ensures
    ∙ read_built_at s i c.in_ok-kind.kind n c.row_at-row.result bytes (sym c.in_ok-kind.ensures) c.row_at-row.ensures (omega (arith, c.size_of.ensures))

pub returns : goal.returns
returns c =
    let s = c.args.s.now in
    let i = c.args.at in
    let n = i + c.size_of.result in
    let bytes : Bytes s = λ j. omega (arith, c.type_inv.s j) in
    ap (placed n) c.in_ok-command.ensures
    ∙ read_built_at s i c.in_ok-kind.kind n c.row_at-row.result bytes (sym c.in_ok-kind.ensures) c.row_at-row.ensures (omega (arith, c.size_of.ensures))
