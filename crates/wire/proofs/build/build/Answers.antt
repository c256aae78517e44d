-- A row that fits is not cut, so the command assembled of it has the row's first numbers; another is refused.
use mathlib.Core.Path.{sym, ap, ◌∙◌}
use mathlib.Core.List.{◌∷◌}
use native.Mathlib.Omega.{arith}
use Rattle.numbers.specs.Answers.{done}
use Rattle.command.specs.Layout.{known, layout}
use Rattle.command.specs.Rows.{kind_of, row_of}
use Rattle.command.specs.Bytes.{fits}
use Rattle.command.specs.declared.fields.Command.{Command}
use Rattle.numbers.proofs.BoolLaws.{both_left}
use Rattle.wire.proofs.ShapeLaws.{built_fit, built_none}
use Rattle.wire.proofs.build.build.Goals as goal

pub returns-then-not-is_fit : goal.returns-then-not-is_fit
returns-then-not-is_fit c = built_none c.args.kind c.args.row (sym c.if-not-is_fit.ensures)

pub assembled-requires : goal.assembled-requires
assembled-requires c = both_left (known c.args.kind) (fits (layout c.args.kind) c.args.row) (sym c.if-not-is_fit.ensures)

pub returns : goal.returns
returns c =
    let a = c.args in
    ap (λ (m : Command). done (kind_of m.fields ∷ row_of m)) c.assembled.ensures
    ∙ built_fit a.kind a.row (omega arith) (sym c.if-not-is_fit.ensures)
