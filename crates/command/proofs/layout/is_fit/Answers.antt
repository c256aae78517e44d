-- The loop tests a number a turn: the whole row fits where the rest does. Sixteen places cover every layout.
use mathlib.Core.Path.{sym, ap, ◌∙◌}
use mathlib.Core.Bool.{Bool, true, false}
use lib.ListN.{drop}
use Rattle.numbers.specs.Pick.{both}
use Rattle.command.specs.Layout.{known, layout}
use Rattle.command.specs.Bytes.{fits}
use Rattle.numbers.proofs.BoolLaws.{both_false, both_true}
use Rattle.command.proofs.LayoutLaws.{known_size, size_known, layout-narrow, layout-length}
use Rattle.command.proofs.RowLaws.{fits_turn, fits_end}
use native.Mathlib.Omega.{arith}
use Rattle.command.proofs.layout.is_fit.Goals as goal

pub returns-then-size_of-eq0 : goal.returns-then-size_of-eq0
returns-then-size_of-eq0 c =
    let a = c.args in
    let e = c.size_of.ensures in
    sym (ap (λ (b : Bool). both b (fits (layout a.kind) a.row)) (known_size a.kind (omega arith)))

pub returns-then-not-is_within : goal.returns-then-not-is_within
returns-then-not-is_within c =
    let a = c.args in
    let l = c.loop-j in
    let w = c.width_of in
    let t = fits_turn (layout a.kind) a.row l.j w.result false (layout-narrow a.kind) (omega arith) w.ensures c.if-not-is_within.ensures in
    sym (both_false (known a.kind) (fits (layout a.kind) a.row) (l.invariant ∙ t))

pub loop-j-preserved : goal.loop-j-preserved
loop-j-preserved c =
    let a = c.args in
    let l = c.loop-j in
    let w = c.width_of in
    l.invariant
    ∙ fits_turn (layout a.kind) a.row l.j w.result true (layout-narrow a.kind) (omega arith) w.ensures c.if-not-is_within.ensures

pub returns : goal.returns
returns c =
    let a = c.args in
    let l = c.loop-j in
    let e = c.size_of.ensures in
    let h = layout-length a.kind in
    sym
    (both_true (known a.kind) (fits (layout a.kind) a.row) (size_known a.kind (λ z. omega arith))
    (l.invariant ∙ fits_end (layout a.kind) (drop l.j a.row) l.j (omega arith)))
