-- `command` meets its contract: a number as wide as the layout of its kind says, written where that has a width.
use Prim.Native.Nat.{◌*◌}
use mathlib.Core.Path.{◌≡◌, ap, ◌∙◌}
use borrow.Author.Tests.{eq-eqb, ne_eqb}
use Rattle.command.specs.Layout.{width_of}
use Rattle.pool.specs.Slots.{kind_from}
use Rattle.order.proofs.SlotLaws.{width_fit}
use Rattle.order.specs.CodeCuts.{cut_place, field_from}
use Rattle.order.specs.Table.{as_command}
use Rattle.order.proofs.parts.command.Goals as goal

pub field-e-requires : goal.field-e-requires
field-e-requires c = rw c.width_of-bytes.ensures (width_fit _ _)

pub returns-then-j-eq0 : goal.returns-then-j-eq0
returns-then-j-eq0 c =
    let a = c.args in
    let e : c.field-e.result ≡ cut_place (8 * width_of (kind_from a.kind) a.j) (field_from a.kind a.j a.x) =
    c.field-e.ensures ∙ rw (c.field_from.ensures, c.width_of-bytes.ensures, c.kind_from.ensures)
    in
    c.as_command.ensures ∙ ap as_command e ∙ rw (eq-eqb a.j 0 c.if-j-eq0.true)

pub returns : goal.returns
returns c =
    let a = c.args in
    let e : c.field-e.result ≡ cut_place (8 * width_of (kind_from a.kind) a.j) (field_from a.kind a.j a.x) =
    c.field-e.ensures ∙ rw (c.field_from.ensures, c.width_of-bytes.ensures, c.kind_from.ensures)
    in
    c.written_if.ensures ∙ rw (e, c.width_of-bytes.ensures, c.kind_from.ensures, ne_eqb a.j 0 c.if-j-eq0.false)
