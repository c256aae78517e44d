-- The loop reads a number a turn: the row so far and the numbers still to come are the whole row.
use mathlib.Core.Path.{◌≡◌, sym, ap, ◌∙◌}
use mathlib.Core.List.{List, [], ◌++◌, append-nil}
use Prim.Native.Nat.{ℕ}
use lib.Seq.{take_all}
use Rattle.command.specs.Layout.{layout}
use Rattle.command.specs.Bytes.{pad}
use Rattle.command.proofs.LayoutLaws.{width_le}
use Rattle.command.proofs.RowLaws.{total_step, row_turn, total_turn}
use native.Mathlib.Omega.{arith}
use Rattle.wire.proofs.bytes.row_at.Goals as goal

pub number_at-requires : goal.number_at-requires
number_at-requires c =
    let l = c.loop-j in
    let k = c.args.kind in
    let e = c.width_of-width.ensures in
    (omega (arith, total_step (layout k) l.j), omega (arith, width_le k l.j))

pub overflow_add-place : goal.overflow_add-place
overflow_add-place c = omega (arith, c.width_of-width.ensures, total_step (layout c.args.kind) c.loop-j.j)

pub loop-j-preserved : goal.loop-j-preserved
loop-j-preserved c =
    let l = c.loop-j in
    let a = c.args in
    let w = c.width_of-width in (
      total_turn (layout a.kind) l.place w.result l.j w.ensures ∙ l.invariant.0,
      row_turn a.s.now (layout a.kind) l.x-items l.place w.result l.j c.number_at.result w.ensures c.number_at.ensures.0 (omega arith) (omega arith) ∙ l.invariant.1,
    )

pub returns : goal.returns
unfolding pad
returns c =
    let l = c.loop-j in
    let row = l.x-items in
    let z : l.j ≡ 16 = omega arith in
    sym (append-nil row) ∙ ap (λ (r : List ℕ). r ++ []) (sym (take_all 16 row (omega arith))) ∙ rw z at l.invariant.1
