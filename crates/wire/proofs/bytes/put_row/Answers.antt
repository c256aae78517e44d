-- The loop puts a number a turn: what is still to be put conserves the whole.
use mathlib.Core.Path.{◌≡◌, sym, ◌∙◌}
use mathlib.Core.List.{[]}
use lib.ListN.{drop, drop_of_length-le}
use Rattle.command.specs.Layout.{layout}
use Rattle.command.proofs.RowLaws.{total_step, total_turn, put_turn, put-end}
use native.Mathlib.Omega.{arith}
use Rattle.wire.proofs.bytes.put_row.Goals as goal

pub put_number-requires : goal.put_number-requires
put_number-requires c = omega (arith, c.width_of-width.ensures, total_step (layout c.args.kind) c.loop-j.j)

pub overflow_add-place : goal.overflow_add-place
overflow_add-place c = omega (arith, c.width_of-width.ensures, total_step (layout c.args.kind) c.loop-j.j)

pub loop-j-preserved : goal.loop-j-preserved
loop-j-preserved c =
    let l = c.loop-j in
    let a = c.args in
    let w = c.width_of-width in (
      total_turn (layout a.kind) l.place w.result l.j w.ensures ∙ l.invariant.0,
      put_turn l.out (layout a.kind) a.row l.place w.result l.j _ w.ensures c.put_number.ensures (omega arith) ∙ l.invariant.1,
    )

pub returns : goal.returns
returns c =
    let l = c.loop-j in
    let a = c.args in
    let z : l.j ≡ 16 = omega arith in
    let d : drop 16 a.row ≡ [] = drop_of_length-le a.row {i = 16} (omega arith) in
    sym (put-end l.out (drop 16 (layout a.kind)) l.place) ∙ (rw (z, d) at l.invariant.1)
