-- `mark` meets its contract: the marks of the whole list are those so far and those of what is left of it, a turn at a time; a slot that does not exist leaves none.
use mathlib.Core.Path.{sym, ◌∙◌}
use native.Mathlib.Omega.{arith}
use lib.Seq.{set_out}
use Rattle.lists.specs.Rows.{row_at, items_of}
use Rattle.lists.proofs.Placed.{marks_turn, marks_end}
use Rattle.lists.proofs.mark.Goals as goal
use Rattle.lists.proofs.mark.Goals.{then-s-marks, else-s-marks}

pub loop-k-preserved : goal.loop-k-preserved
loop-k-preserved c =
    let s = c.slot_at-s in
    let l = c.loop-k in
    let a = c.args in
    let xs = items_of (row_at a.at a.size a.words.now) in
    let turn = l.invariant ∙ marks_turn xs l.k l.marks (omega (arith, c.count-n.ensures)) in
    elim c.if-s-marks.branch [
      | then-s-marks w ↦ rw (w.marks-is, s.ensures) turn
      | else-s-marks w ↦ rw (w.marks-is, ← set_out l.marks s.result 1 w.if-s-marks.false, s.ensures) turn
    ]

pub returns : goal.returns
returns c =
    let l = c.loop-k in
    let a = c.args in
    let xs = items_of (row_at a.at a.size a.words.now) in
    sym (l.invariant ∙ marks_end xs l.k l.marks (omega (arith, c.count-n.ensures)))
