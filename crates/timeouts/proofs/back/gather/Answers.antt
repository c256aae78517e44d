-- `gather` meets its contract. The loop's invariant: what bears the mark among the slots passed stands in the run from its first cell on, and m counts it;
-- a turn is one more place, with or without its slot.
use Prim.Native.Nat.{◌+◌, ◌<◌}
use mathlib.Core.Path.{refl, ap, ◌∙◌}
use native.Mathlib.Omega.{arith}
use lib.ListN.{length, take}
use lib.Seq.{length-sets}
use Rattle.record.specs.Lists.{out_items}
use Rattle.places.specs.Whole.{whole}
use Rattle.overdue.specs.Walking.{bearing}
use Rattle.overdue.proofs.Laws.{Borne, borne_none, borne_low, borne_with, borne_without}
use Rattle.timeouts.proofs.BackLaws.{sent_fits, gathered}
use Rattle.timeouts.proofs.back.gather.Goals as goal
use Rattle.timeouts.proofs.back.gather.Goals.{then-marks-k, else-marks-k}

pub loop-k-init : goal.loop-k-init
loop-k-init c =
    let a = c.args in (
      omega (arith, c.count-k-end.ensures, sent_fits a.words.now),
      omega arith,
      refl,
      borne_none a.mark a.marks.now (out_items (whole a.words.now).lists.sent) a.cells.now,
    )

pub loop-k-preserved : goal.loop-k-preserved
loop-k-preserved c =
    let a = c.args in
    let i = c.loop-k.invariant in
    let items = out_items (whole a.words.now).lists.sent in
    let h : c.loop-k.k < length items = omega (arith, c.count-k-end.ensures) in
    let next : Borne a.mark a.marks.now items a.cells.now (c.loop-k.k + 1) c.if-marks-k.cells c.if-marks-k.m =
    elim c.if-marks-k.branch [
      | then-marks-k w ↦ rw (w.cells-is, w.m-is, w.slot_at.ensures) (borne_with a.mark a.marks.now items a.cells.now i.3 h w.if-marks-k.true)
      | else-marks-k w ↦ rw (w.cells-is, w.m-is) (borne_without a.mark a.marks.now items a.cells.now i.3 h w.if-marks-k.false)
    ] in
    (i.0, borne_low a.mark a.marks.now items a.cells.now next, ap length next.stored ∙ length-sets a.cells.now 0 (bearing a.mark a.marks.now (take (c.loop-k.k + 1) items)), next)

pub returns : goal.returns
returns c =
    let a = c.args in
    let i = c.loop-k.invariant in record { slots = gathered a.mark a.words.now a.marks.now a.cells.now c.loop-k.cells c.loop-k.k c.loop-k.m (omega (arith, c.count-k-end.ensures)) (omega arith) i.3; fits = omega arith }
