-- After k turns the first k cells stand there, and they are narrow; a turn is one more.
use mathlib.Core.Path.{◌≡◌, refl}
use native.Mathlib.Omega.{arith}
use lib.ListN.{length, length-set}
use lib.Seq.{paste-zero}
use Rattle.copies.proofs.ListLaws.{cell_put, narrow_turn, narrow_all}
use Rattle.copies.proofs.writing.put_cells.Goals as goal

pub loop-k-init : goal.loop-k-init
loop-k-init c =
    let a = c.args in
    (refl, paste-zero a.words.now a.at a.slots.now, refl)

pub loop-k-preserved : goal.loop-k-preserved
loop-k-preserved c =
    let l = c.loop-k in
    let a = c.args in (
      rw length-set l.invariant.0,
      cell_put a.words.now l.words a.slots.now a.at l.k c.wide16.result (omega arith) (omega arith) l.invariant.1 c.wide16.ensures.is,
      narrow_turn a.slots.now l.k (omega arith) c.wide16.ensures.low l.invariant.2,
    )

pub returns : goal.returns
returns c =
    let l = c.loop-k in
    let a = c.args in
    let e : l.k ≡ length a.slots.now = omega arith in
    record { is = rw e at l.invariant.1; low = narrow_all a.slots.now l.k e l.invariant.2 }
