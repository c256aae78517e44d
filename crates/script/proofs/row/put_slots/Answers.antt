-- `put_slots` meets its contract: the row so far is the first slots told.
use mathlib.Core.Path.{sym}
use Prim.Native.Nat.{◌<◌}
use native.Mathlib.Omega.{arith}
use lib.ListN.{length-take}
use Rattle.std.proofs.Common.{get_or-take}
use Rattle.script.proofs.Laws.{told_none, told_more, grows_none, grows_then}
use Rattle.script.proofs.row.put_slots.Goals as goal

pub loop-slot-init : goal.loop-slot-init
loop-slot-init g c = (sym (told_none c.args.row), grows_none (g.W.Write.contents c.args.out.now))

pub loop-slot-preserved : goal.loop-slot-preserved
loop-slot-preserved g c =
    let l = c.loop-slot in
    let slots = c.args.slots.now in
    let put = c.in_ok-after in
    let long = length-take c.min.result slots in
    let first : l.slot-index < c.min.result = omega (arith, long) in (
      told_more c.args.row l.after put.after slots l.slot-index (omega (arith, long)) l.invariant.0 (rw (c.from.ensures, get_or-take) at put.ensures.value),
      grows_then (g.W.Write.contents c.args.out.now) (g.W.Write.contents l.out) _ l.invariant.1 put.ensures.front,
    )

pub returns-in_err-after-clause-front : goal.returns-in_err-after-clause-front
returns-in_err-after-clause-front g c =
    grows_then (g.W.Write.contents c.args.out.now) (g.W.Write.contents c.loop-slot.out) _ c.loop-slot.invariant.1 c.in_err-after.ensures.front
