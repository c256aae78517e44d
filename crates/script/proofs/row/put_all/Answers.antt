-- `put_all` meets its contract: the row so far is the first numbers told.
use mathlib.Core.Path.{sym}
use native.Mathlib.Omega.{arith}
use Rattle.script.proofs.Laws.{told_none, told_more, grows_none, grows_then}
use Rattle.script.proofs.row.put_all.Goals as goal

pub loop-x-init : goal.loop-x-init
loop-x-init g c = (sym (told_none c.args.row), grows_none (g.W.Write.contents c.args.out.now))

pub loop-x-preserved : goal.loop-x-preserved
loop-x-preserved g c =
    let l = c.loop-x in
    let put = c.in_ok-after in (
      told_more c.args.row l.after put.after c.args.numbers.now l.x-index (omega arith) l.invariant.0 put.ensures.value,
      grows_then (g.W.Write.contents c.args.out.now) (g.W.Write.contents l.out) _ l.invariant.1 put.ensures.front,
    )

pub returns-in_err-after-clause-front : goal.returns-in_err-after-clause-front
returns-in_err-after-clause-front g c =
    grows_then (g.W.Write.contents c.args.out.now) (g.W.Write.contents c.loop-x.out) _ c.loop-x.invariant.1 c.in_err-after.ensures.front
