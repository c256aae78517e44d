-- `value` writes a space and then the number: what was there stays in front of both.
use Rattle.script.proofs.Laws.{grows_then}
use Rattle.script.proofs.line.value.Goals as goal

pub returns-clause-front : goal.returns-clause-front
returns-clause-front g c =
    grows_then (g.W.Write.contents c.args.out.now) (g.W.Write.contents c.byte.new.out) (g.W.Write.contents c.begin.new.out) c.byte.ensures.front c.begin.ensures.front
