-- `number` meets its contract: one test.
use Rattle.script.proofs.Laws.{grows_none}
use Rattle.script_record.proofs.number.Goals as goal

pub returns-clause-front : goal.returns-clause-front
returns-clause-front g c = grows_none (g.W.Write.contents c.args.out.now)
