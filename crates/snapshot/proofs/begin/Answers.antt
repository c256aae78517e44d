-- `begin` meets its contract: the edition's groups lie inside the bytes; its returns are the cases of the edition.
use Rattle.snapshot.proofs.RestoreLaws.{begin_inside}
use Rattle.snapshot.proofs.begin.Goals as goal

pub returns-clause-inside : goal.returns-clause-inside
returns-clause-inside c = begin_inside c.args.bytes.now c.in_ok-number.number c.in_ok-number.ensures
