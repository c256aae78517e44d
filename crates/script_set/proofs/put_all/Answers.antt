-- `put_all` meets its contract: numbers copied are set one after the other.
use Rattle.script_set.proofs.Laws.{copied}
use Rattle.script_set.proofs.put_all.Goals as goal

pub returns : goal.returns
returns c = rw c.copy_from_slice.ensures.after (copied c.args.words.now c.args.numbers.now c.args.i c.requires)
