-- `flagged` meets its contract: the flags are what `flag_set` makes of them.
use Rattle.record.proofs.flags.flagged.Goals as goal

pub returns : goal.returns
returns c = rw c.flag_set-flags.ensures
