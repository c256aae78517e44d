-- Two numbers at the fields' places: by computing the row.
use Rattle.command.specs.Bytes.{pad}
use Rattle.command.proofs.rows.pair_row.Goals as goal

pub returns : goal.returns
unfolding pad
returns c = cc
