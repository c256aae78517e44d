-- The numbers of a connect at the fields' places: by computing the row.
use Rattle.command.specs.Bytes.{pad}
use Rattle.command.proofs.rows.connect_row.Goals as goal

pub returns : goal.returns
unfolding pad
returns c = cc
