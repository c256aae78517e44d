-- The numbers of a fragment at the fields' places: by computing the row.
use Rattle.command.specs.Bytes.{pad}
use Rattle.command.proofs.rows.fragment_row.Goals as goal

pub returns : goal.returns
unfolding pad
returns c = cc
