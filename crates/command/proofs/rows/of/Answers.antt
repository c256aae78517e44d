-- Byte, channel and number over the zeros before the fields: by computing the row.
use Rattle.command.specs.Bytes.{pad}
use Rattle.command.proofs.rows.of.Goals as goal

pub returns : goal.returns
unfolding pad
returns c = rw c.fields_row-row.ensures
