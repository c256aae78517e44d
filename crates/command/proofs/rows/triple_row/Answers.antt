-- Three numbers at the fields' places: by computing the row.
use mathlib.Core.Path.{refl}
use Rattle.command.specs.Bytes.{pad}
use Rattle.command.proofs.rows.triple_row.Goals as goal

pub returns : goal.returns
unfolding pad
returns c = refl
