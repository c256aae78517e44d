-- The test is the definition's own, with what `kind_of` ensures.
use Rattle.command.proofs.rows.names_fields.Goals as goal

pub returns : goal.returns
returns c = cc
