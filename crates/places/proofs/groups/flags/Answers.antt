-- The number at its place, cut.
use mathlib.Core.Path.{sym, ◌∙◌}
use Rattle.places.proofs.GroupLaws.{flags_is}
use Rattle.places.proofs.groups.flags.Goals as goal

pub returns : goal.returns
returns c = c.low16.ensures ∙ sym (flags_is c.args.words.now)
