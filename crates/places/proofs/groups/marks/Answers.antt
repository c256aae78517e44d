-- The numbers of the group, from their places.
use mathlib.Core.Path.{refl}
use Rattle.places.specs.Whole.{made, parts, sizes, numbers}
use Rattle.places.proofs.groups.marks.Goals as goal

pub returns : goal.returns
unfolding made parts sizes numbers
returns c = refl
