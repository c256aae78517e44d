-- For functions inside the house alone: the step in which the code reads the edition. Nothing here need be believed: the contract of `parse` is the rule's own.
use Rattle.std.specs.Prelude.{ℕ, eqb, Option, Some, None}
use Rattle.numbers.specs.Pick.{pick}
use Rattle.sevens.specs.declared.Grouped.{Grouped}
use Rattle.snapshot.specs.Calls.{edition}

-- where the edition ends, if it is there
abbrev pub begun : Option Grouped → Option ℕ
begun (Some g) = pick (eqb g.value edition) (Some g.groups) None
begun None = None
