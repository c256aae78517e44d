-- For functions inside the house alone: the steps in which the code goes. Nothing here need be believed: the contracts of `put` and `read` are the rule's own.
use Rattle.std.specs.Prelude.{ℕ, List, []}
use Rattle.numbers.specs.Pick.{pick}
use Rattle.sevens.specs.Groups.{written}
use Rattle.order.specs.declared.Place.{Place}

-- the groups of a place
abbrev pub part_of : Place → List ℕ
part_of e = pick e.is_written (written e.number) []
