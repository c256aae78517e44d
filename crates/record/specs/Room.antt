-- "A slot is free when no list names it": the outgoing slots that none of the three lists names, counted.
use Rattle.std.specs.Prelude.{ℕ}
use Rattle.record.specs.Lists.{outgoing}
use Rattle.cells.specs.Free.{how_many}
use Rattle.record.specs.Damage.{used_out}
use Rattle.record.specs.declared.groups.Lists.{Lists}

abbrev pub room_in : Lists → ℕ
room_in l = how_many outgoing (used_out l)
