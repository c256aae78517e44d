-- An outgoing slot as the row of its numbers, in the record's order: from its reliable number to its command's last field.
use Rattle.std.specs.Prelude.{ℕ, List, ◌∷◌}
use Rattle.numbers.specs.Pick.{pick}
use Rattle.command.specs.Rows.{row_of}
use Rattle.record.specs.declared.groups.Outgoing.{Outgoing}

abbrev pub slot_row : Outgoing → List ℕ
slot_row o =
    o.reliable.0 ∷ o.unreliable.0 ∷ o.sent ∷ o.timeout ∷ o.queued ∷ o.offset ∷ o.length ∷ o.attempts ∷ pick o.packet 1 0
    ∷ row_of o.command
