-- A command of a kind in a row of 16 numbers, whatever they are: each number is read modulo its width.
use Rattle.std.specs.Prelude.{ℕ, ◌%◌, List, get_or}
use Rattle.numbers.specs.Pick.{pick}
use Rattle.command.specs.Layout.{known}
use Rattle.command.specs.Shapes.{assembled}
use Rattle.command.specs.declared.fields.Command.{Command}
use Rattle.command.specs.declared.fields.Fields.TheVariants.{Acknowledge}

-- no such kind: the fields of an empty slot
abbrev pub unnamed : List ℕ → Command
unnamed xs =
    record {
      byte = get_or xs 0 0 % 256;
      channel = get_or xs 1 0 % 256;
      number = record { 0 = get_or xs 2 0 % 65536 };
      fields = Acknowledge (record { 0 = 0 }) 0;
    }

unfoldable pub decoded : ℕ → List ℕ → Command
decoded k xs = pick (known k) (assembled k xs) (unnamed xs)
