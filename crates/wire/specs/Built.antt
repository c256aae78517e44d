-- A command of a kind and a row: 9 where there is no such kind, or a number does not fit its place.
use Rattle.std.specs.Prelude.{ℕ, List, ◌∷◌, length, take, Option, Some, None}
use Rattle.numbers.specs.Pick.{pick, both}
use Rattle.numbers.specs.Answers.{Answer, done, refused}
use Rattle.numbers.specs.declared.refusals.Refusal.TheVariants.{BadCommand}
use Rattle.command.specs.Layout.{known, layout}
use Rattle.command.specs.Bytes.{fits}
use Rattle.command.specs.Rows.{kind_of, row_of}
use Rattle.command.specs.declared.fields.Command.{Command}

-- a built command: 0, its kind and its row; else 9
abbrev pub answer_of : Option Command → Answer
answer_of (Some c) = done (kind_of c.fields ∷ row_of c)
answer_of None = refused BadCommand

-- from a kind and a row: the command of that kind that has the row's first numbers, if there is one
abbrev pub built_from : ℕ → List ℕ → Answer
built_from k xs = pick (both (known k) (fits (layout k) xs)) (done (k ∷ take (length (layout k)) xs)) (refused BadCommand)
