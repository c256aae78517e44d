-- The reader: 9 for "command 0 or 13 to 15, or bytes short", nothing else; the whole command byte is kept.
use Rattle.std.specs.Prelude.{ℕ, ◌+◌, ◌%◌, Bool, List, ◌∷◌, leb, length, get_or, Option, Some, None}
use Rattle.numbers.specs.Pick.{pick, both}
use Rattle.numbers.specs.Answers.{Answer, done, refused}
use Rattle.numbers.specs.declared.refusals.Refusal.TheVariants.{BadCommand}
use Rattle.command.specs.Layout.{known, layout, size_of}
use Rattle.command.specs.Bytes.{row_at}
use Rattle.command.specs.Rows.{kind_of, row_of}
use Rattle.wire.specs.declared.reader.Reading.{Reading}

-- the number of the command whose first byte stands at i: "The low four bits"
abbrev pub kind_at : List ℕ → ℕ → ℕ
kind_at s i = get_or s i 0 % 16

abbrev pub readable : List ℕ → ℕ → Bool
readable s i = both (known (kind_at s i)) (leb (i + size_of (kind_at s i)) (length s))

-- 0, the next place, the kind and the command's row; else 9
abbrev pub read_at : List ℕ → ℕ → Answer
read_at s i =
    pick (readable s i) (done ((i + size_of (kind_at s i)) ∷ kind_at s i ∷ row_at s i (layout (kind_at s i)))) (refused BadCommand)

abbrev pub answer_of : Option Reading → Answer
answer_of (Some r) = done (r.next ∷ kind_of r.command.fields ∷ row_of r.command)
answer_of None = refused BadCommand
