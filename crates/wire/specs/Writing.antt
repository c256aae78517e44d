-- The writer: 9 for "such a command, or one whose byte names another than its fields", and for a short buffer, which is then unchanged.
use Rattle.std.specs.Prelude.{ℕ, ◌+◌, ◌≡◌, Bool, List, [], ◌∷◌, leb, length, Option, Some, None}
use Rattle.numbers.specs.Pick.{pick, both}
use Rattle.numbers.specs.Answers.{Answer, done, refused}
use Rattle.numbers.specs.declared.refusals.Refusal.TheVariants.{BadCommand}
use Rattle.command.specs.Layout.{layout, size_of}
use Rattle.command.specs.Bytes.{put_row}
use Rattle.command.specs.Rows.{kind_of, row_of, names_fields}
use Rattle.command.specs.declared.fields.Command.{Command}

abbrev pub writable : List ℕ → ℕ → Command → Bool
writable s i c = both (names_fields c) (leb (i + size_of (kind_of c.fields)) (length s))

-- 0 and the next place; else 9
abbrev pub write_answer : List ℕ → ℕ → Command → Answer
write_answer s i c = pick (writable s i c) (done ((i + size_of (kind_of c.fields)) ∷ [])) (refused BadCommand)

-- the buffer afterwards
abbrev pub write_bytes : List ℕ → ℕ → Command → List ℕ
write_bytes s i c = pick (writable s i c) (put_row s i (layout (kind_of c.fields)) (row_of c)) s

abbrev pub answer_of : Option ℕ → Answer
answer_of (Some next) = done (next ∷ [])
answer_of None = refused BadCommand

-- what a write at i answers, and what the buffer s then holds
pub record Written (s : List ℕ) (i : ℕ) (c : Command) (r : Option ℕ) (after : List ℕ) : Type 0 where
  pub answer : answer_of r ≡ write_answer s i c
  pub buffer : after ≡ write_bytes s i c
