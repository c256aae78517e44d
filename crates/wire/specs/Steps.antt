-- The reader's two steps: which kind stands whole at a place, and the place after a built command.
use Rattle.std.specs.Prelude.{ℕ, List, ◌∷◌, eqb, pos, Option, Some, None}
use Rattle.numbers.specs.Pick.{pick}
use Rattle.numbers.specs.Answers.{Answer, says, refused}
use Rattle.numbers.specs.declared.refusals.Refusal.TheVariants.{BadCommand}
use Rattle.wire.specs.Reading.{kind_at, readable}

abbrev pub whole_kind : List ℕ → ℕ → Option ℕ
whole_kind s i = pick (readable s i) (Some (kind_at s i)) None

abbrev pub placed : ℕ → Answer → Answer
placed n a = pick (eqb a.number 0) (says (pos n ∷ a.values)) (refused BadCommand)
