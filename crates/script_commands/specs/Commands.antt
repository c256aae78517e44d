-- A command in a frame: "command byte, channel, number, kind" from a place of its numbers on, and "the kind's fields in its struct's order"
-- from another (SCRIPT.md, ops 6, 23 and 31). The second is named by the place 3 before it, where the row of all of them would begin.
use Rattle.std.specs.Prelude.{ℕ, zero, suc, ◌+◌, Bool, List, [], ◌∷◌, ltb, eqb}
use Rattle.numbers.specs.Pick.{pick}
use Rattle.numbers.specs.Answers.{Answer, done}
use Rattle.wire.specs.Built.{built_from}
use Rattle.script.specs.Frames.{number_at}

-- number j of the row
abbrev pub place_of : ℕ → ℕ → ℕ → ℕ
place_of head tail j = pick (ltb j 3) head tail + j

-- n numbers of the row, from number j on
unfoldable pub row_from : List ℕ → ℕ → ℕ → ℕ → ℕ → List ℕ
row_from input head tail zero j = []
row_from input head tail (suc n) j = number_at input (place_of head tail j) ∷ row_from input head tail n (j + 1)

abbrev pub row_at : List ℕ → ℕ → ℕ → List ℕ
row_at input head tail = row_from input head tail 16 0

-- what is built of kind and row
abbrev pub built_at : List ℕ → ℕ → ℕ → Answer
built_at input head tail = built_from (number_at input (head + 3)) (row_at input head tail)

abbrev pub is_done : Answer → Bool
is_done a = eqb a.number 0

-- a command, or a ping of channel 0 and number 0 where none was built: its kind and its row
abbrev pub or_ping : Answer → Answer
or_ping a = pick (is_done a) a (done (5 ∷ 0 ∷ 0 ∷ 0 ∷ []))
