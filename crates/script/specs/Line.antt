-- "for ops 1 to 14 and 18, ` # ` and the record's hash after the call" (SCRIPT.md, "A line"); then the line's end.
use Rattle.std.specs.Prelude.{ℕ, List, [], ◌∷◌, ◌++◌, Bool, Option, ◌&&◌, ◌||◌, eqb, ltb, decimal}
use Rattle.std.specs.Io.KnownBytes.{Appends}
use Rattle.numbers.specs.Pick.{pick}

abbrev pub is_call : ℕ → Bool
is_call op = (ltb 0 op && ltb op 15) || eqb op 18

abbrev pub marked : ℕ → ℕ → List ℕ
marked op hash = pick (is_call op) (32 ∷ 35 ∷ 32 ∷ decimal hash) []

abbrev pub ending : ℕ → ℕ → List ℕ
ending op hash = marked op hash ++ (10 ∷ [])

-- what a writer holds after a call, an error too: what it held before, and behind it some bytes
pub record Grows (old new : Option (List ℕ)) : Type 0 where
  pub bytes : List ℕ
  pub behind : Appends old new bytes
