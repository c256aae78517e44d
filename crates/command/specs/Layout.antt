-- "Fields and sizes stand as in the packed structs": the widths in bytes of each command's numbers, in one table.
use Rattle.std.specs.Prelude.{ℕ, ◌+◌, Bool, List, [], ◌∷◌, leb, get_or}
use Rattle.numbers.specs.Pick.{pick, both}

abbrev pub fragment : List ℕ
fragment = 2 ∷ 2 ∷ 4 ∷ 4 ∷ 4 ∷ 4 ∷ []

-- the fields of command k, 1 to 12 as in public ENet; command 0 is none
abbrev pub table : List (List ℕ)
table =
    []
    ∷ (2 ∷ 2 ∷ [])
    ∷ (2 ∷ 1 ∷ 1 ∷ 4 ∷ 4 ∷ 4 ∷ 4 ∷ 4 ∷ 4 ∷ 4 ∷ 4 ∷ 4 ∷ 4 ∷ [])
    ∷ (2 ∷ 1 ∷ 1 ∷ 4 ∷ 4 ∷ 4 ∷ 4 ∷ 4 ∷ 4 ∷ 4 ∷ 4 ∷ 4 ∷ [])
    ∷ (4 ∷ [])
    ∷ []
    ∷ (2 ∷ [])
    ∷ (2 ∷ 2 ∷ [])
    ∷ fragment
    ∷ (2 ∷ 2 ∷ [])
    ∷ (4 ∷ 4 ∷ [])
    ∷ (4 ∷ 4 ∷ 4 ∷ [])
    ∷ fragment
    ∷ []

-- the numbers that name a command
abbrev pub known : ℕ → Bool
known k = both (leb 1 k) (leb k 12)

-- byte, channel and number, then the fields
unfoldable pub layout : ℕ → List ℕ
layout k = pick (known k) (1 ∷ 1 ∷ 2 ∷ get_or table k []) []

unfoldable pub total : List ℕ → ℕ
total [] = 0
total (w ∷ ws) = w + total ws

-- the bytes of command k, 0 where there is no such command
abbrev pub size_of : ℕ → ℕ
size_of k = total (layout k)

abbrev pub width_of : ℕ → ℕ → ℕ
width_of k j = get_or (layout k) j 0
