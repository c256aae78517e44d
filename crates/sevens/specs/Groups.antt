-- C-12: "numbers in groups of seven bits, low group first, 128 added to each but the last: a number ends at the first group below 128, five groups
-- at most, and only the shortest form is read."
use Rattle.std.specs.Prelude.{ℕ, zero, suc, ◌+◌, ◌*◌, ◌-◌, ◌/◌, ◌%◌, List, [], ◌∷◌, ltb, eqb, Option, Some, None}
use Rattle.numbers.specs.Pick.{pick}
use Rattle.sevens.specs.declared.Grouped.{Grouped}

abbrev pub most_groups : ℕ
most_groups = 5

-- the groups of a number, n at most
unfoldable pub groups : ℕ → ℕ → List ℕ
groups zero x = []
groups (suc n) x = pick (ltb x 128) (x ∷ []) ((x % 128 + 128) ∷ groups n (x / 128))

abbrev pub written : ℕ → List ℕ
written x = groups most_groups x

-- the number v, read in k groups
abbrev pub grouped : ℕ → ℕ → Option Grouped
grouped v k = Some (record { value = v; groups = k })

-- a group with 128 added, and what the rest gives: nothing is added by a rest of 0, and the form without it is shorter
abbrev pub below : ℕ → Option Grouped → Option Grouped
below b (Some g) = pick (eqb g.value 0) None (grouped (b - 128 + 128 * g.value) (g.groups + 1))
below b None = None

-- the number that bytes begin with, in n groups at most, and in how many
unfoldable pub number_in : ℕ → List ℕ → Option Grouped
number_in zero bs = None
number_in (suc n) [] = None
number_in (suc n) (b ∷ bs) = pick (ltb b 128) (grouped b 1) (below b (number_in n bs))

abbrev pub read : List ℕ → Option Grouped
read bs = number_in most_groups bs

-- the number read, or 0
abbrev pub value_of : Option Grouped → ℕ
value_of (Some g) = g.value
value_of None = 0

-- the groups that it was read in, or 0
abbrev pub groups_of : Option Grouped → ℕ
groups_of (Some g) = g.groups
groups_of None = 0
