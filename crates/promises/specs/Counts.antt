-- Lists by a test: how many pass it, and those that do, in their order.
use Rattle.std.specs.Prelude.{ℕ, ◌+◌, Bool, List, [], ◌∷◌}
use Rattle.numbers.specs.Pick.{pick}

unfoldable pub count : {A : Type 0} → (A → Bool) → List A → ℕ
count f [] = 0
count f (k ∷ ks) = pick (f k) 1 0 + count f ks

unfoldable pub those : {A : Type 0} → (A → Bool) → List A → List A
those f [] = []
those f (k ∷ ks) = pick (f k) (k ∷ those f ks) (those f ks)
