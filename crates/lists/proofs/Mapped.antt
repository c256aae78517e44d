-- A reading of every cell goes past what the operations make of a list: reading first or altering first comes to the same.
-- The argument: by induction on the list for take and drop; the others are made of these, and a choice by length is the same choice.
use Prim.Native.Nat.{ℕ, zero, suc, ◌+◌}
use mathlib.Core.Path.{◌≡◌, refl, ap, ◌∙◌}
use mathlib.Core.Bool.{Bool, true, false}
use mathlib.Core.List.{List, [], ◌∷◌, ◌++◌, map, map-append}
use lib.Dec.{ltb, leb}
use lib.ListN.{length, take, drop, length-map}
use Rattle.numbers.specs.Pick.{pick}
use Rattle.cells.specs.Runs.{pushed, inserted, without, prepended, moved_to, over}

module _ (f : ℕ → ℕ) where
  pub map-take : (n : ℕ) (xs : List ℕ) → map f (take n xs) ≡ take n (map f xs)
  map-take zero xs = refl
  map-take (suc n) [] = refl
  map-take (suc n) (x ∷ xs) = ap (λ (r : List ℕ). f x ∷ r) (map-take n xs)

  pub map-drop : (n : ℕ) (xs : List ℕ) → map f (drop n xs) ≡ drop n (map f xs)
  map-drop zero xs = refl
  map-drop (suc n) [] = refl
  map-drop (suc n) (x ∷ xs) = map-drop n xs

  map-pick : (b : Bool) (xs ys : List ℕ) → map f (pick b xs ys) ≡ pick b (map f xs) (map f ys)
  map-pick true xs ys = refl
  map-pick false xs ys = refl

  pub map-over : (xs b : List ℕ) → map f (over xs b) ≡ over (map f xs) (map f b)
  map-over xs b = map-append f xs (drop (length xs) b) ∙ rw (map-drop, length-map)

  pub map-pushed : (n : ℕ) (xs : List ℕ) (s : ℕ) → map f (pushed n xs s) ≡ pushed n (map f xs) (f s)
  map-pushed n xs s = map-pick (ltb (length xs) n) (xs ++ (s ∷ [])) xs ∙ rw (map-append, length-map)

  pub map-inserted : (n : ℕ) (xs : List ℕ) (i s : ℕ) → map f (inserted n xs i s) ≡ inserted n (map f xs) i (f s)
  map-inserted n xs i s =
      map-pick (ltb (length xs) n) (take i xs ++ (s ∷ drop i xs)) xs ∙ rw (map-append, map-take, map-drop, length-map)

  pub map-without : (xs : List ℕ) (i : ℕ) → map f (without xs i) ≡ without (map f xs) i
  map-without xs i = rw (map-append, map-take, map-drop)

  pub map-prepended : (n : ℕ) (run xs : List ℕ) → map f (prepended n run xs) ≡ prepended n (map f run) (map f xs)
  map-prepended n run xs = map-pick (leb (length run + length xs) n) (run ++ xs) xs ∙ rw (map-append, length-map run f, length-map xs f)

  pub map_moved : (n k : ℕ) (run xs : List ℕ) → map f (moved_to n k run xs) ≡ moved_to n k (map f run) (map f xs)
  map_moved n k run xs =
      map-pick (leb (length xs + length (take k run)) n) (xs ++ take k run) xs ∙ rw (map-append, ← map-take, length-map xs f, length-map (take k run) f)
