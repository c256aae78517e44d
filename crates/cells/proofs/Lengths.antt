-- A list that fits its pool fits it after every operation.
-- The argument: each operation that makes a list longer tests for room first.
use Prim.Native.Nat.{ℕ, ◌+◌, ◌≤◌}
use mathlib.Core.Path.{◌≡◌, refl}
use mathlib.Core.List.{List, [], ◌∷◌, ◌++◌}
use mathlib.Core.Bool.{Bool, true, false}
use native.Mathlib.Omega.{arith}
use lib.Dec.{ltb, leb}
use lib.ListN.{length, take, drop, length-append, length-take, length-drop}
use borrow.Author.Tests.{ltb-true, leb-true}
use Rattle.numbers.specs.Pick.{pick}
use Rattle.cells.specs.Runs.{pushed, inserted, without, prepended, moved_from, moved_to}

module _ (n : ℕ) (xs : List ℕ) (h : length xs ≤ n) where
  pub pushed_fits : (s : ℕ) → length (pushed n xs s) ≤ n
  pushed_fits s = go (ltb (length xs) n) refl
    where
      go : (b : Bool) → ltb (length xs) n ≡ b → length (pick b (xs ++ (s ∷ [])) xs) ≤ n
      go true t = omega (arith, ltb-true (length xs) n t, length-append xs (s ∷ []))
      go false t = h

  pub inserted_fits : (i s : ℕ) → length (inserted n xs i s) ≤ n
  inserted_fits i s = go (ltb (length xs) n) refl
    where
      go : (b : Bool) → ltb (length xs) n ≡ b → length (pick b (take i xs ++ (s ∷ drop i xs)) xs) ≤ n
      go true t = omega (arith, ltb-true (length xs) n t, length-append (take i xs) (s ∷ drop i xs), length-take i xs, length-drop i xs)
      go false t = h

  pub without_fits : (i : ℕ) → length (without xs i) ≤ n
  without_fits i = omega (arith, length-append (take i xs) (drop (i + 1) xs), length-take i xs, length-drop (i + 1) xs)

  pub prepended_fits : (run : List ℕ) → length (prepended n run xs) ≤ n
  prepended_fits run = go (leb (length run + length xs) n) refl
    where
      go : (b : Bool) → leb (length run + length xs) n ≡ b → length (pick b (run ++ xs) xs) ≤ n
      go true t = omega (arith, leb-true (length run + length xs) n t, length-append run xs)
      go false t = h

  pub moved_to_fits : (k : ℕ) (from : List ℕ) → length (moved_to n k from xs) ≤ n
  moved_to_fits k from = go (leb (length xs + length (take k from)) n) refl
    where
      go : (b : Bool) → leb (length xs + length (take k from)) n ≡ b → length (pick b (xs ++ take k from) xs) ≤ n
      go true t = omega (arith, leb-true (length xs + length (take k from)) n t, length-append xs (take k from))
      go false t = h

  pub moved_from_fits : (room k : ℕ) (to : List ℕ) → length (moved_from room k xs to) ≤ n
  moved_from_fits room k to = go (leb (length to + length (take k xs)) room)
    where
      go : (b : Bool) → length (pick b (drop k xs) xs) ≤ n
      go true = omega (arith, length-drop k xs)
      go false = h
