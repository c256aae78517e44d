-- What a judgement leaves: after a move nothing is marked; a taken group leaves the base at the first group of its window,
-- a multiple of a window's size; from such a base it moved fewer windows than are free.
-- The argument: the tests' answers pick the rule's case, and the rest is sums and remainders.
use mathlib.Core.Path.{◌≡◌, refl, ap, sym}
use mathlib.Core.Bool.{Bool, true, false}
use mathlib.Core.List.{List, [], ◌∷◌}
use Prim.Native.Nat.{ℕ, ◌+◌, ◌*◌, ◌/◌, ◌%◌, ◌<◌}
use native.Mathlib.Omega.{arith}
use lib.Dec.{eqb, ltb}
use lib.ListN.{get_or}
use borrow.Author.Tests.{eqb-true, leb-false, ltb-true, ltb-false}
use Rattle.numbers.specs.Pick.{pick}
use Rattle.numbers.specs.Modulo.{sum, minus}
use Rattle.numbers.specs.Limits.{window_size, free_windows}
use Rattle.numbers.specs.Answers.{Answer, done, numbers_of}
use Rattle.window.specs.Window.{first, counted, distant, marked, base_after, words_after, answer_after, windows_moved}
use Rattle.window.proofs.Marks.{marked-cleared}

module _ (base : ℕ) (words : List ℕ) (g : ℕ) where
  pub move_clears : distant base g ≡ false → eqb (first g) base ≡ false → (h : ℕ) → marked (words_after base words g) h ≡ false
  move_clears near elsewhere h = simp (near, elsewhere) (marked-cleared h)

  module _ (taken : answer_after base words g ≡ done (1 ∷ [])) where
    pub taken_near : distant base g ≡ false
    taken_near = go (distant base g) refl
      where
        go : (b : Bool) → distant base g ≡ b → distant base g ≡ false
        go true t = absurd (omega (arith, ap (λ (a : Answer). get_or (numbers_of a) 0 0) (simp t at taken)))
        go false t = t

    -- the base is then the first group of g's window
    pub taken_base : base_after base words g ≡ first g
    taken_base = go (eqb (first g) base) refl
      where
        near : distant base g ≡ false
        near = taken_near

        go : (b : Bool) → eqb (first g) base ≡ b → base_after base words g ≡ first g
        go true t = simp (near, t) (again (marked words g) refl)
          where
            again : (m : Bool) → marked words g ≡ m → pick (marked words g) base base ≡ first g
            again true m = simp m (sym (eqb-true (first g) base t))
            again false m = simp m (sym (eqb-true (first g) base t))
        go false t = simp (near, t)

    pub taken_multiple : base_after base words g % window_size ≡ 0
    taken_multiple = rw taken_base (omega arith)

    pub taken_moved : base % window_size ≡ 0 → base < 65536 → g < 65536 → windows_moved base (base_after base words g) < free_windows
    taken_moved even small fits = rw taken_base (omega (arith, reach (ltb g base) refl))
      where
        near : counted base g < base + window_size * free_windows
        near = leb-false (base + window_size * free_windows) (counted base g) taken_near

        reach : (b : Bool) → ltb g base ≡ b → minus 16 (first g) base / window_size < free_windows
        reach true t = let low = ltb-true g base t in let far : g + 65536 < base + window_size * free_windows = simp t at near in omega arith
        reach false t = let low = ltb-false g base t in let far : g < base + window_size * free_windows = simp t at near in omega arith

    -- so far, and no other way
    pub taken_by : base % window_size ≡ 0 → base < 65536 → g < 65536
        → base_after base words g ≡ sum 16 base (window_size * windows_moved base (base_after base words g))
    taken_by even small fits = rw taken_base (omega arith)
