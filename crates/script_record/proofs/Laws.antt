-- The walk over the table of the record's places: the row so far, and one place more. The argument: a row told in parts; the row of two tables one after the
-- other.
use Prim.Native.Nat.{ℕ, ◌+◌, ◌≤◌, ◌<◌}
use mathlib.Core.Path.{◌≡◌, refl, ap, sym, ◌∙◌}
use mathlib.Core.List.{List, [], ◌∷◌, ◌++◌, append-nil}
use mathlib.Core.Bool.{Bool, true, false}
use lib.ListN.{length, take, get_or}
use lib.Seq.{take_all}
use mir.Val.{bool_byte}
use Rattle.std.proofs.lemmas.List.{take_more}
use Rattle.numbers.specs.Pick.{pick}
use Rattle.order.specs.Table.{nowhere, shown}
use Rattle.order.specs.declared.Place.{Place}
use Rattle.script.specs.Row.{told}
use Rattle.script.specs.declared.row.Row.{Row}
use Rattle.script.proofs.Laws.{told_then, told_none}

-- one table after the other
shown_append : (xs ys : List Place) → shown (xs ++ ys) ≡ shown xs ++ shown ys
unfolding shown
shown_append [] ys = refl
shown_append (x ∷ xs) ys = go x.is_written (shown_append xs ys)
  where
    go : (b : Bool) → shown (xs ++ ys) ≡ shown xs ++ shown ys
        → pick b (x.number ∷ shown (xs ++ ys)) (shown (xs ++ ys)) ≡ pick b (x.number ∷ shown xs) (shown xs) ++ shown ys
    go true e = ap (λ (t : List ℕ). x.number ∷ t) e
    go false e = e

pub place_none : (row : Row) → row ≡ told row (shown [])
unfolding shown
place_none row = sym (told_none row)

-- one place more: its number where it is written
pub place_more : (row mid after : Row) (es : List Place) (k : ℕ) → k < length es → mid ≡ told row (shown (take k es))
    → after ≡ pick (get_or es k nowhere).is_written (told mid ((get_or es k nowhere).number ∷ [])) mid
    → after ≡ told row (shown (take (k + 1) es))
unfolding shown
place_more row mid after es k h m e =
    rw (take_more es k nowhere h, shown_append) (go (get_or es k nowhere).is_written e)
  where
    go : (b : Bool) → after ≡ pick b (told mid ((get_or es k nowhere).number ∷ [])) mid
        → after ≡ told row (shown (take k es) ++ pick b ((get_or es k nowhere).number ∷ []) [])
    go true q = told_then row mid after (shown (take k es)) ((get_or es k nowhere).number ∷ []) m q
    go false q = rw append-nil (q ∙ m)

pub place_all : (row after : Row) (es : List Place) (k : ℕ) → length es ≤ k → after ≡ told row (shown (take k es)) → after ≡ told row (shown es)
place_all row after es k h e = e ∙ ap (λ (t : List Place). told row (shown t)) (take_all k es h)

-- a truth value as a number
pub bit : (b : Bool) → bool_byte b ≡ pick b 1 0
bit true = refl
bit false = refl
