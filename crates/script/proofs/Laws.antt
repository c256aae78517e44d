-- A row told in parts: the first numbers, and one more; what a writer holds; the numbers of a frame by their places.
-- The argument: the hash of two rows one after the other, by induction.
use Prim.Native.Nat.{ℕ, zero, suc, ◌+◌, ◌≤◌, ◌<◌}
use mathlib.Core.Path.{◌≡◌, refl, ap, sym, ◌∙◌}
use mathlib.Core.List.{List, [], ◌∷◌, ◌++◌}
use lib.ListN.{length, take, get_or}
use Rattle.script.specs.Row.{mixed, hashed, told}
use Rattle.script.specs.declared.row.Row.{Row}
use Rattle.std.specs.Prelude.{Option, Some, None}
use Rattle.std.proofs.Common.{append_assoc, append-nil, inl, inr, subst}
use Rattle.std.proofs.lemmas.List.{take_more}
use Rattle.std.proofs.lemmas.Bool.{cases_lt}
use Rattle.std.specs.Fn.{Called}
use Rattle.std.specs.Array.{IsFromFnResultFrom}
use native.Mathlib.Omega.{arith}
use denote.Param.Members.{Mut}
use Rattle.script.specs.Frames.{number_at, numbers_from}
use Rattle.std.specs.Io.KnownBytes.{Appends}
use Rattle.script.specs.Line.{Grows}

-- one row after the other
hashed_append : (h : ℕ) (xs ys : List ℕ) → hashed h (xs ++ ys) ≡ hashed (hashed h xs) ys
unfolding hashed
hashed_append h [] ys = refl
hashed_append h (x ∷ xs) ys = hashed_append (mixed h x) xs ys

told_append : (row : Row) (xs ys : List ℕ) → told (told row xs) ys ≡ told row (xs ++ ys)
told_append row xs ys = rw (hashed_append row.hash xs ys)

-- what was told, and then the rest
pub told_part : (row after : Row) (xs ys : List ℕ) → after ≡ told row xs → told row (xs ++ ys) ≡ told after ys
told_part row after xs ys e = sym (told_append row xs ys) ∙ ap (λ (r : Row). told r ys) (sym e)

pub told_then : (row mid after : Row) (xs ys : List ℕ) → mid ≡ told row xs → after ≡ told mid ys → after ≡ told row (xs ++ ys)
told_then row mid after xs ys e f = f ∙ sym (told_part row mid xs ys e)

pub told_none : (row : Row) → told row [] ≡ row
unfolding hashed
told_none row = refl

-- the first numbers told, and one more
pub told_more : (row mid after : Row) (xs : List ℕ) (k : ℕ) → k < length xs → mid ≡ told row (take k xs) → after ≡ told mid (get_or xs k 0 ∷ [])
    → after ≡ told row (take (k + 1) xs)
told_more row mid after xs k h e f = rw (take_more xs k 0 h) (told_then row mid after (take k xs) (get_or xs k 0 ∷ []) e f)

-- ---- what a writer holds, one write after another
pub appends_then : (u v w : Option (List ℕ)) (a b : List ℕ) → Appends u v a → Appends v w b → Appends u w (a ++ b)
appends_then None v w a b x y = tt
appends_then (Some xs) None w a b x y = absurd x
appends_then (Some xs) (Some ys) None a b x y = y
appends_then (Some xs) (Some ys) (Some zs) a b x y = y ∙ ap (λ (t : List ℕ). t ++ b) x ∙ append_assoc xs a b

pub grows_none : (u : Option (List ℕ)) → Grows u u
grows_none None = record { bytes = []; behind = tt }
grows_none (Some xs) = record { bytes = []; behind = sym (append-nil xs) }

pub grows_then : (u v w : Option (List ℕ)) → Grows u v → Grows v w → Grows u w
grows_then u v w x y = record { bytes = x.bytes ++ y.bytes; behind = appends_then u v w x.bytes y.bytes x.behind y.behind }

pub grows_by : (u v : Option (List ℕ)) (bs : List ℕ) → Appends u v bs → Grows u v
grows_by u v bs a = record { bytes = bs; behind = a }

-- ---- numbers of a frame
-- what calls at one number after the other gave, where each leaves the closure as it was
pub made :
    {F : Type 0} (g : Mut F (ℕ × Unit {0}) ℕ) (f : F) (h : ℕ → ℕ) → ((i r : ℕ) (q : F) → Called g f (i, tt) r q → (r ≡ h i) × (q ≡ f))
    → (ys : List ℕ) (i n : ℕ) → IsFromFnResultFrom g f ys i n → (k : ℕ) → i ≤ k → k < i + n → get_or ys k 0 ≡ h k
made g f h each ys i zero m k a b = absurd (omega arith)
made g f h each ys i (suc n) (q, y, e, called, rest) k a b =
    let one = each i y q called in
    elim (cases_lt i k) [
      | inl l ↦ made g f h each ys (i + 1) n (subst (λ (p : _). IsFromFnResultFrom g p ys (i + 1) n) one.1 rest) k (omega arith) (omega arith)
      | inr m ↦ let here : k ≡ i = omega arith in rw here (e.1 0 ∙ one.0)
    ]

-- so many numbers are those at their places
pub numbers_by_place : (input xs : List ℕ) (from n : ℕ) → length xs ≡ n → ((k : ℕ) → k < n → get_or xs k 0 ≡ number_at input (from + k)) → xs ≡ numbers_from input from n
unfolding numbers_from
numbers_by_place input [] from zero l each = refl
numbers_by_place input [] from (suc n) l each = absurd (omega arith)
numbers_by_place input (x ∷ xs) from zero l each = absurd (omega arith)
numbers_by_place input (x ∷ xs) from (suc n) l each =
    let here : from + 0 ≡ from = omega arith in
    let first = each 0 (omega arith) in
    let rest : xs ≡ numbers_from input (from + 1) n =
    numbers_by_place input xs (from + 1) n (omega arith) (λ k h. let p : from + 1 + k ≡ from + suc k = omega arith in rw p (each (suc k) (omega arith)))
    in
    ap (λ (y : ℕ). y ∷ xs) (rw here at first) ∙ ap (λ (ys : List ℕ). number_at input from ∷ ys) rest
