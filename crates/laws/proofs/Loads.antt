-- What a list of slots carries: sums over lists, and over slots that change without their load.
-- The argument: by induction on the list; sums modulo 2^32 by arithmetic.
use Prim.Native.Nat.{ℕ, ◌+◌, ◌<◌, ◌%◌, ◌^◌}
use mathlib.Core.Path.{◌≡◌, refl, ap}
use mathlib.Core.Bool.{Bool, true, false}
use mathlib.Core.List.{List, [], ◌∷◌, ◌++◌}
use native.Mathlib.Numerals.{add-one}
use native.Mathlib.Omega.{arith}
use lib.Dec.{eqb, ltb}
use lib.ListN.{length, take, drop, get_or, set}
use lib.Seq.{split_at, get_or-set_same, get_or-set_other, set_out}
use borrow.Author.Tests.{eqb-true, eqb-false, ltb-true, ltb-false}
use Rattle.numbers.specs.Pick.{pick}
use Rattle.numbers.specs.Modulo.{sum, minus}
use Rattle.cells.specs.Runs.{has, without}
use Rattle.record.specs.Fresh.{no_outgoing}
use Rattle.record.specs.declared.groups.Outgoing.{Outgoing}
use Rattle.laws.specs.Transit.{load, loads, limit}

-- ---- over lists
pub loads_append : (slots : List Outgoing) (xs ys : List ℕ) → loads slots (xs ++ ys) ≡ loads slots xs + loads slots ys
unfolding loads
loads_append slots [] ys = omega arith
loads_append slots (x ∷ xs) ys = rw (loads_append slots xs ys) (omega arith)

pub loads-without : (slots : List Outgoing) (xs : List ℕ) (k : ℕ) → k < length xs
    → loads slots xs ≡ load (get_or slots (get_or xs k 0) no_outgoing) + loads slots (without xs k)
unfolding loads
loads-without slots xs k h =
    let e : xs ≡ take k xs ++ (get_or xs k 0 ∷ drop (k + 1) xs) = rw add-one (split_at xs k 0 h) in
    omega (
      arith,
      ap (loads slots) e,
      loads_append slots (take k xs) (get_or xs k 0 ∷ drop (k + 1) xs),
      loads_append slots (take k xs) (drop (k + 1) xs),
    )

-- ---- over slots
pub loads_same : (a b : List Outgoing) → ((k : ℕ) → load (get_or a k no_outgoing) ≡ load (get_or b k no_outgoing)) → (xs : List ℕ) → loads a xs ≡ loads b xs
unfolding loads
loads_same a b h [] = refl
loads_same a b h (x ∷ xs) = omega (arith, h x, loads_same a b h xs)

-- one slot anew: any property that the others and the new one have
pub set_any : (P : Outgoing → Type 0) (slots : List Outgoing) (s : ℕ) (o : Outgoing) (k : ℕ) → P (get_or slots k no_outgoing) → (k ≡ s → P o)
    → P (get_or (set slots s o) k no_outgoing)
set_any P slots s o k h n = go (eqb k s) refl (ltb s (length slots)) refl
  where
    go : (b : Bool) → eqb k s ≡ b → (c : Bool) → ltb s (length slots) ≡ c → P (get_or (set slots s o) k no_outgoing)
    go true e true t =
        let z : k ≡ s = eqb-true k s e in
        rw (z, get_or-set_same slots s o no_outgoing (ltb-true s (length slots) t)) (n z)
    go true e false t = rw (set_out slots s o (ltb-false s (length slots) t)) h
    go false e c t = rw (get_or-set_other slots s k o no_outgoing (eqb-false k s e)) h

-- a slot that the list does not name
pub loads_other : (slots : List Outgoing) (s : ℕ) (o : Outgoing) (xs : List ℕ) → has xs s ≡ false → loads (set slots s o) xs ≡ loads slots xs
unfolding loads
loads_other slots s o [] e = refl
loads_other slots s o (x ∷ xs) e = go (loads_other slots s o xs) (eqb x s) refl e
  where
    go : (has xs s ≡ false → loads (set slots s o) xs ≡ loads slots xs) → (b : Bool) → eqb x s ≡ b → pick b true (has xs s) ≡ false
        → load (get_or (set slots s o) x no_outgoing) + loads (set slots s o) xs ≡ load (get_or slots x no_outgoing) + loads slots xs
    go rest true t e = let z : ◌≡◌ {A = ℕ} 0 1 = cc in absurd (omega arith)
    go rest false t e = omega (arith, ap load (get_or-set_other slots s x o no_outgoing (eqb-false x s t)), rest e)

-- ---- modulo 2^32
pub more : (t r n : ℕ) → t ≡ r % 2 ^ 32 → sum 32 t n ≡ (r + n) % 2 ^ 32
more t r n e = omega arith

pub less : (t r n : ℕ) → n < limit → t ≡ (n + r) % 2 ^ 32 → minus 32 t n ≡ r % 2 ^ 32
less t r n h e = omega arith
