-- The walks: a turn of each loop, and what a whole walk says by the rule.
-- The argument: a walk is a conjunction, so that of the test leaves it, and walks one after another are one walk over the lists joined.
use Prim.Native.Nat.{ℕ, ◌+◌}
use mathlib.Core.Path.{◌≡◌, refl, ◌∙◌}
use mathlib.Core.List.{List, [], ◌∷◌, ◌++◌}
use mathlib.Core.Bool.{Bool, true, false, not}
use lib.Dec.{ltb}
use lib.ListN.{length, set, replicate}
use Rattle.numbers.proofs.BoolLaws.{both_assoc, both_with_true}
use Rattle.numbers.specs.Pick.{pick, both}
use Rattle.cells.specs.Free.{is_marked, marked_all, scanned, exist, once}
use Rattle.cells.proofs.Scans.{scan_rule}
use Rattle.record.specs.Damage.{all}
use Rattle.damage.specs.CodeInWalks.{passes}

-- a walk that asks nothing of its slots
abbrev pub any : ℕ → Bool
any s = true

-- Bool algebra
part : (t k f n a : Bool) → both t (both k (both f (both n a))) ≡ both (both t (both k n)) (both f a)
part false k f n a = refl
part true false f n a = refl
part true true true n a = refl
part true true false true a = refl
part true true false false a = refl

-- the test leaves the walk
pub pass_split : (f : ℕ → Bool) (m xs : List ℕ) → passes f m xs ≡ both (passes any m xs) (all f xs)
unfolding passes all
pass_split f m [] = refl
pass_split f m (x ∷ xs) =
    rw (pass_split f (set m x 1) xs)
    (part (ltb x (length m)) (not (is_marked m x)) (f x) (passes any (set m x 1) xs) (all f xs))

assoc4 : (t k f n a : Bool) → both t (both k (both f (both n a))) ≡ both (both t (both k (both f n))) a
assoc4 false k f n a = refl
assoc4 true false f n a = refl
assoc4 true true false n a = refl
assoc4 true true true n a = refl

-- two walks, one after another
pub pass_append : (f : ℕ → Bool) (m xs ys : List ℕ) → passes f m (xs ++ ys) ≡ both (passes f m xs) (passes f (marked_all m xs) ys)
unfolding passes marked_all
pass_append f m [] ys = refl
pass_append f m (x ∷ xs) ys =
    rw (pass_append f (set m x 1) xs ys)
    (assoc4 (ltb x (length m)) (not (is_marked m x)) (f x) (passes f (set m x 1) xs) (passes f (marked_all (set m x 1) xs) ys))

pub all_append : (f : ℕ → Bool) (xs ys : List ℕ) → all f (xs ++ ys) ≡ both (all f xs) (all f ys)
unfolding all
all_append f [] ys = refl
all_append f (x ∷ xs) ys = rw (all_append f xs ys, both_assoc)

pub middle : (a b c d : Bool) → both (both a b) (both c d) ≡ both (both a c) (both b d)
middle false b c d = refl
middle true true c d = refl
middle true false true d = refl
middle true false false d = refl

-- two tests at once
pub all_both : (f g : ℕ → Bool) (xs : List ℕ) → all (λ (s : ℕ). both (f s) (g s)) xs ≡ both (all f xs) (all g xs)
unfolding all
all_both f g [] = refl
all_both f g (x ∷ xs) = rw (all_both f g xs) (middle (f x) (g x) (all f xs) (all g xs))

all_any : (xs : List ℕ) → all any xs ≡ true
unfolding all
all_any [] = refl
all_any (x ∷ xs) = all_any xs

-- a walk that asks two things of each slot, and one that asks one
pub pass_two : (f g : ℕ → Bool) (m xs : List ℕ)
    → passes (λ (s : ℕ). both (f s) (g s)) m xs ≡ both (passes any m xs) (both (all f xs) (all g xs))
pass_two f g m xs = pass_split (λ (s : ℕ). both (f s) (g s)) m xs ∙ rw (all_both f g xs)

pub pass_one : (f : ℕ → Bool) (m xs : List ℕ) → passes (λ (s : ℕ). both (f s) true) m xs ≡ both (passes any m xs) (all f xs)
pass_one f m xs = pass_two f any m xs ∙ rw (all_any xs, both_with_true (all f xs))

-- a walk that asks nothing of its slots is the scan of slots
any_scan : (m xs : List ℕ) → passes any m xs ≡ (scanned m xs).ok
unfolding passes scanned
any_scan m [] = refl
any_scan m (x ∷ xs) = go (ltb x (length m)) (is_marked m x) (any_scan (set m x 1) xs)
  where
    go : (t k : Bool) → passes any (set m x 1) xs ≡ (scanned (set m x 1) xs).ok
        → both t (both (not k) (passes any (set m x 1) xs))
        ≡ (pick (both t (not k)) (scanned (set m x 1) xs) (record { ok = false; marks = m })).ok
    go true true e = refl
    go true false e = e
    go false k e = refl

-- from no marks at all: each exists, none stands twice
pub new_rule : (n : ℕ) (xs : List ℕ) → passes any (replicate n 0) xs ≡ both (exist n xs) (once xs)
new_rule n xs = any_scan (replicate n 0) xs ∙ scan_rule n xs
