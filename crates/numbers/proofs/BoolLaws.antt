-- `both` holds where its two sides do, and may be grouped either way; two tests say the same where each equation gives the other. By cases.
use Rattle.std.proofs.Common.{◌≡◌, ℕ, Bool, true, false, eqb, refl, eq-eqb, ne_eqb, eqb-true}
use borrow.Author.Tests.{eqb-false}
use Rattle.numbers.specs.Pick.{both}

pub both_left : (a b : Bool) → both a b ≡ true → a ≡ true
both_left true b e = refl
both_left false b e = e

pub both_right : (a b : Bool) → both a b ≡ true → b ≡ true
both_right true b e = e
both_right false b e = cc

pub both_true : (a b : Bool) → a ≡ true → b ≡ true → both a b ≡ true
both_true a b p q = rw (p, q)

pub both_false : (a b : Bool) → b ≡ false → both a b ≡ false
both_false true b e = e
both_false false b e = refl

pub both_assoc : (a b c : Bool) → both (both a b) c ≡ both a (both b c)
both_assoc true b c = refl
both_assoc false b c = refl

pub both_with_true : (a : Bool) → both a true ≡ a
both_with_true true = refl
both_with_true false = refl

pub both_with_false : (a : Bool) → both a false ≡ false
both_with_false a = both_false a false refl

pub same_test : (a b c d : ℕ) → (a ≡ b → c ≡ d) → (c ≡ d → a ≡ b) → eqb a b ≡ eqb c d
same_test a b c d f g = go (eqb c d) refl
  where
    go : (t : Bool) → eqb c d ≡ t → eqb a b ≡ t
    go true t = eq-eqb a b (g (eqb-true c d t))
    go false t = ne_eqb a b (λ e. eqb-false c d t (f e))
