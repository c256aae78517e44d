-- Three lists after one another are empty where each counts none. The argument: by cases on the lists.
use Rattle.std.proofs.Common.{◌≡◌, ℕ, false, eqb, List, [], ◌∷◌, ◌++◌, length, sym, refl, ap, ◌∙◌, arith, ne_eqb}
use Rattle.cells.specs.Runs.{is_empty}

some : (xs ys : List ℕ) → (length xs ≡ 0 → ⊥) → is_empty (xs ++ ys) ≡ false
some [] ys h = absurd (h refl)
some (x ∷ xs) ys h = refl

none : (xs ys : List ℕ) → length xs ≡ 0 → xs ++ ys ≡ ys
none [] ys h = refl
none (x ∷ xs) ys h = absurd (omega arith)

counted : (xs : List ℕ) → eqb (length xs) 0 ≡ is_empty xs
counted [] = refl
counted (x ∷ xs) = ne_eqb (length (x ∷ xs)) 0 (λ e. omega (arith, e))

-- n, m and k are what they count
module _ (xs ys zs : List ℕ) (n : ℕ) (a : n ≡ length xs) where
  pub some_first : (n ≡ 0 → ⊥) → false ≡ is_empty (xs ++ (ys ++ zs))
  some_first h = sym (some xs (ys ++ zs) (λ e. h (a ∙ e)))

  module _ (d : n ≡ 0) (m : ℕ) (b : m ≡ length ys) where
    pub some_second : (m ≡ 0 → ⊥) → false ≡ is_empty (xs ++ (ys ++ zs))
    some_second h = sym (ap is_empty (none xs (ys ++ zs) (sym a ∙ d)) ∙ some ys zs (λ e. h (b ∙ e)))

    pub by_third : m ≡ 0 → (k : ℕ) → k ≡ length zs → eqb k 0 ≡ is_empty (xs ++ (ys ++ zs))
    by_third e k c =
        ap (λ (x : ℕ). eqb x 0) c ∙ counted zs ∙ ap is_empty (sym (none xs (ys ++ zs) (sym a ∙ d) ∙ none ys zs (sym b ∙ e)))
