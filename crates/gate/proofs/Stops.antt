-- Where code that asks three things one after the other stops. By the equations.
use mathlib.Core.Path.{◌≡◌, sym, ap, ◌∙◌}
use mathlib.Core.Bool.{Bool, true, false}
use Rattle.numbers.specs.Pick.{both}

module _ (a b c s : Bool) (e : s ≡ both a (both b c)) where
  pub first_no : a ≡ false → false ≡ s
  first_no p = sym (e ∙ ap (λ (x : Bool). both x (both b c)) p)

  module _ (p : a ≡ true) where
    pub second_no : b ≡ false → false ≡ s
    second_no q = sym (e ∙ ap (λ (x : Bool). both x (both b c)) p ∙ ap (λ (x : Bool). both x c) q)

    pub third_says : b ≡ true → c ≡ s
    third_says q = sym (e ∙ ap (λ (x : Bool). both x (both b c)) p ∙ ap (λ (x : Bool). both x c) q)
