-- The row of a frame by its places; what is built of a kind and a row that were read; and a kind past the last is refused.
-- The argument: induction on the row; a kind past the last is not known.
use Prim.Native.Nat.{ℕ, zero, suc, ◌+◌, ◌<◌}
use mathlib.Core.Path.{◌≡◌, refl, ap, ◌∙◌}
use mathlib.Core.List.{List, [], ◌∷◌}
use mathlib.Core.Bool.{Bool}
use native.Mathlib.Omega.{arith}
use lib.ListN.{length, get_or}
use Rattle.numbers.specs.Pick.{both}
use Rattle.numbers.specs.Answers.{refused}
use Rattle.numbers.specs.declared.refusals.Refusal.TheVariants.{BadCommand}
use Rattle.command.specs.Layout.{layout}
use Rattle.command.specs.Bytes.{fits}
use Rattle.command.proofs.LayoutLaws.{not_known}
use Rattle.wire.specs.Built.{built_from}
use Rattle.wire.proofs.ShapeLaws.{built_none}
use Rattle.script.specs.Frames.{number_at}
use Rattle.script_commands.specs.Commands.{place_of, row_from, row_at, built_at}

-- the row is the numbers at its places
pub row_by_place : (input xs : List ℕ) (head tail n j : ℕ) → length xs ≡ n → ((k : ℕ) → k < n → get_or xs k 0 ≡ number_at input (place_of head tail (j + k))) → xs ≡ row_from input head tail n j
unfolding row_from
row_by_place input [] head tail zero j l each = refl
row_by_place input [] head tail (suc n) j l each = absurd (omega arith)
row_by_place input (x ∷ xs) head tail zero j l each = absurd (omega arith)
row_by_place input (x ∷ xs) head tail (suc n) j l each =
    let here : j + 0 ≡ j = omega arith in
    let first = each 0 (omega arith) in
    let rest : xs ≡ row_from input head tail n (j + 1) =
    row_by_place input xs head tail n (j + 1) (omega arith) (λ k h. let p : j + 1 + k ≡ j + suc k = omega arith in rw p (each (suc k) (omega arith)))
    in
    ap (λ (y : ℕ). y ∷ xs) (rw here at first) ∙ ap (λ (ys : List ℕ). number_at input (place_of head tail j) ∷ ys) rest

-- what is built of a kind and a row that were read
pub built_at_lem : (input : List ℕ) (head tail k : ℕ) (xs : List ℕ) → k ≡ number_at input (head + 3) → xs ≡ row_at input head tail
    → built_from k xs ≡ built_at input head tail
built_at_lem input head tail k xs p q =
    ap (λ (n : ℕ). built_from n xs) p ∙ ap (built_from (number_at input (head + 3))) q

-- the builder knows no kind past the last
pub past_refused : (k : ℕ) (xs : List ℕ) → 12 < k → refused BadCommand ≡ built_from k xs
past_refused k xs h = built_none k xs (ap (λ (b : Bool). both b (fits (layout k) xs)) (not_known k (omega arith)))
