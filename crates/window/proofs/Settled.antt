-- Any two results that the contract of `judge` allows are equal.
-- The argument: `answer_of` tells the verdicts apart, by cases, and the base and the words are given.
use mathlib.Core.Path.{◌≡◌, refl, ap, sym, ◌∙◌}
use mathlib.Core.List.{List}
use Prim.Native.Nat.{ℕ, ◌+◌, ◌*◌}
use lib.ListN.{get_or}
use native.Mathlib.Omega.{arith}
use Rattle.numbers.specs.Answers.{Answer, numbers_of}
use Rattle.window.specs.Window.{answer_of, Judges}
use Rattle.numbers.specs.declared.counters.Group.{Group}
use Rattle.window.specs.declared.Judged.{Judged}
use Rattle.window.specs.declared.Verdict.{Verdict}
use Rattle.window.specs.declared.Verdict.TheVariants.{Distant, Marked, Taken}

which : Answer → ℕ
which a = 2 * get_or (numbers_of a) 0 0 + get_or (numbers_of a) 1 0

pub verdicts_apart : (a b : Verdict) → answer_of a ≡ answer_of b → a ≡ b
unfolding which
verdicts_apart Distant Distant e = refl
verdicts_apart Distant Marked e = absurd (omega (arith, ap which e))
verdicts_apart Distant Taken e = absurd (omega (arith, ap which e))
verdicts_apart Marked Distant e = absurd (omega (arith, ap which e))
verdicts_apart Marked Marked e = refl
verdicts_apart Marked Taken e = absurd (omega (arith, ap which e))
verdicts_apart Taken Distant e = absurd (omega (arith, ap which e))
verdicts_apart Taken Marked e = absurd (omega (arith, ap which e))
verdicts_apart Taken Taken e = refl

pub judge_settled : (base : Group) (words : List ℕ) (group : Group) (a b : Judged) → Judges base words group a → Judges base words group b → a ≡ b
judge_settled base words group a b p q =
    ap (λ (x : ℕ). record { base = record { 0 = x }; words = a.words; verdict = a.verdict }) (p.base ∙ sym q.base)
    ∙ ap (λ (x : List ℕ). record { base = b.base; words = x; verdict = a.verdict }) (p.words ∙ sym q.words)
    ∙ ap (λ (x : Verdict). record { base = b.base; words = b.words; verdict = x }) (verdicts_apart a.verdict b.verdict (p.answer ∙ sym q.answer))
