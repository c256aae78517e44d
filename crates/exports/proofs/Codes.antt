-- A reply's number follows from the answer that the turn or the verdict gives. The argument: cases on the tests.
use mathlib.Core.Path.{◌≡◌, refl, ap, ◌∙◌}
use mathlib.Core.Bool.{Bool, true, false}
use mathlib.Core.List.{List, [], ◌∷◌}
use Prim.Native.Nat.{ℕ, ◌+◌, ◌*◌, ◌<◌}
use native.Mathlib.Omega.{arith}
use lib.Dec.{ltb, leb, eqb}
use lib.IntN.{ℤ, pos, negsuc}
use lib.ListN.{get_or}
use Rattle.numbers.specs.Pick.{pick}
use Rattle.numbers.specs.Modulo.{sum}
use Rattle.numbers.specs.Answers.{Answer, done, numbers_of}
use Rattle.throttle.specs.Throttling as throttle
use Rattle.throttle.specs.declared.Throttle.{Throttle}
use Rattle.throttle.specs.declared.Turn.{Turn}
use Rattle.throttle.specs.declared.Turn.TheVariants.{Held, Raised, Lowered}
use Rattle.window.specs.Window as window
use Rattle.window.specs.declared.Verdict.{Verdict}
use Rattle.window.specs.declared.Verdict.TheVariants.{Distant, Marked, Taken}
use Rattle.exports.specs.CodeReplies.{turn_code, verdict_code}

abbrev turn_of : ℤ → ℕ
turn_of (pos n) = n
turn_of (negsuc n) = 2

turn_of_lem : (u : Turn) → turn_code u ≡ turn_of (throttle.answer_of u)
turn_of_lem Held = refl
turn_of_lem Raised = refl
turn_of_lem Lowered = refl

turn_tests : (a b c : Bool) → turn_of (pick a (pos 0) (pick b (pos 1) (pick c (negsuc 0) (pos 0)))) ≡ pick a 0 (pick b 1 (pick c 2 0))
turn_tests true b c = refl
turn_tests false true c = refl
turn_tests false false true = refl
turn_tests false false false = refl

pub turn_code_lem :
    (t : Throttle) (sample : ℕ) (u : Turn) → throttle.answer_of u ≡ throttle.answer_after t sample
    → turn_code u ≡ throttle.by_tests t sample 0 1 2 0
turn_code_lem t sample u e = turn_of_lem u ∙ ap turn_of e ∙ turn_tests (leb t.last t.variance) (leb sample t.last) (ltb (sum 32 t.last (sum 32 t.variance t.variance)) sample)

pub turn_small : (u : Turn) → turn_code u < 3
turn_small Held = omega arith
turn_small Raised = omega arith
turn_small Lowered = omega arith

abbrev verdict_of : Answer → ℕ
verdict_of a = 2 * get_or (numbers_of a) 0 0 + get_or (numbers_of a) 1 0

verdict_of_lem : (v : Verdict) → verdict_code v ≡ verdict_of (window.answer_of v)
verdict_of_lem Distant = refl
verdict_of_lem Marked = refl
verdict_of_lem Taken = refl

verdict_tests :
    (a b c : Bool)
    → verdict_of (pick a (done (0 ∷ 0 ∷ [])) (pick b (pick c (done (0 ∷ 1 ∷ [])) (done (1 ∷ []))) (done (1 ∷ []))))
    ≡ pick a 0 (pick b (pick c 1 2) 2)
verdict_tests true b c = refl
verdict_tests false false c = refl
verdict_tests false true true = refl
verdict_tests false true false = refl

pub verdict_code_lem :
    (base : ℕ) (words : List ℕ) (g : ℕ) (v : Verdict) → window.answer_of v ≡ window.answer_after base words g
    → verdict_code v ≡ window.by_tests base words g 0 2 1 2
verdict_code_lem base words g v e = verdict_of_lem v ∙ ap verdict_of e ∙ verdict_tests (window.distant base g) (eqb (window.first g) base) (window.marked words g)

pub verdict_small : (v : Verdict) → verdict_code v < 3
verdict_small Distant = omega arith
verdict_small Marked = omega arith
verdict_small Taken = omega arith
