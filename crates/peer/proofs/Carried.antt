-- What a call's own function ensures is what a function that makes any of several calls promises of that call: its answer and what it leaves
-- are the rule's. The argument: a known call picks its line of the rule, and a wrapped reply answers as it did before.
use mathlib.Core.Path.{◌≡◌, ap, sym, ◌∙◌}
use Rattle.numbers.specs.Answers.{Answer}
use Rattle.peer.specs.Outcome.{Outcome, Came}

-- the call k is v, whose own reply r is wrapped as q
pub carried : {K R Q A : Type 0} (rule : K → Outcome A) (answers : Q → Answer) (own : R → Answer) {k v : K} → k ≡ v → (r : R) (q : Q) → answers q ≡ own r
    → (o : Outcome A) → rule v ≡ o → (y : A) → Came own o r y → Came answers (rule k) q y
carried {A = A} rule answers own e r q same o is y c =
    let line = ap rule e ∙ is in
    record {
      answer = same ∙ c.answer ∙ sym (ap (λ (z : Outcome A). z.answer) line);
      after = c.after ∙ sym (ap (λ (z : Outcome A). z.after) line);
    }
