-- Any two results that an arrival's contract allows are equal: reply, record and store.
-- The argument: `answer_of` tells the replies apart, so the answer settles the reply; record and store are an equation.
use Rattle.std.specs.Prelude.{Result, Ok, Err}
use Rattle.std.proofs.Common.{◌≡◌, ℕ, get_or, sym, refl, ap, arith}
use Rattle.numbers.specs.Answers.{Answer, numbers_of}
use Rattle.numbers.proofs.Settled.{refused_apart, refused_not_done}
use Rattle.numbers.specs.declared.refusals.Refusal.{Refusal}
use Rattle.peer.specs.Outcome.{State, Outcome, Came}
use Rattle.peer.proofs.Settled.{settles, Settles}
use Rattle.arrival.specs.Arrivals.{answer_of}
use Rattle.arrival.specs.declared.Arrived.{Arrived}
use Rattle.arrival.specs.declared.Arrived.TheVariants.{Passed, Stored}

abbrev number : Answer → ℕ
number a = a.number

abbrev which : Answer → ℕ
which a = get_or (numbers_of a) 0 0

pub replies_apart : (a b : Result Arrived Refusal) → answer_of a ≡ answer_of b → a ≡ b
replies_apart (Ok Passed) (Ok Passed) e = refl
replies_apart (Ok Passed) (Ok Stored) e = absurd (omega (arith, ap which e))
replies_apart (Ok Passed) (Err why) e = absurd (refused_not_done why (sym (ap number e)))
replies_apart (Ok Stored) (Ok Passed) e = absurd (omega (arith, ap which e))
replies_apart (Ok Stored) (Ok Stored) e = refl
replies_apart (Ok Stored) (Err why) e = absurd (refused_not_done why (sym (ap number e)))
replies_apart (Err why) (Ok Passed) e = absurd (refused_not_done why (ap number e))
replies_apart (Err why) (Ok Stored) e = absurd (refused_not_done why (ap number e))
replies_apart (Err why) (Err because) e = ap Err (refused_apart why because e)

-- record and store
pub arrival_settled : (o : Outcome State) (a b : Result Arrived Refusal) (x y : State) → Came answer_of o a x → Came answer_of o b y → Settles a b x y
arrival_settled = settles answer_of replies_apart
