-- "any two results it allows are proved equal": once for every call on the record, whose promise is `Came` by its reply's `answer_of`.
-- The argument: `answer_of` tells the replies apart, so the answer settles the reply; the record is an equation. Reset, begin, set state, setup,
-- send, ping and dispatch share one reply, so `call_settled` is the theorem of each.
use mathlib.Core.Path.{◌≡◌, refl, ap, sym, ◌∙◌}
use Prim.Native.Nat.{ℕ}
use Rattle.std.specs.Prelude.{⊤, Result, Ok, Err}
use Rattle.numbers.specs.Answers.{Answer}
use Rattle.numbers.proofs.Settled.{refused_apart, refused_not_done}
use Rattle.numbers.specs.declared.refusals.Refusal.{Refusal}
use Rattle.peer.specs.Outcome.{Outcome, Came}
use Rattle.peer.specs.Calls.{answer_of}
use Rattle.peer.specs.declared.Peer.{Peer}

abbrev number : Answer → ℕ
number a = a.number

-- two results that are one: the reply, and what the call may change
pub record Settles {R A : Type 0} (r s : R) (x y : A) : Type 0 where
  pub reply : r ≡ s
  pub after : x ≡ y

-- any kind of reply that its answer tells apart
module _ {R A : Type 0} (answer_of : R → Answer) (apart : (a b : R) → answer_of a ≡ answer_of b → a ≡ b) (o : Outcome A) where
  pub settles : (r s : R) (x y : A) → Came answer_of o r x → Came answer_of o s y → Settles r s x y
  settles r s x y c d = record { reply = apart r s (c.answer ∙ sym d.answer); after = c.after ∙ sym d.after }

pub replies_apart : (a b : Result ⊤ Refusal) → answer_of a ≡ answer_of b → a ≡ b
replies_apart (Ok _) (Ok _) e = refl
replies_apart (Ok _) (Err why) e = absurd (refused_not_done why (sym (ap number e)))
replies_apart (Err why) (Ok _) e = absurd (refused_not_done why (ap number e))
replies_apart (Err why) (Err because) e = ap Err (refused_apart why because e)

pub call_settled : (o : Outcome Peer) (r s : Result ⊤ Refusal) (x y : Peer) → Came answer_of o r x → Came answer_of o s y → Settles r s x y
call_settled = settles answer_of replies_apart
