-- What a call comes to: its answer, and what it leaves, the record or the record and the stores that were lent.
use Rattle.std.specs.Prelude.{ℕ, ◌≡◌, List, []}
use Rattle.numbers.specs.Answers.{Answer, done, refused}
use Rattle.numbers.specs.declared.refusals.Refusal.{Refusal}
use Rattle.peer.specs.declared.Peer.{Peer}

-- the record, and the bytes of the store that was lent; C-11: and of the second store
pub record State : Type 0 where
  pub peer : Peer
  pub store : List ℕ
  pub second : List ℕ

pub record Outcome (A : Type 0) : Type 0 where
  pub answer : Answer
  pub after : A

-- a refusal leaves what it found
abbrev pub unchanged : {A : Type 0} → Refusal → A → Outcome A
unchanged why x = record { answer = refused why; after = x }

abbrev pub finished : {A : Type 0} → A → Outcome A
finished x = record { answer = done []; after = x }

-- A reply and what was left are an outcome, by the `answer_of` of the reply's kind: what every call promises.
pub record Came {R A : Type 0} (answer_of : R → Answer) (o : Outcome A) (reply : R) (left : A) : Type 0 where
  pub answer : answer_of reply ≡ o.answer
  pub after : left ≡ o.after

-- what a call that is lent a store comes to, of the record alone
abbrev pub on_peer : Outcome State → Outcome Peer
on_peer o = record { answer = o.answer; after = o.after.peer }
