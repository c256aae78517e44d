-- The contracts of both calls settle their results: two results that one input allows are the same, the reply and what the call may change.
-- The argument: what is left is the rule's, and a reply is made again of its answer's values.
use Prim.Native.Nat.{ℕ}
use mathlib.Core.Path.{◌≡◌, ap, sym}
use mathlib.Core.List.{List}
use lib.ListN.{get_or}
use Rattle.std.specs.Prelude.{⊤, Result, Ok, Err}
use Rattle.numbers.specs.Answers.{Answer, numbers_of}
use Rattle.numbers.proofs.Settled.{refused_apart, refused_not_done}
use Rattle.numbers.specs.declared.refusals.Refusal.{Refusal}
use Rattle.peer.specs.Outcome.{State, Came}
use Rattle.peer.specs.Calls as plain
use Rattle.peer.specs.declared.settings.Settings.{Settings}
use Rattle.peer.proofs.Settled as common
use Rattle.snapshot.specs.Calls.{answer_of, writes_snapshot, restores}

abbrev number_in : Answer → ℕ
number_in a = a.number

abbrev done_with : Answer → Result ℕ Refusal
done_with a = Ok (get_or (numbers_of a) 0 0)

pub replies_apart : (a b : Result ℕ Refusal) → answer_of a ≡ answer_of b → a ≡ b
replies_apart (Ok n) (Ok m) e = ap done_with e
replies_apart (Ok n) (Err why) e = absurd (refused_not_done why (sym (ap number_in e)))
replies_apart (Err why) (Ok n) e = absurd (refused_not_done why (ap number_in e))
replies_apart (Err why) (Err because) e = ap Err (refused_apart why because e)

pub write_settled : (s : Settings) (e : ℕ) (x : State) (buffer : List ℕ) (a b : Result ℕ Refusal) (y z : List ℕ)
    → Came answer_of (writes_snapshot s e x buffer) a y → Came answer_of (writes_snapshot s e x buffer) b z → common.Settles a b y z
write_settled s e x buffer = common.settles answer_of replies_apart (writes_snapshot s e x buffer)

pub restore_settled : (s : Settings) (bytes : List ℕ) (x : State) (a b : Result ⊤ Refusal) (y z : State)
    → Came plain.answer_of (restores s bytes x) a y → Came plain.answer_of (restores s bytes x) b z → common.Settles a b y z
restore_settled s bytes x = common.settles plain.answer_of common.replies_apart (restores s bytes x)
