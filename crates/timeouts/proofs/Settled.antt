-- The check's contract settles its result: two results, reply and record, that it allows for one input are the same.
-- The argument: the record is the rule's, and no two replies have one answer.
use Prim.Native.Nat.{ℕ}
use mathlib.Core.Path.{◌≡◌, refl, ap, sym}
use native.Mathlib.Omega.{arith}
use lib.ListN.{get_or}
use Rattle.std.specs.Prelude.{Result, Ok, Err}
use Rattle.numbers.specs.Answers.{Answer, numbers_of}
use Rattle.numbers.proofs.Settled.{refused_apart, refused_not_done}
use Rattle.numbers.specs.declared.refusals.Refusal.{Refusal}
use Rattle.peer.specs.Outcome.{Came}
use Rattle.peer.specs.declared.settings.Settings.{Settings}
use Rattle.peer.specs.declared.Peer.{Peer}
use Rattle.peer.proofs.Settled.{settles, Settles}
use Rattle.timeouts.specs.Calls.{answer_of, checks}
use Rattle.timeouts.specs.declared.Checked.{Checked}
use Rattle.timeouts.specs.declared.Checked.TheVariants as vr

abbrev number_in : Answer → ℕ
number_in a = a.number

abbrev which : Answer → ℕ
which a = get_or (numbers_of a) 0 0

pub replies_apart : (a b : Result Checked Refusal) → answer_of a ≡ answer_of b → a ≡ b
replies_apart (Ok vr.Done) (Ok vr.Done) e = refl
replies_apart (Ok vr.Done) (Ok vr.Disconnect) e = absurd (omega (arith, ap which e))
replies_apart (Ok vr.Done) (Err r) e = absurd (refused_not_done r (sym (ap number_in e)))
replies_apart (Ok vr.Disconnect) (Ok vr.Done) e = absurd (omega (arith, ap which e))
replies_apart (Ok vr.Disconnect) (Ok vr.Disconnect) e = refl
replies_apart (Ok vr.Disconnect) (Err r) e = absurd (refused_not_done r (sym (ap number_in e)))
replies_apart (Err r) (Ok vr.Done) e = absurd (refused_not_done r (ap number_in e))
replies_apart (Err r) (Ok vr.Disconnect) e = absurd (refused_not_done r (ap number_in e))
replies_apart (Err r) (Err w) e = ap Err (refused_apart r w e)

pub check_settled : (s : Settings) (clock : ℕ) (p : Peer) (a b : Result Checked Refusal) (x y : Peer) → Came answer_of (checks s clock p) a x
    → Came answer_of (checks s clock p) b y → Settles a b x y
check_settled s clock p = settles answer_of replies_apart (checks s clock p)
