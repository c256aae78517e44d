-- The throttle's contract settles its result: two results, reply and record, that it allows for one input are the same.
-- The argument: the record is the rule's, and the answers tell the replies apart, by cases.
use Rattle.std.specs.Prelude.{Result, Ok, Err}
use Rattle.std.proofs.Common.{◌≡◌, ℕ, get_or, pos, sym, refl, ap, arith}
use Rattle.numbers.specs.Answers.{Answer}
use Rattle.numbers.proofs.Settled.{refused_apart, refused_not_done}
use Rattle.numbers.specs.declared.refusals.Refusal.{Refusal}
use Rattle.throttle.proofs.Settled.{which}
use Rattle.peer.specs.Outcome.{Came}
use Rattle.peer.specs.declared.settings.Settings.{Settings}
use Rattle.peer.specs.declared.Peer.{Peer}
use Rattle.peer.proofs.Settled.{settles, Settles}
use Rattle.round_trip.specs.Calls.{answer_of, throttles}
use Rattle.throttle.specs.declared.Turn.{Turn}
use Rattle.throttle.specs.declared.Turn.TheVariants as turn

abbrev number_in : Answer → ℕ
number_in a = a.number

abbrev turn_in : Answer → ℕ
turn_in a = which (get_or a.values 0 (pos 0))

pub replies_apart : (a b : Result Turn Refusal) → answer_of a ≡ answer_of b → a ≡ b
replies_apart (Ok turn.Held) (Ok turn.Held) e = refl
replies_apart (Ok turn.Held) (Ok turn.Raised) e = absurd (omega (arith, ap turn_in e))
replies_apart (Ok turn.Held) (Ok turn.Lowered) e = absurd (omega (arith, ap turn_in e))
replies_apart (Ok turn.Held) (Err r) e = absurd (refused_not_done r (sym (ap number_in e)))
replies_apart (Ok turn.Raised) (Ok turn.Held) e = absurd (omega (arith, ap turn_in e))
replies_apart (Ok turn.Raised) (Ok turn.Raised) e = refl
replies_apart (Ok turn.Raised) (Ok turn.Lowered) e = absurd (omega (arith, ap turn_in e))
replies_apart (Ok turn.Raised) (Err r) e = absurd (refused_not_done r (sym (ap number_in e)))
replies_apart (Ok turn.Lowered) (Ok turn.Held) e = absurd (omega (arith, ap turn_in e))
replies_apart (Ok turn.Lowered) (Ok turn.Raised) e = absurd (omega (arith, ap turn_in e))
replies_apart (Ok turn.Lowered) (Ok turn.Lowered) e = refl
replies_apart (Ok turn.Lowered) (Err r) e = absurd (refused_not_done r (sym (ap number_in e)))
replies_apart (Err r) (Ok turn.Held) e = absurd (refused_not_done r (ap number_in e))
replies_apart (Err r) (Ok turn.Raised) e = absurd (refused_not_done r (ap number_in e))
replies_apart (Err r) (Ok turn.Lowered) e = absurd (refused_not_done r (ap number_in e))
replies_apart (Err r) (Err w) e = ap Err (refused_apart r w e)

pub throttle_settled : (s : Settings) (sample : ℕ) (p : Peer) (a b : Result Turn Refusal) (x y : Peer)
    → Came answer_of (throttles s sample p) a x → Came answer_of (throttles s sample p) b y → Settles a b x y
throttle_settled s sample p = settles answer_of replies_apart (throttles s sample p)
