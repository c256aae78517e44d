-- Receive's contract settles its result: two results, reply and record, that it allows for one input are the same.
-- The argument: the record is the rule's, and a reply is made again of its answer's values.
use Rattle.std.specs.Prelude.{Result, Ok, Err, Option, Some, None}
use Rattle.std.proofs.Common.{◌≡◌, ℕ, get_or, sym, refl, ap, arith}
use Rattle.numbers.specs.Answers.{Answer, numbers_of}
use Rattle.numbers.proofs.Settled.{refused_apart, refused_not_done}
use Rattle.numbers.specs.declared.refusals.Refusal.{Refusal}
use Rattle.peer.specs.Outcome.{Came}
use Rattle.peer.specs.declared.settings.Settings.{Settings}
use Rattle.peer.specs.declared.Peer.{Peer}
use Rattle.peer.proofs.Settled.{settles, Settles}
use Rattle.receive.specs.Calls.{answer_of, receives}
use Rattle.receive.specs.declared.Received.{Received}
use Rattle.receive.specs.declared.Received.TheVariants as vr

abbrev number_in : Answer → ℕ
number_in a = a.number

abbrev value : ℕ → Answer → ℕ
value i a = get_or (numbers_of a) i 0

abbrev packet_in : Answer → Result (Option Received) Refusal
packet_in a = Ok (Some (vr.Packet (value 1 a) (value 2 a) (value 3 a)))

abbrev block_in : Answer → Result (Option Received) Refusal
block_in a = Ok (Some (vr.Block (value 1 a) (value 2 a) (value 3 a)))

pub replies_apart : (a b : Result (Option Received) Refusal) → answer_of a ≡ answer_of b → a ≡ b
replies_apart (Ok None) (Ok None) e = refl
replies_apart (Ok None) (Ok (Some (vr.Packet channel cell length))) e = absurd (omega (arith, ap (value 0) e))
replies_apart (Ok None) (Ok (Some (vr.Block channel cell length))) e = absurd (omega (arith, ap (value 0) e))
replies_apart (Ok None) (Err r) e = absurd (refused_not_done r (sym (ap number_in e)))
replies_apart (Ok (Some (vr.Packet channel cell length))) (Ok None) e = absurd (omega (arith, ap (value 0) e))
replies_apart (Ok (Some (vr.Packet channel cell length))) (Ok (Some (vr.Packet c k l))) e = ap packet_in e
replies_apart (Ok (Some (vr.Packet channel cell length))) (Ok (Some (vr.Block c k l))) e = absurd (omega (arith, ap (value 0) e))
replies_apart (Ok (Some (vr.Packet channel cell length))) (Err r) e = absurd (refused_not_done r (sym (ap number_in e)))
replies_apart (Ok (Some (vr.Block channel cell length))) (Ok None) e = absurd (omega (arith, ap (value 0) e))
replies_apart (Ok (Some (vr.Block channel cell length))) (Ok (Some (vr.Packet c k l))) e = absurd (omega (arith, ap (value 0) e))
replies_apart (Ok (Some (vr.Block channel cell length))) (Ok (Some (vr.Block c k l))) e = ap block_in e
replies_apart (Ok (Some (vr.Block channel cell length))) (Err r) e = absurd (refused_not_done r (sym (ap number_in e)))
replies_apart (Err r) (Ok None) e = absurd (refused_not_done r (ap number_in e))
replies_apart (Err r) (Ok (Some (vr.Packet channel cell length))) e = absurd (refused_not_done r (ap number_in e))
replies_apart (Err r) (Ok (Some (vr.Block channel cell length))) e = absurd (refused_not_done r (ap number_in e))
replies_apart (Err r) (Err w) e = ap Err (refused_apart r w e)

pub receive_settled : (s : Settings) (p : Peer) (a b : Result (Option Received) Refusal) (x y : Peer) → Came answer_of (receives s p) a x → Came answer_of (receives s p) b y
    → Settles a b x y
receive_settled s p = settles answer_of replies_apart (receives s p)
