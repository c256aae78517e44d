-- The contract settles its result: two results, reply and record, that it allows for one input are the same.
-- The argument: the record is the rule's; both replies are of the call's kind, and each kind's own law tells its replies apart.
use mathlib.Core.Path.{◌≡◌, ap, sym, ◌∙◌}
use native.Mathlib.Omega.{arith}
use Rattle.peer.specs.Outcome.{Came}
use Rattle.peer.specs.declared.settings.Settings.{Settings}
use Rattle.peer.specs.declared.Peer.{Peer}
use Rattle.peer.proofs.Settled as plain
use Rattle.send_step.proofs.Settled as stepping
use Rattle.acknowledge.proofs.Settled as acknowledging
use Rattle.timeouts.proofs.Settled as checking
use Rattle.round_trip.proofs.Settled as throttling
use Rattle.link_out.specs.Steps.{answer_of, calls_out, kind_in, NamedIn, Own}
use Rattle.link_out.specs.declared.calls.Call.{Call}
use Rattle.link_out.specs.declared.calls.Reply.{Reply}
use Rattle.link_out.specs.declared.calls.Reply.TheVariants as vr

pub replies_apart : (a b : Reply) → kind_in a ≡ kind_in b → NamedIn a → NamedIn b → answer_of a ≡ answer_of b → a ≡ b
replies_apart (vr.Called r) (vr.Called q) k m n e = ap vr.Called (plain.replies_apart r q e)
replies_apart (vr.Called r) (vr.Stepped q) k m n e = absurd (omega arith)
replies_apart (vr.Called r) (vr.Acknowledged q) k m n e = absurd (omega arith)
replies_apart (vr.Called r) (vr.Checked q) k m n e = absurd (omega arith)
replies_apart (vr.Called r) (vr.Throttled q) k m n e = absurd (omega arith)
replies_apart (vr.Stepped r) (vr.Called q) k m n e = absurd (omega arith)
replies_apart (vr.Stepped r) (vr.Stepped q) k m n e = ap vr.Stepped (stepping.replies_apart r q m n e)
replies_apart (vr.Stepped r) (vr.Acknowledged q) k m n e = absurd (omega arith)
replies_apart (vr.Stepped r) (vr.Checked q) k m n e = absurd (omega arith)
replies_apart (vr.Stepped r) (vr.Throttled q) k m n e = absurd (omega arith)
replies_apart (vr.Acknowledged r) (vr.Called q) k m n e = absurd (omega arith)
replies_apart (vr.Acknowledged r) (vr.Stepped q) k m n e = absurd (omega arith)
replies_apart (vr.Acknowledged r) (vr.Acknowledged q) k m n e = ap vr.Acknowledged (acknowledging.replies_apart r q e)
replies_apart (vr.Acknowledged r) (vr.Checked q) k m n e = absurd (omega arith)
replies_apart (vr.Acknowledged r) (vr.Throttled q) k m n e = absurd (omega arith)
replies_apart (vr.Checked r) (vr.Called q) k m n e = absurd (omega arith)
replies_apart (vr.Checked r) (vr.Stepped q) k m n e = absurd (omega arith)
replies_apart (vr.Checked r) (vr.Acknowledged q) k m n e = absurd (omega arith)
replies_apart (vr.Checked r) (vr.Checked q) k m n e = ap vr.Checked (checking.replies_apart r q e)
replies_apart (vr.Checked r) (vr.Throttled q) k m n e = absurd (omega arith)
replies_apart (vr.Throttled r) (vr.Called q) k m n e = absurd (omega arith)
replies_apart (vr.Throttled r) (vr.Stepped q) k m n e = absurd (omega arith)
replies_apart (vr.Throttled r) (vr.Acknowledged q) k m n e = absurd (omega arith)
replies_apart (vr.Throttled r) (vr.Checked q) k m n e = absurd (omega arith)
replies_apart (vr.Throttled r) (vr.Throttled q) k m n e = ap vr.Throttled (throttling.replies_apart r q e)

module _ (s : Settings) (k : Call) (p : Peer) (r q : Reply) (y z : Peer)
    (c : Came answer_of (calls_out s k p) r y) (m : Own k r) (d : Came answer_of (calls_out s k p) q z) (n : Own k q) where
  pub outward_settled : r ≡ q
  outward_settled = replies_apart r q (m.kind ∙ sym n.kind) m.named n.named (c.answer ∙ sym d.answer)

  pub left_settled : y ≡ z
  left_settled = c.after ∙ sym d.after
