-- The contract settles its result: two results, reply, record and stores, that it allows for one input are the same.
-- The argument: record and stores are the rule's; both replies are of the call's kind, and each kind's own law tells its replies apart.
use Prim.Native.Nat.{ℕ}
use mathlib.Core.Path.{◌≡◌, ap, sym, ◌∙◌}
use mathlib.Core.List.{List}
use native.Mathlib.Omega.{arith}
use Rattle.peer.specs.Outcome.{State, Came}
use Rattle.peer.specs.declared.settings.Settings.{Settings}
use Rattle.peer.proofs.Settled as plain
use Rattle.arrival.proofs.Settled as arriving
use Rattle.receive.proofs.Settled as receiving
use Rattle.link_in.specs.Steps.{answer_of, calls_in, kind_in, Own}
use Rattle.link_in.specs.declared.calls.Call.{Call}
use Rattle.link_in.specs.declared.calls.Reply.{Reply}
use Rattle.link_in.specs.declared.calls.Reply.TheVariants as vr

pub replies_apart : (a b : Reply) → kind_in a ≡ kind_in b → answer_of a ≡ answer_of b → a ≡ b
replies_apart (vr.Arrived r) (vr.Arrived q) k e = ap vr.Arrived (arriving.replies_apart r q e)
replies_apart (vr.Arrived r) (vr.Called q) k e = absurd (omega (arith, k))
replies_apart (vr.Arrived r) (vr.Received q) k e = absurd (omega (arith, k))
replies_apart (vr.Called r) (vr.Arrived q) k e = absurd (omega (arith, k))
replies_apart (vr.Called r) (vr.Called q) k e = ap vr.Called (plain.replies_apart r q e)
replies_apart (vr.Called r) (vr.Received q) k e = absurd (omega (arith, k))
replies_apart (vr.Received r) (vr.Arrived q) k e = absurd (omega (arith, k))
replies_apart (vr.Received r) (vr.Called q) k e = absurd (omega (arith, k))
replies_apart (vr.Received r) (vr.Received q) k e = ap vr.Received (receiving.replies_apart r q e)

module _ (s : Settings) (k : Call) (datagram : List ℕ) (x : State) (r q : Reply) (y z : State)
    (c : Came answer_of (calls_in s k datagram x) r y) (m : Own k r) (d : Came answer_of (calls_in s k datagram x) q z) (n : Own k q) where
  pub inward_settled : r ≡ q
  inward_settled = replies_apart r q (m.kind ∙ sym n.kind) (c.answer ∙ sym d.answer)

  -- the record, and the stores that are lent
  pub left_settled : y ≡ z
  left_settled = c.after ∙ sym d.after
