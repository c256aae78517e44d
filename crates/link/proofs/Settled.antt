-- The link's contract settles its result: two results, reply, record and store, that it allows for one input are the same.
-- The argument: record and store are the rule's; both replies are of the call's kind, and each kind's own law tells its replies apart.
use Prim.Native.Nat.{ℕ}
use mathlib.Core.Path.{◌≡◌, ap, sym, ◌∙◌}
use mathlib.Core.List.{List}
use native.Mathlib.Omega.{arith}
use Rattle.peer.specs.Outcome.{State, Came}
use Rattle.peer.specs.declared.settings.Settings.{Settings}
use Rattle.peer.proofs.Settled as plain
use Rattle.link_out.proofs.Settled as outward
use Rattle.link_in.proofs.Settled as inward
use Rattle.link.specs.Steps.{answer_of, calls, kind_in, NamedIn, Own}
use Rattle.link.specs.declared.calls.Call.{Call}
use Rattle.link.specs.declared.calls.Reply.{Reply}
use Rattle.link.specs.declared.calls.Reply.TheVariants as vr
use Rattle.link.specs.declared.Linked.{Linked}

pub replies_apart : (a b : Reply) → kind_in a ≡ kind_in b → NamedIn a → NamedIn b → answer_of a ≡ answer_of b → a ≡ b
replies_apart (vr.Called r) (vr.Called q) k m n e = ap vr.Called (plain.replies_apart r q e)
replies_apart (vr.Called r) (vr.Outward q) k m n e = absurd (omega (arith, k))
replies_apart (vr.Called r) (vr.Inward q) k m n e = absurd (omega (arith, k))
replies_apart (vr.Outward r) (vr.Called q) k m n e = absurd (omega (arith, k))
replies_apart (vr.Outward r) (vr.Outward q) k m n e = ap vr.Outward (outward.replies_apart r q (omega (arith, k)) m n e)
replies_apart (vr.Outward r) (vr.Inward q) k m n e = absurd (omega (arith, k))
replies_apart (vr.Inward r) (vr.Called q) k m n e = absurd (omega (arith, k))
replies_apart (vr.Inward r) (vr.Outward q) k m n e = absurd (omega (arith, k))
replies_apart (vr.Inward r) (vr.Inward q) k m n e = ap vr.Inward (inward.replies_apart r q (omega (arith, k)) e)

module _ (s : Settings) (k : Call) (datagram : List ℕ) (x : State) (a b : Linked) (t u v w : List ℕ)
    (c : Came answer_of (calls s k datagram x) a.reply (record { peer = a.peer; store = t; second = v })) (m : Own k a.reply)
    (d : Came answer_of (calls s k datagram x) b.reply (record { peer = b.peer; store = u; second = w })) (n : Own k b.reply) where
  states : ◌≡◌ {A = State} (record { peer = a.peer; store = t; second = v }) (record { peer = b.peer; store = u; second = w })
  states = c.after ∙ sym d.after

  pub link_settled : a ≡ b
  link_settled =
      ap (λ (r : Reply). record { peer = a.peer; reply = r })
      (replies_apart a.reply b.reply (m.kind ∙ sym n.kind) m.named n.named (c.answer ∙ sym d.answer))
      ∙ ap (λ (y : State). record { peer = y.peer; reply = b.reply }) states

  pub store_settled : t ≡ u
  store_settled = ap (λ (y : State). y.store) states

  pub second_settled : v ≡ w
  second_settled = ap (λ (y : State). y.second) states
