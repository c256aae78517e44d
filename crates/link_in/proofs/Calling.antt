-- What a call's own function ensures is what `call` promises of it, and its reply is of the call's kind. The argument: peer's `carried`, on the
-- record and the stores that are lent.
use mathlib.Core.Path.{◌≡◌, ap, sym, ◌∙◌}
use mathlib.Core.List.{List}
use Prim.Native.Nat.{ℕ}
use Rattle.numbers.specs.Answers.{Answer}
use Rattle.peer.specs.Outcome.{State, Outcome, Came}
use Rattle.peer.specs.declared.settings.Settings.{Settings}
use Rattle.peer.specs.declared.Peer.{Peer}
use Rattle.peer.proofs.Carried.{carried}
use Rattle.link_in.specs.Steps.{answer_of, beside, calls_in, kind_of, kind_in, Own}
use Rattle.link_in.specs.declared.calls.Call.{Call}
use Rattle.link_in.specs.declared.calls.Reply.{Reply}

-- what is left of the record, beside the store
pub came_beside : {R : Type 0} {own : R → Answer} (x : State) {o : Outcome Peer} {r : R} (p : Peer) → Came own o r p
    → Came own (beside x o) r (record { peer = p; store = x.store; second = x.second })
came_beside x p c = record { answer = c.answer; after = ap (λ (q : Peer). record { peer = q; store = x.store; second = x.second }) c.after }

module _ (s : Settings) (k : Call) (datagram : List ℕ) (x : State) where
  -- the call is v, and its own reply r, which `own` answers, is wrapped
  pub promised : {R : Type 0} (own : R → Answer) (wrap : R → Reply) (v : Call) → k ≡ v → (r : R) → answer_of (wrap r) ≡ own r
      → kind_in (wrap r) ≡ kind_of v → (o : Outcome State) → calls_in s v datagram x ≡ o → (y : State) → Came own o r y
      → Came answer_of (calls_in s k datagram x) (wrap r) y × Own k (wrap r)
  promised own wrap v e r same kind o is y c =
      (carried (λ (call : Call). calls_in s call datagram x) answer_of own e r (wrap r) same o is y c, record { kind = kind ∙ sym (ap kind_of e) })
