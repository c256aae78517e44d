-- What a call's own function ensures, or a side's, is what the link promises of it, and its reply is of the call's kind. The argument: peer's
-- `carried`, on the record and the store that is lent.
use mathlib.Core.Path.{◌≡◌, ap, sym, ◌∙◌}
use mathlib.Core.List.{List}
use Prim.Native.Nat.{ℕ}
use Rattle.numbers.specs.Answers.{Answer}
use Rattle.peer.specs.Outcome.{State, Outcome, Came}
use Rattle.peer.specs.declared.settings.Settings.{Settings}
use Rattle.peer.proofs.Carried.{carried}
use Rattle.link.specs.Steps.{answer_of, calls, kind_of, kind_in, NamedIn, Own}
use Rattle.link.specs.declared.calls.Call.{Call}
use Rattle.link.specs.declared.calls.Reply.{Reply}

module _ (s : Settings) (k : Call) (datagram : List ℕ) (x : State) where
  -- the call is v, and its own reply r, which `own` answers, is wrapped
  pub promised : {R : Type 0} (own : R → Answer) (wrap : R → Reply) (v : Call) → k ≡ v → (r : R) → answer_of (wrap r) ≡ own r
      → kind_in (wrap r) ≡ kind_of v → NamedIn (wrap r) → (o : Outcome State) → calls s v datagram x ≡ o → (y : State) → Came own o r y
      → Came answer_of (calls s k datagram x) (wrap r) y × Own k (wrap r)
  promised own wrap v e r same kind named o is y c =
      (carried (λ (call : Call). calls s call datagram x) answer_of own e r (wrap r) same o is y c, record { kind = kind ∙ sym (ap kind_of e); named = named })
