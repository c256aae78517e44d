-- What a call's own function ensures is what `call` promises of it, and its reply is of the call's kind. The argument: peer's `carried`.
use mathlib.Core.Path.{◌≡◌, refl, ap, sym, ◌∙◌}
use Rattle.numbers.specs.Answers.{Answer}
use Rattle.peer.specs.Outcome.{Came}
use Rattle.peer.specs.declared.settings.Settings.{Settings}
use Rattle.peer.specs.declared.Peer.{Peer}
use Rattle.peer.proofs.Carried.{carried}
use Rattle.link_out.specs.Steps.{answer_of, calls_out, kind_of, kind_in, NamedIn, Own}
use Rattle.link_out.specs.declared.calls.Call.{Call}
use Rattle.link_out.specs.declared.calls.Reply.{Reply}

module _ (s : Settings) (k : Call) (p : Peer) where
  -- the call is v, and its own reply r, which `own` answers, is wrapped
  pub promised : {R : Type 0} (own : R → Answer) (wrap : R → Reply) (v : Call) → k ≡ v → (r : R) → answer_of (wrap r) ≡ own r
      → kind_in (wrap r) ≡ kind_of v → NamedIn (wrap r) → (q : Peer) → Came own (calls_out s v p) r q → Came answer_of (calls_out s k p) (wrap r) q × Own k (wrap r)
  promised own wrap v e r same kind named q c =
      (carried (λ (call : Call). calls_out s call p) answer_of own e r (wrap r) same _ refl q c, record { kind = kind ∙ sym (ap kind_of e); named = named })
