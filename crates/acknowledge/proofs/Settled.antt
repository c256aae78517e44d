-- An acknowledgement's contract settles its result: two results, reply and record, that it allows for one input are the same.
-- The argument: the record is the rule's, and a reply is found again from its answer: a refusal by its number, any other by its value.
use Rattle.std.specs.Prelude.{Result, Ok, Err}
use Rattle.std.proofs.Common.{◌≡◌, ℕ, [], ◌∷◌, get_or, sym, refl, ap, ◌∙◌}
use Rattle.numbers.specs.Answers.{Answer, numbers_of}
use Rattle.numbers.proofs.Settled.{refused_apart, refused_not_done}
use Rattle.numbers.specs.declared.refusals.Refusal.{Refusal}
use Rattle.peer.specs.Outcome.{Came}
use Rattle.peer.specs.declared.settings.Settings.{Settings}
use Rattle.peer.specs.declared.Peer.{Peer}
use Rattle.peer.proofs.Settled.{settles, Settles}
use Rattle.acknowledge.specs.Calls.{answer_of, acknowledges}
use Rattle.acknowledge.specs.declared.Event.{Event}
use Rattle.acknowledge.specs.declared.Event.TheVariants as vr

abbrev number_in : Answer → ℕ
number_in a = a.number

abbrev again : Answer → Result Event Refusal
again a = get_or ((Ok vr.Passed) ∷ (Ok vr.Done) ∷ (Ok vr.Connect) ∷ (Ok vr.Disconnect) ∷ (Ok vr.DisconnectNow) ∷ []) (get_or (numbers_of a) 0 0) (Ok vr.Passed)

done_again : (a : Result Event Refusal) → number_in (answer_of a) ≡ 0 → again (answer_of a) ≡ a
done_again (Ok vr.Passed) z = refl
done_again (Ok vr.Done) z = refl
done_again (Ok vr.Connect) z = refl
done_again (Ok vr.Disconnect) z = refl
done_again (Ok vr.DisconnectNow) z = refl
done_again (Err r) z = absurd (refused_not_done r z)

done_apart : (a b : Result Event Refusal) → number_in (answer_of b) ≡ 0 → answer_of a ≡ answer_of b → a ≡ b
done_apart a b z e = sym (done_again a (ap number_in e ∙ z)) ∙ ap again e ∙ done_again b z

pub replies_apart : (a b : Result Event Refusal) → answer_of a ≡ answer_of b → a ≡ b
replies_apart a (Ok vr.Passed) e = done_apart a (Ok vr.Passed) refl e
replies_apart a (Ok vr.Done) e = done_apart a (Ok vr.Done) refl e
replies_apart a (Ok vr.Connect) e = done_apart a (Ok vr.Connect) refl e
replies_apart a (Ok vr.Disconnect) e = done_apart a (Ok vr.Disconnect) refl e
replies_apart a (Ok vr.DisconnectNow) e = done_apart a (Ok vr.DisconnectNow) refl e
replies_apart (Err w) (Err r) e = ap Err (refused_apart w r e)
replies_apart (Ok vr.Passed) (Err r) e = absurd (refused_not_done r (sym (ap number_in e)))
replies_apart (Ok vr.Done) (Err r) e = absurd (refused_not_done r (sym (ap number_in e)))
replies_apart (Ok vr.Connect) (Err r) e = absurd (refused_not_done r (sym (ap number_in e)))
replies_apart (Ok vr.Disconnect) (Err r) e = absurd (refused_not_done r (sym (ap number_in e)))
replies_apart (Ok vr.DisconnectNow) (Err r) e = absurd (refused_not_done r (sym (ap number_in e)))

pub acknowledge_settled : (s : Settings) (channel number sent clock : ℕ) (p : Peer) (a b : Result Event Refusal) (x y : Peer)
    → Came answer_of (acknowledges s channel number sent clock p) a x → Came answer_of (acknowledges s channel number sent clock p) b y
    → Settles a b x y
acknowledge_settled s channel number sent clock p = settles answer_of replies_apart (acknowledges s channel number sent clock p)
