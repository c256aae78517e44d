-- `fields_now` meets its contract: the first two arms by their variants, the last because every other variant stays as it is.
use Rattle.std.proofs.Common.{◌≡◌, ℕ, sym, refl, ap}
use Rattle.numbers.specs.declared.counters.Unreliable.{Unreliable}
use Rattle.numbers.specs.declared.counters.Group.{Group}
use Rattle.command.specs.declared.fields.Fields.{Fields}
use Rattle.command.specs.declared.fields.Fields.TheVariants as vr
use Rattle.outbox.specs.Pieces.{fields_now}
use Rattle.outbox.proofs.pieces.fields_now.Goals as goal

others : (u : Unreliable) (g : Group) (f : Fields) → ((x : Unreliable) → (n : ℕ) → f ≡ vr.SendUnreliable x n → ⊥) → ((x : Group) → (n : ℕ) → f ≡ vr.SendUnsequenced x n → ⊥) → f ≡ fields_now u g f
others u g (vr.Acknowledge a b) k l = refl
others u g (vr.Connect a b) k l = refl
others u g (vr.VerifyConnect a) k l = refl
others u g (vr.Disconnect a) k l = refl
others u g vr.Ping k l = refl
others u g (vr.SendReliable a) k l = refl
others u g (vr.SendUnreliable a b) k l = absurd (k a b refl)
others u g (vr.SendFragment a b) k l = refl
others u g (vr.SendUnsequenced a b) k l = absurd (l a b refl)
others u g (vr.BandwidthLimit a b) k l = refl
others u g (vr.ThrottleConfigure a b c) k l = refl
others u g (vr.SendUnreliableFragment a b) k l = refl

pub returns-in-SendUnreliable : goal.returns-in-SendUnreliable
returns-in-SendUnreliable c =
    let a = c.args in
    sym (ap (fields_now a.unreliable a.group) c.in-SendUnreliable.is)

pub returns-in-SendUnsequenced : goal.returns-in-SendUnsequenced
returns-in-SendUnsequenced c =
    let a = c.args in
    sym (ap (fields_now a.unreliable a.group) c.in-SendUnsequenced.is)

pub returns-in_default : goal.returns-in_default
returns-in_default c =
    let a = c.args in
    others a.unreliable a.group a.f c.in_default.not-SendUnreliable c.in_default.not-SendUnsequenced
