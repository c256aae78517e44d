-- An arm a variant: by computing the definition at the arm's variant.
use mathlib.Core.Path.{ap}
use mathlib.Core.List.{◌∷◌}
use Rattle.command.specs.Bytes.{pad}
use Rattle.command.specs.Rows.{fields_row}
use Rattle.command.specs.declared.fields.Fields.{Fields}
use Rattle.command.proofs.rows.fields_row.Goals as goal

pub returns-in-Acknowledge : goal.returns-in-Acknowledge
unfolding pad
returns-in-Acknowledge c = cc (ap (λ (f : Fields). pad 16 (0 ∷ 0 ∷ 0 ∷ fields_row f)) c.in-Acknowledge.is)

pub returns-in-Connect : goal.returns-in-Connect
unfolding pad
returns-in-Connect c = cc (ap (λ (f : Fields). pad 16 (0 ∷ 0 ∷ 0 ∷ fields_row f)) c.in-Connect.is)

pub returns-in-VerifyConnect : goal.returns-in-VerifyConnect
unfolding pad
returns-in-VerifyConnect c = cc (ap (λ (f : Fields). pad 16 (0 ∷ 0 ∷ 0 ∷ fields_row f)) c.in-VerifyConnect.is)

pub returns-in-Disconnect : goal.returns-in-Disconnect
unfolding pad
returns-in-Disconnect c = cc (ap (λ (f : Fields). pad 16 (0 ∷ 0 ∷ 0 ∷ fields_row f)) c.in-Disconnect.is)

pub returns-in-Ping : goal.returns-in-Ping
unfolding pad
returns-in-Ping c = cc (ap (λ (f : Fields). pad 16 (0 ∷ 0 ∷ 0 ∷ fields_row f)) c.in-Ping.is)

pub returns-in-SendReliable : goal.returns-in-SendReliable
unfolding pad
returns-in-SendReliable c = cc (ap (λ (f : Fields). pad 16 (0 ∷ 0 ∷ 0 ∷ fields_row f)) c.in-SendReliable.is)

pub returns-in-SendUnreliable : goal.returns-in-SendUnreliable
unfolding pad
returns-in-SendUnreliable c = cc (ap (λ (f : Fields). pad 16 (0 ∷ 0 ∷ 0 ∷ fields_row f)) c.in-SendUnreliable.is)

pub returns-in-SendFragment : goal.returns-in-SendFragment
unfolding pad
returns-in-SendFragment c = cc (ap (λ (f : Fields). pad 16 (0 ∷ 0 ∷ 0 ∷ fields_row f)) c.in-SendFragment.is)

pub returns-in-SendUnsequenced : goal.returns-in-SendUnsequenced
unfolding pad
returns-in-SendUnsequenced c = cc (ap (λ (f : Fields). pad 16 (0 ∷ 0 ∷ 0 ∷ fields_row f)) c.in-SendUnsequenced.is)

pub returns-in-BandwidthLimit : goal.returns-in-BandwidthLimit
unfolding pad
returns-in-BandwidthLimit c = cc (ap (λ (f : Fields). pad 16 (0 ∷ 0 ∷ 0 ∷ fields_row f)) c.in-BandwidthLimit.is)

pub returns-in-ThrottleConfigure : goal.returns-in-ThrottleConfigure
unfolding pad
returns-in-ThrottleConfigure c = cc (ap (λ (f : Fields). pad 16 (0 ∷ 0 ∷ 0 ∷ fields_row f)) c.in-ThrottleConfigure.is)

pub returns-in-SendUnreliableFragment : goal.returns-in-SendUnreliableFragment
unfolding pad
returns-in-SendUnreliableFragment c = cc (ap (λ (f : Fields). pad 16 (0 ∷ 0 ∷ 0 ∷ fields_row f)) c.in-SendUnreliableFragment.is)
