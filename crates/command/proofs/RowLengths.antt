-- A kind's layout is as long as its command's row. The argument: each kind's by computing.
use Prim.Native.Nat.{◌+◌}
use mathlib.Core.Path.{◌≡◌, refl, ◌∙◌}
use native.Mathlib.Omega.{arith}
use lib.ListN.{length}
use Rattle.command.specs.Layout.{layout}
use Rattle.command.specs.Rows.{kind_of, fields_row, row_of}
use Rattle.command.specs.declared.fields.Command.{Command}
use Rattle.command.specs.declared.fields.Fields.{Fields}
use Rattle.command.specs.declared.fields.Fields.TheVariants as vr

fields_length : (f : Fields) → length (layout (kind_of f)) ≡ 3 + length (fields_row f)
unfolding layout
fields_length (vr.Acknowledge n t) = refl
fields_length (vr.Connect c d) = refl
fields_length (vr.VerifyConnect c) = refl
fields_length (vr.Disconnect d) = refl
fields_length vr.Ping = refl
fields_length (vr.SendReliable l) = refl
fields_length (vr.SendUnreliable n l) = refl
fields_length (vr.SendFragment n g) = refl
fields_length (vr.SendUnsequenced g l) = refl
fields_length (vr.BandwidthLimit i o) = refl
fields_length (vr.ThrottleConfigure i a d) = refl
fields_length (vr.SendUnreliableFragment n g) = refl

pub row_of-length : (c : Command) → length (layout (kind_of c.fields)) ≡ length (row_of c)
row_of-length c = fields_length c.fields ∙ (omega arith)
