-- A command as the row of its numbers, in the record's order: byte, channel, number, then the fields as in its struct.
use Rattle.std.specs.Prelude.{ℕ, ◌%◌, Bool, List, [], ◌∷◌, eqb}
use Rattle.command.specs.declared.fields.Command.{Command}
use Rattle.command.specs.declared.fields.Connect.{Connect}
use Rattle.command.specs.declared.fields.Fragment.{Fragment}
use Rattle.command.specs.declared.fields.Fields.{Fields}
use Rattle.command.specs.declared.fields.Fields.TheVariants as vr

abbrev pub kind_of : Fields → ℕ
kind_of (vr.Acknowledge n t) = 1
kind_of (vr.Connect c d) = 2
kind_of (vr.VerifyConnect c) = 3
kind_of (vr.Disconnect d) = 4
kind_of vr.Ping = 5
kind_of (vr.SendReliable l) = 6
kind_of (vr.SendUnreliable n l) = 7
kind_of (vr.SendFragment n g) = 8
kind_of (vr.SendUnsequenced g l) = 9
kind_of (vr.BandwidthLimit i o) = 10
kind_of (vr.ThrottleConfigure i a d) = 11
kind_of (vr.SendUnreliableFragment n g) = 12

abbrev pub connect_row : Connect → List ℕ → List ℕ
connect_row c rest =
    c.peer ∷ c.incoming_session ∷ c.outgoing_session ∷ c.mtu ∷ c.window ∷ c.channels ∷ c.incoming_bandwidth
    ∷ c.outgoing_bandwidth ∷ c.interval ∷ c.acceleration ∷ c.deceleration ∷ c.id ∷ rest

abbrev pub fragment_row : Fragment → List ℕ
fragment_row g = g.length ∷ g.count ∷ g.number ∷ g.total ∷ g.offset ∷ []

abbrev pub fields_row : Fields → List ℕ
fields_row (vr.Acknowledge n t) = n.0 ∷ t ∷ []
fields_row (vr.Connect c d) = connect_row c (d ∷ [])
fields_row (vr.VerifyConnect c) = connect_row c []
fields_row (vr.Disconnect d) = d ∷ []
fields_row vr.Ping = []
fields_row (vr.SendReliable l) = l ∷ []
fields_row (vr.SendUnreliable n l) = n.0 ∷ l ∷ []
fields_row (vr.SendFragment n g) = n.0 ∷ fragment_row g
fields_row (vr.SendUnsequenced g l) = g.0 ∷ l ∷ []
fields_row (vr.BandwidthLimit i o) = i ∷ o ∷ []
fields_row (vr.ThrottleConfigure i a d) = i ∷ a ∷ d ∷ []
fields_row (vr.SendUnreliableFragment n g) = n.0 ∷ fragment_row g

abbrev pub row_of : Command → List ℕ
row_of c = c.byte ∷ c.channel ∷ c.number.0 ∷ fields_row c.fields

-- "one whose byte names another than its fields" does not name its fields
abbrev pub names_fields : Command → Bool
names_fields c = eqb (c.byte % 16) (kind_of c.fields)
