-- For private functions of `build` and for proofs alone: the fields of a kind from a row's numbers 3 and on, the narrow numbers cut by two given functions.
-- `build` cuts each to its width before it knows that nothing is lost; with nothing cut it is the inverse of `fields_row`.
use Rattle.std.specs.Prelude.{ℕ, ◌%◌, List, [], ◌∷◌, get_or}
use Rattle.command.specs.declared.fields.Command.{Command}
use Rattle.command.specs.declared.fields.Connect.{Connect}
use Rattle.command.specs.declared.fields.Fragment.{Fragment}
use Rattle.command.specs.declared.fields.Fields.{Fields}
use Rattle.command.specs.declared.fields.Fields.TheVariants as vr

unfoldable pub connect_by : (ℕ → ℕ) → (ℕ → ℕ) → List ℕ → Connect
connect_by low8 low16 xs =
    record {
      peer = low16 (get_or xs 3 0);
      incoming_session = low8 (get_or xs 4 0);
      outgoing_session = low8 (get_or xs 5 0);
      mtu = get_or xs 6 0;
      window = get_or xs 7 0;
      channels = get_or xs 8 0;
      incoming_bandwidth = get_or xs 9 0;
      outgoing_bandwidth = get_or xs 10 0;
      interval = get_or xs 11 0;
      acceleration = get_or xs 12 0;
      deceleration = get_or xs 13 0;
      id = get_or xs 14 0;
    }

unfoldable pub fragment_by : (ℕ → ℕ) → List ℕ → Fragment
fragment_by low16 xs =
    record { length = low16 (get_or xs 4 0); count = get_or xs 5 0; number = get_or xs 6 0; total = get_or xs 7 0; offset = get_or xs 8 0 }

-- a line a kind, as in the table of the layout
unfoldable pub shaped_by : (ℕ → ℕ) → (ℕ → ℕ) → ℕ → List ℕ → Fields
shaped_by low8 low16 k xs =
    get_or
    (vr.Ping
    ∷ vr.Acknowledge (record { 0 = low16 (get_or xs 3 0) }) (low16 (get_or xs 4 0))
    ∷ vr.Connect (connect_by low8 low16 xs) (get_or xs 15 0)
    ∷ vr.VerifyConnect (connect_by low8 low16 xs)
    ∷ vr.Disconnect (get_or xs 3 0)
    ∷ vr.Ping
    ∷ vr.SendReliable (low16 (get_or xs 3 0))
    ∷ vr.SendUnreliable (record { 0 = low16 (get_or xs 3 0) }) (low16 (get_or xs 4 0))
    ∷ vr.SendFragment (record { 0 = low16 (get_or xs 3 0) }) (fragment_by low16 xs)
    ∷ vr.SendUnsequenced (record { 0 = low16 (get_or xs 3 0) }) (low16 (get_or xs 4 0))
    ∷ vr.BandwidthLimit (get_or xs 3 0) (get_or xs 4 0)
    ∷ vr.ThrottleConfigure (get_or xs 3 0) (get_or xs 4 0) (get_or xs 5 0)
    ∷ vr.SendUnreliableFragment (record { 0 = low16 (get_or xs 3 0) }) (fragment_by low16 xs)
    ∷ [])
    k vr.Ping

abbrev low8 : ℕ → ℕ
low8 x = x % 256

abbrev low16 : ℕ → ℕ
low16 x = x % 65536

abbrev pub connect_from : List ℕ → Connect
connect_from = connect_by low8 low16

abbrev pub fragment_from : List ℕ → Fragment
fragment_from = fragment_by low16

abbrev pub shaped : ℕ → List ℕ → Fields
shaped = shaped_by low8 low16

abbrev pub assembled : ℕ → List ℕ → Command
assembled k xs =
    record { byte = low8 (get_or xs 0 0); channel = low8 (get_or xs 1 0); number = record { 0 = low16 (get_or xs 2 0) }; fields = shaped k xs }
