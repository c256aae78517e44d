-- "States are 0 to 9 in public ENet's order."
use Rattle.std.specs.Prelude.{ℕ, Bool, eqb}
use Rattle.record.specs.declared.groups.Standing.{Standing}

abbrev pub disconnected : ℕ
disconnected = 0

abbrev pub acknowledging_connect : ℕ
acknowledging_connect = 2

abbrev pub connected : ℕ
connected = 5

abbrev pub disconnect_later : ℕ
disconnect_later = 6

abbrev pub disconnecting : ℕ
disconnecting = 7

abbrev pub zombie : ℕ
zombie = 9

abbrev pub last_state : ℕ
last_state = 9

-- "NotConnected: send, ping, state not 5"
abbrev pub is_connected : Standing → Bool
is_connected standing = eqb standing.state connected
