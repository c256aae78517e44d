-- "Ping queues command 5 with the acknowledge flag, channel 255, no packet."
use Rattle.std.specs.Prelude.{ℕ, ◌+◌, false, leb, ⊤, Result, Ok, Err}
use Rattle.numbers.specs.Pick.{pick}
use Rattle.numbers.specs.declared.refusals.Refusal.{Refusal}
use Rattle.numbers.specs.declared.refusals.Refusal.TheVariants.{NotConnected, FailedToQueue}
use Rattle.command.specs.declared.fields.Fields.TheVariants.{Ping}
use Rattle.record.specs.Sizes.{itself}
use Rattle.record.specs.declared.groups.Standing.{Standing}
use Rattle.peer.specs.States.{is_connected}
use Rattle.peer.specs.Outcome.{Outcome, finished}
use Rattle.peer.specs.Gate.{behind, on_record}
use Rattle.peer.specs.declared.settings.Settings.{Settings}
use Rattle.peer.specs.declared.Peer.{Peer}
use Rattle.outbox.specs.declared.pieces.Piece.{Piece}
use Rattle.setup.specs.Queueing.{room, queued}

abbrev pub ping_piece : Piece
ping_piece =
    record {
      command = record { byte = 5 + 128; channel = itself; number = record { 0 = 0 }; fields = Ping };
      packet = false;
      offset = 0;
      length = 0;
    }

-- the table's order downward: 1, 5
abbrev pub ping_gate : Standing → ℕ → Result ⊤ Refusal
ping_gate standing free = pick (is_connected standing) (pick (leb 1 free) (Ok tt) (Err FailedToQueue)) (Err NotConnected)

abbrev pub pings_sound : Peer → Outcome Peer
pings_sound p = behind (ping_gate p.standing (room p)) p (finished (queued ping_piece p))

abbrev pub pings : Settings → Peer → Outcome Peer
pings s p = on_record s p (pings_sound p)
