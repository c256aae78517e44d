-- Setup, and what it refuses: 2 "(but for 255), channel not below count", 5 "fewer free outgoing slots than commands needed", 9 "such a
-- command, or one whose byte names another than its fields".
use Rattle.std.specs.Prelude.{ℕ, leb, ⊤, Result, Ok, Err}
use Rattle.numbers.specs.Pick.{pick}
use Rattle.numbers.specs.declared.refusals.Refusal.{Refusal}
use Rattle.numbers.specs.declared.refusals.Refusal.TheVariants.{InvalidChannel, FailedToQueue, BadCommand}
use Rattle.command.specs.Rows.{names_fields}
use Rattle.record.specs.Channels.{on_channel}
use Rattle.peer.specs.Outcome.{Outcome, finished}
use Rattle.peer.specs.Gate.{behind, on_record}
use Rattle.peer.specs.declared.settings.Settings.{Settings}
use Rattle.peer.specs.declared.Peer.{Peer}
use Rattle.setup.specs.Queueing.{room, queued}
use Rattle.outbox.specs.declared.pieces.Piece.{Piece}

-- the table's order downward: 2, 5, 9
abbrev pub setup_gate : Piece → ℕ → ℕ → Result ⊤ Refusal
setup_gate x count free =
    pick (on_channel x.command.channel count)
    (pick (leb 1 free) (pick (names_fields x.command) (Ok tt) (Err BadCommand)) (Err FailedToQueue))
    (Err InvalidChannel)

abbrev pub sets_up_sound : Piece → Peer → Outcome Peer
sets_up_sound x p = behind (setup_gate x p.standing.channels (room p)) p (finished (queued x p))

abbrev pub sets_up : Settings → Piece → Peer → Outcome Peer
sets_up s x p = on_record s p (sets_up_sound x p)
