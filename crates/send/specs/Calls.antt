-- A send is its commands set up in order, or none of them.
use Rattle.std.specs.Prelude.{ℕ, List, [], ◌∷◌, leb, length}
use Rattle.numbers.specs.Pick.{pick}
use Rattle.peer.specs.Outcome.{Outcome, finished}
use Rattle.peer.specs.Gate.{behind, on_record}
use Rattle.peer.specs.declared.settings.Settings.{Settings}
use Rattle.peer.specs.declared.Peer.{Peer}
use Rattle.outbox.specs.Counting.{channel_at}
use Rattle.outbox.specs.declared.pieces.Piece.{Piece}
use Rattle.setup.specs.Queueing.{room, queued_all}
use Rattle.packets.specs.Packets.{fragment_length, whole, start_of, cut_by, pieces}
use Rattle.packets.specs.Refusals.{send_gate, queue_gate}

-- the fragment length comes from the record's MTU, the checksum from the settings
abbrev pub fragment : Settings → Peer → ℕ
fragment s p = fragment_length p.flow.mtu s.checksum

-- the commands of a packet: exactly the fragment length is one, one byte more is pieces
abbrev pub commands : ℕ → ℕ → ℕ → ℕ → Peer → List Piece
commands fragment channel length flags p =
    let c = channel_at p.channels channel in
    pick (leb length fragment) (whole flags c.outgoing_unreliable channel length ∷ [])
    (pieces (cut_by (start_of flags c.outgoing_reliable c.outgoing_unreliable) channel length fragment))

-- all of them or none
abbrev pub queues_all : List Piece → Peer → Outcome Peer
queues_all xs p = behind (queue_gate (length xs) (room p)) p (finished (queued_all xs p))

-- the table's order downward: 1, 2, 3, 4, 5
abbrev pub sends_sound : Settings → ℕ → ℕ → ℕ → Peer → Outcome Peer
sends_sound s channel length flags p =
    behind (send_gate s channel length p.standing) p (queues_all (commands (fragment s p) channel length flags p) p)

abbrev pub sends : Settings → ℕ → ℕ → ℕ → Peer → Outcome Peer
sends s channel length flags p = on_record s p (sends_sound s channel length flags p)
