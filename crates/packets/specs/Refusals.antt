-- What a send refuses before it queues anything, in the table's order: 1, 2, 3, then 4, 5.
use Rattle.std.specs.Prelude.{ℕ, leb, ltb, length, ⊤, Result, Ok, Err}
use Rattle.numbers.specs.Pick.{pick}
use Rattle.numbers.specs.Limits.{most_fragments}
use Rattle.numbers.specs.declared.refusals.Refusal.{Refusal}
use Rattle.numbers.specs.declared.refusals.Refusal.TheVariants.{NotConnected, InvalidChannel, PacketTooLarge, FragmentsExceeded, FailedToQueue}
use Rattle.record.specs.declared.groups.Standing.{Standing}
use Rattle.peer.specs.States.{is_connected}
use Rattle.peer.specs.declared.settings.Settings.{Settings}

-- 1, 2, 3
abbrev pub send_gate : Settings → ℕ → ℕ → Standing → Result ⊤ Refusal
send_gate s channel length standing =
    pick (is_connected standing)
    (pick (ltb channel standing.channels) (pick (leb length s.packet) (Ok tt) (Err PacketTooLarge)) (Err InvalidChannel))
    (Err NotConnected)

-- 4, then 5 "fewer free outgoing slots than commands needed", of so many commands
abbrev pub queue_gate : ℕ → ℕ → Result ⊤ Refusal
queue_gate count free = pick (leb count most_fragments) (pick (leb count free) (Ok tt) (Err FailedToQueue)) (Err FragmentsExceeded)
