-- The send step: "the caller names outgoing or send-reliable, and the time. An empty one replies nothing to send. The head is the reply"
use Rattle.std.specs.Prelude.{◌≡◌, ℕ, true, [], ◌∷◌, Result, Ok, Err, Option, Some, None}
use Rattle.numbers.specs.Answers.{Answer, done, refused}
use Rattle.numbers.specs.declared.refusals.Refusal.{Refusal}
use Rattle.command.specs.Rows.{names_fields}
use Rattle.record.specs.Lists.{out_items}
use Rattle.cells.specs.Runs.{first}
use Rattle.record.specs.Rows.{slot_row}
use Rattle.record.specs.declared.groups.Outgoing.{Outgoing}
use Rattle.peer.specs.Outcome.{Outcome}
use Rattle.peer.specs.Gate.{on_record}
use Rattle.peer.specs.declared.settings.Settings.{Settings}
use Rattle.peer.specs.declared.Peer.{Peer}
use Rattle.send_step.specs.Steps.{list_of, head, sent_as}
use Rattle.send_step.specs.declared.heads.Queue.{Queue}

-- 0 nothing to send; or 1 and the head
abbrev pub nothing : Answer
nothing = done (0 ∷ [])

abbrev pub sent : Outgoing → Answer
sent o = done (1 ∷ slot_row o)

abbrev pub answer_of : Result (Option Outgoing) Refusal → Answer
answer_of (Ok None) = nothing
answer_of (Ok (Some o)) = sent o
answer_of (Err why) = refused why

abbrev pub steps_from : Option ℕ → Queue → ℕ → Peer → Outcome Peer
steps_from None q time p = record { answer = nothing; after = p }
steps_from (Some s) q time p = let o = head p s time in record { answer = sent o; after = sent_as q s o p }

abbrev pub steps_sound : Queue → ℕ → Peer → Outcome Peer
steps_sound q time p = steps_from (first (out_items (list_of q p.lists))) q time p

abbrev pub steps : Settings → Queue → ℕ → Peer → Outcome Peer
steps s q time p = on_record s p (steps_sound q time p)

-- the command of a reply, if it has one, is named by its byte: without it two heads could share a row
abbrev pub Named : Result (Option Outgoing) Refusal → Type 0
Named (Ok None) = Unit {0}
Named (Ok (Some o)) = names_fields o.command ≡ true
Named (Err why) = Unit {0}
