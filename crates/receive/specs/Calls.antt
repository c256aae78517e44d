-- "Receive takes the head, replies channel, cell and length, frees the slot, leaves the cell's bytes and lowers the waiting total; with none,
-- it replies nothing there." The head is dispatched's; a slot is free once no list names it. C-11: a block is received as such, by 2 in the place of 1, and takes
-- its marks with it ("0 with no block"); its bytes stand in the second store, where they stay.
use Rattle.std.specs.Prelude.{ℕ, [], ◌∷◌, get_or, slice_index_or, Result, Ok, Err, Option, Some, None}
use Rattle.numbers.specs.Pick.{pick}
use Rattle.numbers.specs.Answers.{Answer, done, refused}
use Rattle.numbers.specs.Modulo.{minus}
use Rattle.numbers.specs.declared.refusals.Refusal.{Refusal}
use Rattle.record.specs.Lists.{in_items}
use Rattle.cells.specs.Runs.{first}
use Rattle.record.specs.Fresh.{no_incoming}
use Rattle.record.specs.Marks.{no_marks}
use Rattle.record.specs.Blocks.{is_block}
use Rattle.record.specs.Updates.{with_dispatched, with_total, in_shorter}
use Rattle.record.specs.declared.groups.Lists.{Lists}
use Rattle.record.specs.declared.groups.Waiting.{Waiting}
use Rattle.record.specs.declared.groups.Incoming.{Incoming}
use Rattle.record.specs.declared.groups.Marks.{Marks}
use Rattle.peer.specs.Outcome.{Outcome}
use Rattle.peer.specs.Gate.{on_record}
use Rattle.peer.specs.Updates.{with_lists, with_waiting, with_marks}
use Rattle.peer.specs.declared.settings.Settings.{Settings}
use Rattle.peer.specs.declared.Peer.{Peer}
use Rattle.receive.specs.declared.Received.{Received}
use Rattle.receive.specs.declared.Received.TheVariants as vr

-- 0 nothing there; 1, channel, cell and length; C-11: or 2 and the same, for a block
abbrev pub nothing : Answer
nothing = done (0 ∷ [])

abbrev pub packet : ℕ → ℕ → ℕ → Answer
packet channel cell length = done (1 ∷ channel ∷ cell ∷ length ∷ [])

abbrev pub block : ℕ → ℕ → ℕ → Answer
block channel cell length = done (2 ∷ channel ∷ cell ∷ length ∷ [])

abbrev pub answer_of : Result (Option Received) Refusal → Answer
answer_of (Ok None) = nothing
answer_of (Ok (Some (vr.Packet channel cell length))) = packet channel cell length
answer_of (Ok (Some (vr.Block channel cell length))) = block channel cell length
answer_of (Err why) = refused why

-- dispatched without its head
abbrev pub without_first : Lists → Lists
without_first l = with_dispatched l (in_shorter l.dispatched)

-- the waiting total lower by a length
abbrev pub lowered : Waiting → ℕ → Waiting
lowered w length = with_total w (minus 32 w.total length)

-- the marks once this slot is received
abbrev pub cleared_by : Incoming → Marks → Marks
cleared_by slot marks = pick (is_block slot) no_marks marks

-- slot s, the head, is taken
abbrev pub taken : ℕ → Peer → Peer
taken s p =
    let i = get_or p.incoming s no_incoming in
    with_marks (with_waiting (with_lists p (without_first p.lists)) (lowered p.waiting i.length)) (cleared_by i p.marks)

-- a packet by its cell, or the block
abbrev pub received_of : Incoming → ℕ → Received
received_of i s = pick (is_block i) (vr.Block i.channel s i.length) (vr.Packet i.channel s i.length)

abbrev pub reply_of : Incoming → ℕ → Result (Option Received) Refusal
reply_of i s = Ok (Some (received_of i s))

abbrev pub receives_from : Option ℕ → Peer → Outcome Peer
receives_from None p = record { answer = nothing; after = p }
receives_from (Some s) p =
    record { answer = answer_of (reply_of (slice_index_or p.incoming s no_incoming) s); after = taken s p }

abbrev pub receives_sound : Peer → Outcome Peer
receives_sound p = receives_from (first (in_items p.lists.dispatched)) p

abbrev pub receives : Settings → Peer → Outcome Peer
receives s p = on_record s p (receives_sound p)
