-- Which command an acknowledgement removes: "the first sent command of that number and channel; if none, the first acknowledged one in outgoing,
-- then in send-reliable, each search ending at an acknowledged command with 0 attempts." And what is left then.
use Rattle.std.specs.Prelude.{ℕ, ◌+◌, ◌%◌, Bool, true, false, Option, Some, None, List, [], ◌∷◌, ◌==◌, nat_lt, slice_index, slice_index_or}
use Rattle.numbers.specs.Pick.{pick, both}
use Rattle.numbers.specs.Modulo.{sum, minus}
use Rattle.cells.specs.Runs.{without}
use Rattle.record.specs.Lists.{out_items, out_keep}
use Rattle.record.specs.declared.outgoing.OutList.{OutList}
use Rattle.record.specs.Fresh.{no_outgoing}
use Rattle.record.specs.Updates.{with_next_timeout, with_transit}
use Rattle.record.specs.declared.groups.Times.{Times}
use Rattle.record.specs.declared.groups.Flow.{Flow}
use Rattle.record.specs.declared.groups.Lists.{Lists}
use Rattle.record.specs.declared.groups.Outgoing.{Outgoing}
use Rattle.queues.specs.Queues.{out_of, with_out}
use Rattle.queues.specs.declared.Out.{Out}
use Rattle.queues.specs.declared.Out.TheVariants as out
use Rattle.command.specs.Flags.{acknowledged}
use Rattle.acknowledge.specs.declared.removal.Seen.{Seen}
use Rattle.acknowledge.specs.declared.removal.Seen.TheVariants as seen
use Rattle.acknowledge.specs.declared.removal.Spot.{Spot}

-- a command of that number and channel: the slot's own reliable number, as in the source
abbrev pub is_that : ℕ → ℕ → Outgoing → Bool
is_that number channel o = both (o.reliable.0 == number) (o.command.channel == channel)

-- what a search makes of a command: it goes on, this is the one, or it ends
abbrev pub in_sent : ℕ → ℕ → Outgoing → Seen
in_sent number channel o = pick (is_that number channel o) seen.Found seen.GoesOn

abbrev pub in_queue : ℕ → ℕ → Outgoing → Seen
in_queue number channel o = pick (acknowledged o.command.byte) (pick (nat_lt o.attempts 1) seen.Ends (in_sent number channel o)) seen.GoesOn

-- at place k, with what is found past it
abbrev pub found_by : Seen → ℕ → Option ℕ → Option ℕ
found_by seen.GoesOn k next = next
found_by seen.Found k next = Some k
found_by seen.Ends k next = None

-- the place at which a search finds it, counted from k
unfoldable pub seek : (ℕ → Seen) → ℕ → List ℕ → Option ℕ
seek f k [] = None
seek f k (s ∷ ss) = found_by (f s) k (seek f (k + 1) ss)

-- a search that found nothing gives way to the next
abbrev pub or_else : Option ℕ → Out → Option Spot → Option Spot
or_else (Some k) list next = Some (record { list = list; place = k })
or_else None list next = next

-- the three searches in their order, each by what it makes of the slots
abbrev pub spot_by : (ℕ → Seen) → (ℕ → Seen) → Lists → Option Spot
spot_by sent queued l =
    or_else (seek sent 0 (out_items l.sent)) out.Sent
    (or_else (seek queued 0 (out_items l.outgoing)) out.Outgoing
    (or_else (seek queued 0 (out_items l.send_reliable)) out.Reliable None))

abbrev pub spot_of : List Outgoing → ℕ → ℕ → Lists → Option Spot
spot_of slots number channel l =
    spot_by (λ (s : ℕ). in_sent number channel (slice_index_or slots s no_outgoing)) (λ (s : ℕ). in_queue number channel (slice_index_or slots s no_outgoing)) l

-- a list without place k
abbrev pub cut : OutList → ℕ → OutList
cut l k = out_keep l (without (out_items l) k)

-- "Its slot is freed": its list names it no longer
abbrev pub lists_without : Option Spot → Lists → Lists
lists_without (Some s) l = with_out s.list l (cut (out_of s.list l) s.place)
lists_without None l = l

-- the slot that stands there
abbrev pub slot_at : Option Spot → Lists → Option ℕ
slot_at (Some s) l = Some (slice_index (out_items (out_of s.list l)) s.place)
slot_at None l = None

-- what it holds; as made new where there is none
abbrev pub held_by : List Outgoing → Option ℕ → Outgoing
held_by slots (Some s) = slice_index_or slots s no_outgoing
held_by slots None = no_outgoing

-- "in-transit falls by a packet's piece length only if it stood in sent"
abbrev pub flow_left : Out → Outgoing → Flow → Flow
flow_left out.Sent o f = pick o.packet (with_transit f (minus 32 f.transit o.length)) f
flow_left out.Outgoing o f = f
flow_left out.Reliable o f = f

abbrev pub flow_without : Option Spot → Outgoing → Flow → Flow
flow_without (Some s) o f = flow_left s.list o f
flow_without None o f = f

-- "If one was removed and sent is not empty, next timeout is its head's sent time + timeout."
abbrev pub times_without : Bool → Bool → Outgoing → Times → Times
times_without removed left head t = pick (both removed left) (with_next_timeout t (sum 32 head.sent head.timeout)) t

-- the number of the command that was removed, and 0 for none
abbrev pub command_at : Bool → Outgoing → ℕ
command_at removed o = pick removed (o.command.byte % 16) 0
