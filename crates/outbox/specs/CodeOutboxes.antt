-- Only the code's own: setting up on an outbox, which holds what it changes beside the slots. The rule on the record is setup's Queueing,
-- and setup's Stored says that the two agree.
use Rattle.std.specs.Prelude.{ℕ, List, replicate, slice_set, None, Option, Some}
use Rattle.numbers.specs.Modulo.{sum}
use Rattle.record.specs.Lists.{outgoing}
use Rattle.cells.specs.Free.{is_marked, marked_all, first_from}
use Rattle.record.specs.Damage.{used_out}
use Rattle.record.specs.declared.groups.Totals.{Totals}
use Rattle.record.specs.declared.groups.Waiting.{Waiting}
use Rattle.record.specs.declared.groups.Flow.{Flow}
use Rattle.record.specs.declared.groups.Unsequenced.{Unsequenced}
use Rattle.record.specs.declared.groups.Channel.{Channel}
use Rattle.record.specs.declared.groups.Lists.{Lists}
use Rattle.record.specs.declared.groups.Outgoing.{Outgoing}
use Rattle.outbox.specs.Counting.{stamped, counters_at}
use Rattle.outbox.specs.Pieces.{slot_of, grown, lists_with}
use Rattle.outbox.specs.declared.counting.Counters.{Counters}
use Rattle.outbox.specs.declared.counting.Stamped.{Stamped}
use Rattle.outbox.specs.declared.pieces.Piece.{Piece}

-- the data total, the host count, the counters of a channel, the lists, and the marks of the slots that they name
pub record Outbox : Type 0 where
  pub total : ℕ
  pub queued : ℕ
  pub counters : Counters
  pub lists : Lists
  pub marks : List ℕ

-- a piece set up: the outbox then, the slot's number and what it holds; no such number where none was free
pub record Queued : Type 0 where
  pub outbox : Outbox
  pub at : ℕ
  pub slot : Outgoing

abbrev pub stamp_in : Outbox → Piece → Stamped
stamp_in o x = stamped x.command.byte x.command.channel x.offset o.counters

abbrev pub slot_in : Outbox → Piece → Outgoing
slot_in o x = slot_of x (stamp_in o x) (sum 32 o.queued 1)

abbrev pub placed_in : Outbox → Piece → ℕ → Counters → Outbox
placed_in o x s k =
    record {
      total = grown o.total x;
      queued = sum 32 o.queued 1;
      counters = k;
      lists = lists_with o.lists x s;
      marks = slice_set o.marks s 1;
    }

abbrev pub queueing_in : Option ℕ → Outbox → Piece → Queued
queueing_in (Some s) o x = record { outbox = placed_in o x s (stamp_in o x).counters; at = s; slot = slot_in o x }
queueing_in None o x = record { outbox = o; at = outgoing; slot = slot_in o x }

abbrev pub queueing : Outbox → Piece → Queued
queueing o x = queueing_in (first_from (is_marked o.marks) outgoing 0) o x

-- off the groups of a record, with a mark for each slot that the lists name
abbrev pub outbox_of : Totals → Waiting → Flow → Unsequenced → List Channel → ℕ → Lists → Outbox
outbox_of totals waiting flow unsequenced cs channel lists =
    record {
      total = totals.outgoing;
      queued = waiting.queued;
      counters = counters_at flow.own_number cs channel unsequenced.outgoing;
      lists = lists;
      marks = marked_all (replicate outgoing 0) (used_out lists);
    }
