-- "Walk the sent list once, oldest first, by the source's tests. A timed-out command goes back before what stood in its list at entry; several keep
-- their order."
use Rattle.std.specs.Prelude.{ℕ, false, List, [], ◌∷◌, drop, ◌==◌, slice_index_or, slice_set}
use Rattle.numbers.specs.Pick.{pick}
use Rattle.cells.specs.Runs.{prepended}
use Rattle.record.specs.Lists.{outgoing, out_items, out_keep}
use Rattle.record.specs.declared.outgoing.OutList.{OutList}
use Rattle.record.specs.Fresh.{no_outgoing}
use Rattle.record.specs.Updates.{with_timeout}
use Rattle.record.specs.declared.groups.Times.{Times}
use Rattle.record.specs.declared.groups.Loss.{Loss}
use Rattle.record.specs.declared.groups.Flow.{Flow}
use Rattle.record.specs.declared.groups.Limits.{Limits}
use Rattle.record.specs.declared.groups.Lists.{Lists}
use Rattle.record.specs.declared.groups.Outgoing.{Outgoing}
use Rattle.overdue.specs.Overdue.{stays, back_outgoing, back_reliable, step_by}
use Rattle.overdue.specs.declared.step.Sent.{Sent}
use Rattle.overdue.specs.declared.step.Walk.{Walk}

-- what the step needs of a slot
abbrev pub sent_of : Outgoing → Sent
sent_of o = record { sent = o.sent; timeout = o.timeout; attempts = o.attempts; length = o.length; packet = o.packet }

pub record Turned : Type 0 where
  pub walk : Walk
  pub slot : Outgoing
  pub mark : ℕ

-- the step on a slot: its timeout changes, and nothing else of it
abbrev pub turn_by : Limits → ℕ → Walk → Outgoing → Turned
turn_by l clock w o =
    let r = step_by l clock w (sent_of o) in record { walk = r.walk; slot = with_timeout o r.timeout; mark = r.mark }

-- the numbers of the record that the walk begins with
abbrev pub at_entry : Times → Loss → Flow → Walk
at_entry t l f =
    record {
      earliest = t.earliest_timeout;
      next = t.next_timeout;
      lost = l.lost;
      transit = f.transit;
      kept = false;
      back = false;
      over = false;
    }

-- the numbers at the end, each command's mark in the list's order, and the slots
pub record Walked : Type 0 where
  pub walk : Walk
  pub marks : List ℕ
  pub slots : List Outgoing

abbrev pub marked_by : ℕ → Walked → Walked
marked_by mark w = record { walk = w.walk; marks = mark ∷ w.marks; slots = w.slots }

unfoldable pub walked : Limits → ℕ → List ℕ → Walk → List Outgoing → Walked
walked l clock [] w slots = record { walk = w; marks = []; slots = slots }
walked l clock (s ∷ ss) w slots =
    let t = turn_by l clock w (slice_index_or slots s no_outgoing) in marked_by t.mark (walked l clock ss t.walk (slice_set slots s t.slot))

-- the slots that bear a mark, in their order; one without a mark stays
unfoldable pub bearing : ℕ → List ℕ → List ℕ → List ℕ
bearing mark ms [] = []
bearing mark ms (s ∷ ss) = pick (slice_index_or ms 0 stays == mark) (s ∷ bearing mark (drop 1 ms) ss) (bearing mark (drop 1 ms) ss)

-- what stays is sent; the others stand before what stood in their list
abbrev pub ahead : OutList → List ℕ → OutList
ahead l run = out_keep l (prepended outgoing run (out_items l))

abbrev pub lists_by : List ℕ → Lists → Lists
lists_by ms l =
    let sent = out_items l.sent in
    record {
      sent = out_keep l.sent (bearing stays ms sent);
      send_reliable = ahead l.send_reliable (bearing back_reliable ms sent);
      outgoing = ahead l.outgoing (bearing back_outgoing ms sent);
      dispatched = l.dispatched;
    }
