-- One sent command "by the source's tests" in their order (protocol.rs 1764–1828): not yet due, on to the next; the earliest timeout is taken over
-- if it is 0 or if the sent time minus it is 86,400,000 or more, a plain difference and not the distance; given up if the distance from the earliest,
-- unless that is 0, reaches the maximum, or 2^(attempts - 1) reaches the limit and the distance the minimum; else it is counted lost, its timeout doubled
-- modulo 2^32, in transit less for a packet.
use Rattle.std.specs.Prelude.{ℕ, Bool, true, not, ◌==◌, nat_le}
use Rattle.numbers.specs.Pick.{pick, both}
use Rattle.numbers.specs.Modulo.{sum, minus}
use Rattle.numbers.specs.Clock.{distance}
use Rattle.numbers.specs.Wrapping.{reaches}
use Rattle.record.specs.declared.groups.Limits.{Limits}
use Rattle.overdue.specs.declared.step.Sent.{Sent}
use Rattle.overdue.specs.declared.step.Walk.{Walk}
use Rattle.overdue.specs.declared.step.After.{After}

-- the mark of what becomes of a command: it stays in sent, or goes back to outgoing or to send-reliable
abbrev pub stays : ℕ
stays = 0

abbrev pub back_outgoing : ℕ
back_outgoing = 1

abbrev pub back_reliable : ℕ
back_reliable = 2

abbrev pub is_due : ℕ → Sent → Bool
is_due clock o = nat_le o.timeout (distance clock o.sent)

abbrev pub earliest_by : ℕ → ℕ → ℕ
earliest_by earliest sent = pick (pick (earliest == 0) true (nat_le 86400000 (minus 32 sent earliest))) sent earliest

abbrev pub is_given_up : Limits → ℕ → ℕ → ℕ → Bool
is_given_up l clock earliest attempts =
    both (not (earliest == 0))
    (pick (nat_le l.maximum (distance clock earliest)) true
    (both (reaches attempts l.timeout) (nat_le l.minimum (distance clock earliest))))

-- after a command went back, the next one to look at may be the head of sent: it is where one went back before it and none was kept; then the next
-- timeout is its sent time + timeout
abbrev pub next_by : Walk → Sent → ℕ
next_by w o = pick (both w.back (not w.kept)) (sum 32 o.sent o.timeout) w.next

abbrev pub kept_in : Walk → ℕ → Walk
kept_in w next =
    record { earliest = w.earliest; next = next; lost = w.lost; transit = w.transit; kept = true; back = w.back; over = w.over }

-- given up: "Giving up answers disconnect and keeps the moves made so far"
abbrev pub over_in : Walk → ℕ → ℕ → Walk
over_in w next earliest =
    record { earliest = earliest; next = next; lost = w.lost; transit = w.transit; kept = true; back = w.back; over = true }

abbrev pub back_in : Walk → ℕ → ℕ → Sent → Walk
back_in w next earliest o =
    record {
      earliest = earliest;
      next = next;
      lost = sum 32 w.lost 1;
      transit = pick o.packet (minus 32 w.transit o.length) w.transit;
      kept = w.kept;
      back = true;
      over = w.over;
    }

-- a packet goes back to send-reliable, another command to outgoing, with its timeout doubled
abbrev pub goes_back : Walk → ℕ → ℕ → Sent → After
goes_back w next earliest o =
    record { walk = back_in w next earliest o; timeout = sum 32 o.timeout o.timeout; mark = pick o.packet back_reliable back_outgoing }

abbrev pub stays_in : Walk → Sent → After
stays_in w o = record { walk = w; timeout = o.timeout; mark = stays }

-- the earliest timeout is taken over before it is asked for
abbrev pub due_by : Limits → ℕ → Walk → Sent → After
due_by l clock w o =
    let earliest = earliest_by w.earliest o.sent in
    pick (is_given_up l clock earliest o.attempts) (stays_in (over_in w (next_by w o) earliest) o) (goes_back w (next_by w o) earliest o)

-- once given up, nothing more is looked at
abbrev pub step_by : Limits → ℕ → Walk → Sent → After
step_by l clock w o =
    pick w.over (stays_in w o) (pick (is_due clock o) (due_by l clock w o) (stays_in (kept_in w (next_by w o)) o))
