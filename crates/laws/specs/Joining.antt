-- A record and the run of its sent commands: numbers and run as they are lent, and what they say of it when they come back.
use Rattle.std.specs.Prelude.{ℕ, List, [], ◌∷◌, map, get_or, set, Ok}
use Rattle.record.specs.Lists.{out_items}
use Rattle.record.specs.Fresh.{no_outgoing}
use Rattle.record.specs.Updates.{with_timeout}
use Rattle.record.specs.declared.groups.Outgoing.{Outgoing}
use Rattle.peer.specs.Outcome.{Outcome}
use Rattle.peer.specs.declared.Peer.{Peer}
use Rattle.overdue.specs.Overdue.{stays}
use Rattle.overdue.specs.Walking as overdue
use Rattle.overdue.specs.declared.step.Sent.{Sent}
use Rattle.timeouts.specs.Calls.{answer_of, reply_by, walked_on}
use Rattle.timeouts_lent.specs.Walking.{flag_of, read_of, written_of, walked_run}
use Rattle.timeouts_lent.specs.Stepped.{lent_as}
use Rattle.timeouts_lent.specs.declared.Awaiting.{Awaiting}
use Rattle.timeouts_lent.specs.declared.Numbers.{Numbers}

-- the commands of these slots
abbrev pub taken : List Outgoing → List ℕ → List Sent
taken slots xs = map (λ (s : ℕ). overdue.sent_of (get_or slots s no_outgoing)) xs

-- lent: every flag is 1 or 0
abbrev pub run_of : Peer → List Awaiting
run_of p = map (lent_as stays) (taken p.outgoing (out_items p.lists.sent))

abbrev pub numbers_of : Peer → Numbers
numbers_of p = written_of (overdue.at_entry p.times p.loss p.flow)

-- each slot with its command's timeout
unfoldable pub put_back : List ℕ → List Awaiting → List Outgoing → List Outgoing
put_back [] run slots = slots
put_back (s ∷ ss) [] slots = slots
put_back (s ∷ ss) (a ∷ rest) slots = put_back ss rest (set slots s (with_timeout (get_or slots s no_outgoing) a.timeout))

-- numbers and run that came back, as the walk over the record's sent list: each command's mark, the slots
abbrev pub as_walked : Peer → Numbers → List Awaiting → overdue.Walked
as_walked p n run =
    record {
      walk = read_of n;
      marks = map (λ (a : Awaiting). a.mark) run;
      slots = put_back (out_items p.lists.sent) run p.outgoing;
    }

-- what the lent walk makes of a record: its answer, and the record with its numbers and its moves
abbrev pub lent_check : ℕ → Peer → Outcome Peer
lent_check clock p =
    let w = walked_run p.limits clock (read_of (numbers_of p)) (run_of p) in
    let n = written_of w.walk in
    record { answer = answer_of (Ok (reply_by (flag_of n.over))); after = walked_on p (as_walked p n w.run) }
