-- What the source dispatches: the records of a channel's list that are complete and follow one another from the channel's last number on,
-- "where a record of k > 0 fragments advances the number by k - 1 more". They join dispatched at its end, in their order.
use Rattle.std.specs.Prelude.{ℕ, suc, ◌+◌, ◌-◌, ◌%◌, Bool, List, [], ◌∷◌, ◌==◌, slice_index_or}
use Rattle.numbers.specs.Pick.{pick, both}
use Rattle.numbers.specs.Counters.{step}
use Rattle.record.specs.Lists.{incoming, in_items, in_keep}
use Rattle.cells.specs.Runs.{moved_from, moved_to}
use Rattle.record.specs.Fresh.{no_incoming}
use Rattle.record.specs.Updates.{with_dispatched, with_held, with_last}
use Rattle.record.specs.Flags.{flagged}
use Rattle.record.specs.declared.groups.Lists.{Lists}
use Rattle.record.specs.declared.groups.Unsequenced.{Unsequenced}
use Rattle.record.specs.declared.groups.Channel.{Channel}
use Rattle.record.specs.declared.groups.Incoming.{Incoming}

-- complete, and the next after number n
abbrev pub follows : ℕ → Incoming → Bool
follows n i = both (i.remaining == 0) (i.number.0 == step n)

-- the number that it leaves as the last
abbrev pub number_after : Incoming → ℕ
number_after i = pick (i.fragments == 0) i.number.0 ((i.number.0 + (i.fragments - 1)) % 65536)

-- how many of the slots named may go, one after the other, and the number that then is the last
unfoldable pub ready_count : List Incoming → List ℕ → ℕ → ℕ
ready_count slots [] n = 0
ready_count slots (s ∷ ss) n =
    let i = slice_index_or slots s no_incoming in pick (follows n i) (suc (ready_count slots ss (number_after i))) 0

unfoldable pub ready_last : List Incoming → List ℕ → ℕ → ℕ
ready_last slots [] n = n
ready_last slots (s ∷ ss) n =
    let i = slice_index_or slots s no_incoming in pick (follows n i) (ready_last slots ss (number_after i)) n

-- the groups after what could go went
pub record Dispatched : Type 0 where
  pub channel : Channel
  pub lists : Lists
  pub unsequenced : Unsequenced

-- the first k of a channel's list go, and the number n is its last
abbrev pub moved_on : ℕ → ℕ → Channel → Lists → Unsequenced → Dispatched
moved_on k n c l g =
    let held = in_items c.held in
    let dispatched = in_items l.dispatched in
    record {
      channel = with_held (with_last c (record { 0 = n }) (record { 0 = 0 })) (in_keep c.held (moved_from incoming k held dispatched));
      lists = with_dispatched l (in_keep l.dispatched (moved_to incoming k held dispatched));
      unsequenced = flagged g;
    }

-- nothing changes where nothing goes
abbrev pub dispatched_by : List Incoming → Channel → Lists → Unsequenced → Dispatched
dispatched_by slots c l g =
    let held = in_items c.held in
    let n = c.incoming_reliable.0 in
    pick (ready_count slots held n == 0)
    (record { channel = c; lists = l; unsequenced = g })
    (moved_on (ready_count slots held n) (ready_last slots held n) c l g)
