-- A reliable report counts once and none is skipped: on each channel of a run from a reset, the reliable packets and blocks that join dispatched since begin take
-- the numbers 1, 2, 3 and so on, past 65,535 to 0; a block of k pieces takes k of them.
use Rattle.std.specs.Prelude.{ℕ, zero, suc, ◌-◌, ◌≡◌, Bool, false, List, [], ◌∷◌, ◌++◌, eqb, length, get_or, drop}
use Rattle.numbers.specs.Pick.{pick}
use Rattle.numbers.specs.Answers.{Answer}
use Rattle.numbers.specs.Counters.{step}
use Rattle.record.specs.Lists.{in_items}
use Rattle.record.specs.Fresh.{no_incoming}
use Rattle.record.specs.declared.groups.Incoming.{Incoming}
use Rattle.peer.specs.Outcome.{State}
use Rattle.peer.specs.declared.defaults.Kept.{Kept}
use Rattle.link.specs.Runs.{Asked, comes_to, reset_state}
use Rattle.link_in.specs.declared.calls.Call.TheVariants as inw
use Rattle.link.specs.declared.calls.Call.{Call}
use Rattle.link.specs.declared.calls.Call.TheVariants as call

-- the slots in dispatched
abbrev pub dispatched_in : State → List ℕ
dispatched_in x = in_items x.peer.lists.dispatched

-- k numbers one after another, the first after n, past 65,535 to 0
unfoldable pub series : ℕ → ℕ → List ℕ
series n zero = []
series n (suc k) = step n ∷ series (step n) k

-- the numbers that a packet or a block takes: its own, and one more for each further piece
abbrev pub numbers_taken : ℕ → ℕ → List ℕ
numbers_taken number fragments = number ∷ series number (fragments - 1)

-- those that the slots take
unfoldable pub taken_by : List Incoming → List ℕ → List ℕ
taken_by slots [] = []
taken_by slots (s ∷ ss) =
    let i = get_or slots s no_incoming in numbers_taken i.number.0 i.fragments ++ taken_by slots ss

-- the numbers that the slots which joined dispatched take, in their order
abbrev pub numbers_joined : State → State → List ℕ
numbers_joined x y = taken_by y.peer.incoming (drop (length (dispatched_in x)) (dispatched_in y))

-- whether reliable packets or blocks of a channel may join dispatched by a call
abbrev pub is_on : ℕ → Call → Bool
is_on channel (call.Inward (inw.ReliableArrival a)) = eqb a.channel channel
is_on channel (call.Inward (inw.FragmentArrival a)) = eqb a.channel channel
is_on channel (call.Inward (inw.Dispatch c)) = eqb c channel
is_on channel call.Reset = false
is_on channel (call.Begin mtu channels) = false
is_on channel (call.SetState state) = false
is_on channel (call.Outward c) = false
is_on channel (call.Inward (inw.UnsequencedArrival a group)) = false
is_on channel (call.Inward inw.Receive) = false

-- reset and begin, done, begin the channels anew
abbrev pub is_anew : Call → Answer → Bool
is_anew call.Reset w = eqb w.number 0
is_anew (call.Begin mtu channels) w = eqb w.number 0
is_anew (call.SetState state) w = false
is_anew (call.Outward c) w = false
is_anew (call.Inward c) w = false

-- the reliable numbers of a channel that were taken by what joined dispatched since begin, in their order
abbrev pub reported : ℕ → Asked → State → List ℕ → List ℕ
reported channel a x log =
    let o = comes_to a x in
    pick (is_anew a.call o.answer) [] (pick (is_on channel a.call) (log ++ numbers_joined x o.after) log)

unfoldable pub reports : ℕ → List Asked → State → List ℕ → List ℕ
reports channel [] x log = log
reports channel (a ∷ rest) x log = reports channel rest (comes_to a x).after (reported channel a x log)

abbrev pub CountsOnce : Type 0
CountsOnce =
    (mtu : ℕ) (kept : Kept) (store second : List ℕ) (calls : List Asked) (channel : ℕ) → let log = reports channel calls (reset_state mtu kept store second) [] in
    log ≡ series 0 (length log)
