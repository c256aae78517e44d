-- Demand 3. "inserting unsequenced arrivals whose group number was already delivered changes no answer, no packet and no record, while the base has
-- moved at most 32 windows; a number delivered twice has seen it move at least 64."
use Rattle.std.specs.Prelude.{ℕ, ◌+◌, ◌≤◌, ◌≡◌, true, List, [], ◌∷◌, ◌++◌}
use Rattle.numbers.specs.declared.counters.Group.{Group}
use Rattle.peer.specs.Outcome.{State, Outcome}
use Rattle.peer.specs.declared.settings.Settings.{Settings}
use Rattle.peer.specs.declared.defaults.Kept.{Kept}
use Rattle.arrival.specs.declared.Arrival.{Arrival}
use Rattle.link.specs.Runs.{Asked, comes_to, says_one, packets_of, Ran, ended, before, run, reset_state}
use Rattle.link_in.specs.declared.calls.Call.TheVariants as inw
use Rattle.link.specs.declared.calls.Call.TheVariants as call
use Rattle.promises.specs.History.{Event, Since, never, windows, since, AllInRange, moved_by, logged, history}

-- an unsequenced arrival, with its settings and its datagram
pub record Insertion : Type 0 where
  pub settings : Settings
  pub arrival : Arrival
  pub group : Group
  pub datagram : List ℕ

abbrev pub unsequencedly : Settings → Arrival → Group → List ℕ → Asked
unsequencedly s a g datagram = record { settings = s; call = call.Inward (inw.UnsequencedArrival a g); datagram = datagram }

abbrev pub arrives : Insertion → Asked
arrives k = unsequencedly k.settings k.arrival k.group k.datagram

-- a line of a run with insertions: a call of the original run, or something that was inserted
pub data Line (A : Type 0) : Type 0 where
  own : Asked → Line A
  again : A → Line A

-- the run without what was inserted
unfoldable pub original : {A : Type 0} → List (Line A) → List Asked
original [] = []
original (own a ∷ ls) = a ∷ original ls
original (again k ∷ ls) = original ls

-- an inserted call's answer is not the original calls'
abbrev pub aside : Asked → State → Outcome State → Ran → Ran
aside a x o rest = record { answers = rest.answers; packets = packets_of a.call o.answer x ++ rest.packets; end = rest.end }

-- the run of all lines, by the call that an insertion is: what the original calls answer in it, all packets that come out, and the end
unfoldable pub played : {A : Type 0} → (A → Asked) → List (Line A) → State → Ran
played by [] x = ended x
played by (own a ∷ ls) x = let o = comes_to a x in before a x o (played by ls o.after)
played by (again k ∷ ls) x = let a = by k in let o = comes_to a x in aside a x o (played by ls o.after)

-- already delivered, no reset since, and at most 32 windows in all
abbrev pub Recent : Since → Type 0
Recent never = ⊥
Recent (windows m) = m ≤ 32

-- each inserted arrival repeats a recent group, by the log of all that ran before it
abbrev pub Repeats : List (Line Insertion) → State → List Event → Type 0
Repeats [] x log = Unit {0}
Repeats (own a ∷ ls) x log = Repeats ls (comes_to a x).after (logged a x log)
Repeats (again k ∷ ls) x log =
    let a = arrives k in Recent (since k.group.0 log) × Repeats ls (comes_to a x).after (logged a x log)

-- the same by the log of the original calls alone: since repeats leave no trace, it comes to the same
abbrev pub RepeatsOriginal : List (Line Insertion) → State → List Event → Type 0
RepeatsOriginal [] x log = Unit {0}
RepeatsOriginal (own a ∷ ls) x log = RepeatsOriginal ls (comes_to a x).after (logged a x log)
RepeatsOriginal (again k ∷ ls) x log = Recent (since k.group.0 log) × RepeatsOriginal ls x log

-- repeats leave no trace: the same answers, the same packets in the same order with the same bytes, the same record and store at the end
abbrev pub NoTrace : Type 0
NoTrace =
    (mtu : ℕ) (kept : Kept) (store second : List ℕ) (lines : List (Line Insertion)) → let x = reset_state mtu kept store second in
    AllInRange (original lines) → Repeats lines x [] → played arrives lines x ≡ run (original lines) x

abbrev pub NoTraceOriginal : Type 0
NoTraceOriginal =
    (mtu : ℕ) (kept : Kept) (store second : List ℕ) (lines : List (Line Insertion)) → let x = reset_state mtu kept store second in
    AllInRange (original lines) → RepeatsOriginal lines x [] → played arrives lines x ≡ run (original lines) x

-- after any calls, an arrival is stored whose group was delivered before, no reset since: m windows since its latest delivery, and those of its
-- own move
abbrev pub FarApart : Type 0
FarApart =
    (mtu : ℕ) (kept : Kept) (store second : List ℕ) (calls : List Asked) (k : Insertion) (m : ℕ)
    → let x = reset_state mtu kept store second in
    let y = (run calls x).end in
    let a = arrives k in
    AllInRange (a ∷ calls)
    → since k.group.0 (history calls x []) ≡ windows m
    → says_one (comes_to a y).answer ≡ true
    → 64 ≤ m + moved_by a y
