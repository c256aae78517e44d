-- Demand 3: repeats leave no trace, and a second delivery is 64 windows away.
-- The argument: after a delivery of g the base is the first group of g's window and g is marked; if it has moved by m windows since, it is so many windows
-- on; at m = 0 g is still marked, from 1 to 32 it lies at base + 32,768 or more. So an inserted repeat changes nothing at all, and what follows is the same
-- run from the same state.
use Prim.Native.Nat.{ℕ, ◌+◌, ◌≤◌, ◌<◌}
use mathlib.Core.Path.{◌≡◌, refl, ap, ◌∙◌}
use mathlib.Core.Bool.{Bool, true, false}
use mathlib.Core.List.{List, [], ◌∷◌}
use native.Mathlib.Omega.{arith}
use Rattle.peer.specs.Outcome.{State}
use Rattle.link.specs.Runs.{comes_to, says_one, Ran, before, run, reset_state}
use Rattle.promises.specs.History.{Event, Since, never, windows, since, AllInRange, logged, history}
use Rattle.promises.specs.Repeats.{Insertion, arrives, Line, own, again, original, aside, played, Recent, Repeats, RepeatsOriginal, NoTrace, NoTraceOriginal, FarApart}
use Rattle.promises.proofs.Windows.{window_of, apart, Known, Holds, Took, taken_again}
use Rattle.promises.proofs.Landing.{Lands, arrival_lands, repeat_quiet}
use Rattle.promises.proofs.Landing as landing
use Rattle.promises.proofs.Stepping.{step_holds, reset_holds, run_holds}

-- a recent group is known, at most 32 windows ago
record Near (x : State) (g : ℕ) : Type 0 where
  ago : ℕ
  known : Known (window_of x) g ago
  few : ago ≤ 32

near : (x : State) (log : List Event) (g : ℕ) → Holds (window_of x) log → Recent (since g log) → Near x g
near x log g h r = go (since g log) refl r
  where
    go : (t : Since) → since g log ≡ t → Recent t → Near x g
    go never e r = absurd r
    go (windows m) e r = record { ago = m; known = h.known g m e; few = r }

quiet : (k : Insertion) (x : State) → Near x k.group.0 → (comes_to (arrives k) x).after ≡ x
quiet k x n = repeat_quiet k.settings k.arrival k.group k.datagram x n.ago n.known n.few

-- a quiet arrival beside a run is the run
quietly : (k : Insertion) (x : State) (rest : State → Ran) → (comes_to (arrives k) x).after ≡ x
    → aside (arrives k) x (comes_to (arrives k) x) (rest (comes_to (arrives k) x).after) ≡ rest x
quietly k x rest q = ap rest q

trace : (ls : List (Line Insertion)) (x : State) (log : List Event) → AllInRange (original ls) → Holds (window_of x) log → Repeats ls x log
    → played arrives ls x ≡ run (original ls) x
unfolding played original run
trace [] x log i h r = refl
trace (own a ∷ ls) x log i h r =
    ap (before a x (comes_to a x)) (trace ls (comes_to a x).after (logged a x log) i.1 (step_holds a x log i.0 h) r)
trace (again k ∷ ls) x log i h r =
    let a = arrives k in
    let n = near x log k.group.0 h r.0 in
    ap (aside a x (comes_to a x)) (trace ls (comes_to a x).after (logged a x log) i (step_holds a x log n.known.fits h) r.1)
    ∙ quietly k x (run (original ls)) (quiet k x n)

pub no_trace : NoTrace
no_trace mtu kept store second lines i r = trace lines (reset_state mtu kept store second) [] i (reset_holds mtu kept store second) r

trace_original : (ls : List (Line Insertion)) (x : State) (log : List Event) → AllInRange (original ls) → Holds (window_of x) log
    → RepeatsOriginal ls x log → played arrives ls x ≡ run (original ls) x
unfolding played original run
trace_original [] x log i h r = refl
trace_original (own a ∷ ls) x log i h r =
    ap (before a x (comes_to a x)) (trace_original ls (comes_to a x).after (logged a x log) i.1 (step_holds a x log i.0 h) r)
trace_original (again k ∷ ls) x log i h r =
    quietly k x (played arrives ls) (quiet k x (near x log k.group.0 h r.0)) ∙ trace_original ls x log i h r.1

pub no_trace_original : NoTraceOriginal
no_trace_original mtu kept store second lines i r = trace_original lines (reset_state mtu kept store second) [] i (reset_holds mtu kept store second) r

-- a stored arrival took its group
never_both : (b : Bool) → b ≡ true → b ≡ false → ⊥
never_both b p q = let z : ◌≡◌ {A = ℕ} 0 1 = cc in omega arith

stored_took : (k : Insertion) (x : State) → Lands k.settings k.arrival k.group k.datagram x → says_one (comes_to (arrives k) x).answer ≡ true
    → Took (window_of x) (window_of (comes_to (arrives k) x).after) k.group.0 true
stored_took k x (landing.stays e n) s = absurd (never_both (says_one (comes_to (arrives k) x).answer) s n)
stored_took k x (landing.takes marks t n) s = absurd (never_both (says_one (comes_to (arrives k) x).answer) s n)
stored_took k x (landing.delivers t n) s = t

apart-after : (k : Insertion) (y : State) (log : List Event) (m : ℕ) → k.group.0 < 65536 → Holds (window_of y) log
    → since k.group.0 log ≡ windows m → says_one (comes_to (arrives k) y).answer ≡ true
    → 64 ≤ m + apart (window_of y) (window_of (comes_to (arrives k) y).after)
apart-after k y log m small h e t =
    taken_again (h.known k.group.0 m e)
    (stored_took k y (arrival_lands k.settings k.arrival k.group k.datagram y small) t) h.regular

pub far_apart : FarApart
far_apart mtu kept store second calls k m i e t =
    let x = reset_state mtu kept store second in
    apart-after k (run calls x).end (history calls x []) m i.0 (run_holds calls x [] i.1 (reset_holds mtu kept store second)) e t
