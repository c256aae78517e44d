-- Every call is a step of one of four kinds, so what holds of window and log goes on holding along a run. A new call adds one line to `call_does`.
-- The argument: laws Steady says that all others leave base and words.
use Prim.Native.Nat.{ℕ, ◌<◌}
use mathlib.Core.Path.{◌≡◌, refl, ap₂}
use mathlib.Core.Bool.{Bool, true, false}
use mathlib.Core.List.{List, [], ◌∷◌}
use Rattle.numbers.specs.Pick.{pick}
use Rattle.numbers.specs.declared.counters.Group.{Group}
use Rattle.numbers.specs.declared.refusals.Refusal.TheVariants.{OutOfRange}
use Rattle.window.specs.Window.{windows_moved}
use Rattle.peer.specs.Settings.{fit_settings}
use Rattle.peer.specs.Fresh.{fresh_peer}
use Rattle.peer.specs.Outcome.{State, Outcome, finished, unchanged}
use Rattle.peer.specs.declared.settings.Settings.{Settings}
use Rattle.peer.specs.declared.defaults.Kept.{Kept}
use Rattle.lifecycle.specs.Calls.{kept, resets}
use Rattle.arrival.specs.declared.Arrival.{Arrival}
use Rattle.arrive_unsequenced.specs.Calls.{arrives_unsequenced}
use Rattle.laws.specs.Steady.{SameWindow}
use Rattle.laws.proofs.Steady.{begin_steady, state_steady, dispatch_steady, receive_window, reliable_window}
use Rattle.laws.proofs.FragmentStores.{fragment_window}
use Rattle.link_in.specs.Steps.{beside}
use Rattle.link.specs.Steps.{calls}
use Rattle.link.specs.Runs.{Asked, comes_to, run, reset_state}
use Rattle.link_in.specs.declared.calls.Call.TheVariants as inw
use Rattle.link.specs.declared.calls.Call.{Call}
use Rattle.link.specs.declared.calls.Call.TheVariants as call
use Rattle.promises.specs.History.{Event, Concern, resetting, arriving, neither, concern, InRange, AllInRange, base_of, logs, logged, history}
use Rattle.promises.proofs.Windows.{window_in, window_of, Holds}
use Rattle.promises.proofs.Effects.{Effect, stays, clears, takes, delivers, fresh_window, fresh_holds, empty_never, holds_after}
use Rattle.promises.proofs.Landing.{Lands, arrival_lands}
use Rattle.promises.proofs.Landing as landing
use Rattle.promises.proofs.Sending.{outward_steady}

-- what a step did to window and log
abbrev Does : Concern → State → Outcome State → List Event → Type 0
Does b x o log = Effect (window_of x) (window_of o.after) log (logs b o.answer (windows_moved (base_of x) (base_of o.after)) log)

fresh_window_lem : (mtu : ℕ) (k : Kept) → window_in (fresh_peer mtu k) ≡ fresh_window
unfolding fresh_peer
fresh_window_lem mtu k = refl

reset_does : (s : Settings) (x : State) (log : List Event) → Does resetting x (beside x (resets s x.peer)) log
reset_does s x log = go (fit_settings s)
  where
    go : (b : Bool) → Does resetting x (beside x (pick b (finished (fresh_peer s.mtu (kept x.peer))) (unchanged OutOfRange x.peer))) log
    go true = clears (fresh_window_lem s.mtu (kept x.peer)) refl
    go false = stays refl refl

arrival_does : (s : Settings) (a : Arrival) (group : Group) (datagram : List ℕ) (x : State) (log : List Event) → group.0 < 65536
    → Does (arriving group.0) x (arrives_unsequenced s a group datagram x) log
arrival_does s a group datagram x log small = go (arrival_lands s a group datagram x small)
  where
    go : Lands s a group datagram x → Does (arriving group.0) x (arrives_unsequenced s a group datagram x) log
    go (landing.stays e n) = stays e (rw n)
    go (landing.takes marks t n) = takes group.0 marks t (rw n)
    go (landing.delivers t n) = delivers group.0 t (rw n)

-- a call that leaves base and words
same_does : (x : State) (o : Outcome State) (log : List Event) → SameWindow x.peer o.after.peer → Does neither x o log
same_does x o log w = stays (ap₂ (λ (b : Group) (ws : List ℕ). record { base = b.0; words = ws }) w.base w.words) refl

call_does : (c : Call) (s : Settings) (datagram : List ℕ) (x : State) (log : List Event) → InRange (concern c) → Does (concern c) x (calls s c datagram x) log
call_does call.Reset s datagram x log i = reset_does s x log
call_does (call.Begin mtu channels) s datagram x log i = same_does x (calls s (call.Begin mtu channels) datagram x) log (begin_steady s mtu channels x.peer).window
call_does (call.SetState state) s datagram x log i = same_does x (calls s (call.SetState state) datagram x) log (state_steady s state x.peer).window
call_does (call.Outward c) s datagram x log i = same_does x (calls s (call.Outward c) datagram x) log (outward_steady s c x.peer).window
call_does (call.Inward (inw.UnsequencedArrival a group)) s datagram x log i = arrival_does s a group datagram x log i
call_does (call.Inward (inw.ReliableArrival a)) s datagram x log i =
    same_does x (calls s (call.Inward (inw.ReliableArrival a)) datagram x) log (reliable_window s a datagram x)
call_does (call.Inward (inw.FragmentArrival a)) s datagram x log i =
    same_does x (calls s (call.Inward (inw.FragmentArrival a)) datagram x) log (fragment_window s a datagram x)
call_does (call.Inward (inw.Dispatch channel)) s datagram x log i =
    same_does x (calls s (call.Inward (inw.Dispatch channel)) datagram x) log (dispatch_steady s channel x.peer).window
call_does (call.Inward inw.Receive) s datagram x log i = same_does x (calls s (call.Inward inw.Receive) datagram x) log (receive_window s x.peer)

pub step_holds : (a : Asked) (x : State) (log : List Event) → InRange (concern a.call) → Holds (window_of x) log
    → Holds (window_of (comes_to a x).after) (logged a x log)
step_holds a x log i h = holds_after (call_does a.call a.settings a.datagram x log i) h

pub reset_holds : (mtu : ℕ) (k : Kept) (store second : List ℕ) → Holds (window_of (reset_state mtu k store second)) []
reset_holds mtu k store second = rw (fresh_window_lem mtu k) (fresh_holds [] empty_never)

pub run_holds : (calls : List Asked) (x : State) (log : List Event) → AllInRange calls → Holds (window_of x) log
    → Holds (window_of (run calls x).end) (history calls x log)
unfolding run history
run_holds [] x log i h = h
run_holds (a ∷ rest) x log i h = run_holds rest (comes_to a x).after (logged a x log) i.1 (step_holds a x log i.0 h)
