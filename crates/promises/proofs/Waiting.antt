-- From a reset, the waiting total is the lengths stored less the lengths received.
-- The argument: an arrival that is stored adds its length once, a receive takes off the length that it replies, a reset begins anew, and no other call
-- changes the total.
use Rattle.std.specs.Prelude.{None, Option, Some}
use Prim.Native.Nat.{ℕ, ◌+◌}
use mathlib.Core.Path.{◌≡◌, refl, ap, ◌∙◌}
use mathlib.Core.Bool.{Bool, true, false}
use mathlib.Core.List.{List, [], ◌∷◌}
use mathlib.Core.Logic.{⊎_elim}
use native.Mathlib.Omega.{arith}
use lib.ListN.{get_or}
use Rattle.numbers.specs.Pick.{pick}
use Rattle.numbers.specs.Answers.{Answer, refused, numbers_of}
use Rattle.numbers.specs.declared.refusals.Refusal.TheVariants.{OutOfRange}
use Rattle.peer.specs.Sounds.{Whole}
use Rattle.peer.specs.Settings.{fit_settings}
use Rattle.peer.specs.Fresh.{fresh_peer}
use Rattle.peer.specs.Outcome.{State, Outcome, finished, unchanged}
use Rattle.peer.specs.declared.settings.Settings.{Settings}
use Rattle.peer.specs.declared.Peer.{Peer}
use Rattle.peer.specs.declared.defaults.Kept.{Kept}
use Rattle.lifecycle.specs.Calls.{kept, resets, begins, sets_state}
use Rattle.dispatch.specs.Calls.{dispatches}
use Rattle.arrival.specs.declared.Arrival.{Arrival}
use Rattle.laws.specs.Stores.{Arrives, leaves, stores as takes}
use Rattle.laws.proofs.Stores.{unsequenced_stores, reliable_stores}
use Rattle.laws.proofs.Fates.{first_piece, later_piece}
use Rattle.laws.proofs.Fragments.{fragment_has}
use Rattle.laws.proofs.FragmentStores.{finished_waiting, first_total}
use Rattle.record.specs.declared.groups.Waiting.{Waiting}
use Rattle.arrival.specs.Arrivals.{passed_over}
use Rattle.arrive_fragment.specs.Pieces.{unfinished_on}
use Rattle.arrive_fragment.specs.Calls.{opened_on, pieced_on, arrives_fragment}
use Rattle.arrive_fragment.specs.declared.Piece.{Piece}
use Rattle.arrive_unsequenced.specs.Calls.{arrives_unsequenced}
use Rattle.arrive_reliable.specs.Calls.{arrives_reliable}
use Rattle.receive.specs.Calls.{receives}
use Rattle.laws.specs.Steady.{Lowers, stays, lowers}
use Rattle.laws.proofs.Steady.{begin_steady, state_steady, dispatch_steady, receive_lowers}
use Rattle.link_out.specs.Steps.{calls_out}
use Rattle.link_in.specs.Steps.{beside}
use Rattle.link.specs.Steps.{calls}
use Rattle.link.specs.Runs.{Asked, comes_to, says_one, run, reset_state}
use Rattle.link_in.specs.declared.calls.Call.TheVariants as inw
use Rattle.link.specs.declared.calls.Call.{Call}
use Rattle.link.specs.declared.calls.Call.TheVariants as call
use Rattle.promises.specs.Standing.{Tally, fresh_tally, stores, begins as begun, hands_out, counts, tallied, Waits}
use Rattle.promises.proofs.Sending.{outward_steady}
use Rattle.promises.proofs.Sounding.{fresh_whole, call_sounds}
use Rattle.promises.proofs.Answers.{Says, unsequenced_says, reliable_says, refused_one, one_stored, one_not, receive_none}

abbrev Holds : Peer → Tally → Type 0
Holds p t = p.waiting.total + t.received ≡ t.stored

same_holds : (p q : Peer) (t : Tally) → q.waiting.total ≡ p.waiting.total → Holds p t → Holds q t
same_holds p q t e h = ap (λ (n : ℕ). n + t.received) e ∙ h

reset_holds : (s : Settings) (x : State) (t : Tally) → Holds x.peer t
    → let o = beside x (resets s x.peer) in Holds o.after.peer (counts call.Reset x o.answer t)
unfolding fresh_peer
reset_holds s x t h = go (fit_settings s)
  where
    go : (b : Bool) → let o = beside x (pick b (finished (fresh_peer s.mtu (kept x.peer))) (unchanged OutOfRange x.peer)) in
        Holds o.after.peer (counts call.Reset x o.answer t)
    go true = refl
    go false = h

-- an arrival: stored, or not
arrival_holds : (a : Arrival) (datagram : List ℕ) (x : State) (o : Outcome State) (t : Tally) → Arrives a datagram x o → Says o.answer
    → Holds x.peer t → Holds o.after.peer (stores a.length o.answer t)
arrival_holds a datagram x o t (leaves l not) says h = rw (one_not o.answer says not) (same_holds x.peer o.after.peer t l.total h)
arrival_holds a datagram x o t (takes k is) says h = rw (one_stored o.answer is) (omega (arith, k.total, h))

-- a receive: a packet, or nothing
receive_holds : (s : Settings) (x : State) (t : Tally) → Holds x.peer t
    → let o = beside x (receives s x.peer) in Holds o.after.peer (counts (call.Inward inw.Receive) x o.answer t)
receive_holds s x t h = go (receive_lowers s x.peer)
  where
    go : Lowers x.peer (receives s x.peer)
        → let o = beside x (receives s x.peer) in Holds o.after.peer (counts (call.Inward inw.Receive) x o.answer t)
    go (stays e not) =
        rw (receive_none s x.peer not) (same_holds x.peer (receives s x.peer).after t e h)
    go (lowers channel cell long is e) =
        let out : hands_out (receives s x.peer).answer ≡ true = ⊎_elim (λ q. ap hands_out q) (λ q. ap hands_out q) is in
        let n : get_or (numbers_of (receives s x.peer).answer) 3 0 ≡ long =
        ⊎_elim (λ q. ap (λ (a : Answer). get_or (numbers_of a) 3 0) q) (λ q. ap (λ (a : Answer). get_or (numbers_of a) 3 0) q) is in
        rw out (omega (arith, e, h, n))

-- a piece: a first one that is stored adds the block's total, a later one nothing
fragment_holds : (s : Settings) (a : Piece) (datagram : List ℕ) (x : State) (t : Tally) → Whole x.peer → Holds x.peer t
    → let o = arrives_fragment s a datagram x in Holds o.after.peer (counts (call.Inward (inw.FragmentArrival a)) x o.answer t)
fragment_holds s a datagram x t w h =
    fragment_has s a datagram x (λ (o : Outcome State). Holds o.after.peer (counts (call.Inward (inw.FragmentArrival a)) x o.answer t))
    (λ why. same (unfinished_on a x.peer) (refused why) (refused_one why)) (λ k e. same (unfinished_on a x.peer) passed_over refl)
    (λ n k e.
    let f = first_piece s a x.peer n e in
    let q = opened_on n a x.peer in
    let total = ap (λ (y : Waiting). y.total) (finished_waiting n a (pieced_on n a q)) in
    rw f.none (omega (arith, total, first_total s a x.peer n w k.good k.may.on f, h)))
    (λ n k e.
    let f = later_piece s a x.peer n e in
    let total = ap (λ (y : Waiting). y.total) (finished_waiting n a (pieced_on n a x.peer)) in
    rw f.own (omega (arith, total, h)))
  where
    same : (b : Option ℕ) (v : Answer) → says_one v ≡ false → Holds x.peer (begun b a.fragment.total v t)
    same None v e = rw e h
    same (Some n) v e = h

call_holds : (c : Call) (s : Settings) (datagram : List ℕ) (x : State) (t : Tally) → Whole x.peer → Holds x.peer t
    → let o = calls s c datagram x in Holds o.after.peer (counts c x o.answer t)
call_holds call.Reset s datagram x t w h = reset_holds s x t h
call_holds (call.Begin mtu channels) s datagram x t w h = same_holds x.peer (begins s mtu channels x.peer).after t (begin_steady s mtu channels x.peer).total h
call_holds (call.SetState state) s datagram x t w h = same_holds x.peer (sets_state s state x.peer).after t (state_steady s state x.peer).total h
call_holds (call.Outward c) s datagram x t w h = same_holds x.peer (calls_out s c x.peer).after t (outward_steady s c x.peer).total h
call_holds (call.Inward (inw.UnsequencedArrival a group)) s datagram x t w h =
    arrival_holds a datagram x (arrives_unsequenced s a group datagram x) t (unsequenced_stores s a group datagram x w) (unsequenced_says s a datagram x group) h
call_holds (call.Inward (inw.ReliableArrival a)) s datagram x t w h =
    arrival_holds a datagram x (arrives_reliable s a datagram x) t (reliable_stores s a datagram x w) (reliable_says s a datagram x) h
call_holds (call.Inward (inw.FragmentArrival a)) s datagram x t w h = fragment_holds s a datagram x t w h
call_holds (call.Inward (inw.Dispatch channel)) s datagram x t w h = same_holds x.peer (dispatches s channel x.peer).after t (dispatch_steady s channel x.peer).total h
call_holds (call.Inward inw.Receive) s datagram x t w h = receive_holds s x t h

run_holds : (calls : List Asked) (x : State) (t : Tally) → Whole x.peer → Holds x.peer t
    → Holds (run calls x).end.peer (tallied calls x t)
unfolding run tallied
run_holds [] x t w h = h
run_holds (a ∷ rest) x t w h =
    run_holds rest (comes_to a x).after (counts a.call x (comes_to a x).answer t)
    ((call_sounds a.settings a.call a.datagram x.store x.second).whole x.peer w)
    (call_holds a.call a.settings a.datagram x t w h)

fresh_holds : (mtu : ℕ) (k : Kept) → Holds (fresh_peer mtu k) fresh_tally
unfolding fresh_peer
fresh_holds mtu k = refl

pub waits : Waits
waits mtu kept store second calls = run_holds calls (reset_state mtu kept store second) fresh_tally (fresh_whole mtu kept) (fresh_holds mtu kept)
