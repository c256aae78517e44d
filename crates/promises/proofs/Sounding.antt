-- A reset record, and any run from it, stays sound, and 13 is never answered. The argument: every call keeps a sound record sound, each by its own law,
-- and answers 13 only of one that is not.
use Prim.Native.Nat.{ℕ}
use mathlib.Core.Path.{◌≡◌, refl, ap, sym, ◌∙◌}
use mathlib.Core.Bool.{Bool, true}
use mathlib.Core.List.{List, [], ◌∷◌}
use lib.ListN.{length-replicate}
use Rattle.numbers.specs.Pick.{pick}
use Rattle.numbers.specs.declared.refusals.Refusal.TheVariants.{OutOfRange}
use Rattle.record.specs.Lists.{outgoing, incoming}
use Rattle.record.specs.Sizes.{channels}
use Rattle.record.specs.Fresh.{no_channel, no_outgoing, no_incoming}
use Rattle.peer.specs.Damage.{sound}
use Rattle.peer.specs.Sounds.{Whole, Sounds}
use Rattle.peer.specs.Settings.{fit_settings}
use Rattle.peer.specs.Fresh.{fresh_peer}
use Rattle.peer.specs.Outcome.{State, Outcome, finished, unchanged, on_peer}
use Rattle.peer.specs.declared.settings.Settings.{Settings}
use Rattle.peer.specs.declared.Peer.{Peer}
use Rattle.peer.specs.declared.defaults.Kept.{Kept}
use Rattle.lifecycle.specs.Calls.{kept}
use Rattle.lifecycle.proofs.Sound.{reset_sounds, begin_sounds, state_sounds}
use Rattle.laws.proofs.Unsequenced.{unsequenced_sounds}
use Rattle.laws.proofs.Reliable.{reliable_sounds}
use Rattle.laws.proofs.Fragments.{fragment_sounds}
use Rattle.dispatch.proofs.Sound.{dispatch_sounds}
use Rattle.receive.proofs.Sound.{receive_sounds}
use Rattle.link.specs.Steps.{calls}
use Rattle.link.specs.Runs.{Asked, comes_to, run, reset_state}
use Rattle.link_in.specs.declared.calls.Call.TheVariants as inw
use Rattle.link.specs.declared.calls.Call.{Call}
use Rattle.link.specs.declared.calls.Call.TheVariants as call
use Rattle.promises.proofs.Refusals.{sound_undamaged}
use Rattle.promises.proofs.Sending.{outward_sounds}
use Rattle.promises.specs.Standing.{StaysSound, Undamaged, NeverDamaged}

-- a call of the link on a record, beside the stores
abbrev on : Settings → Call → List ℕ → List ℕ → List ℕ → Peer → Outcome Peer
on s c datagram store second p = on_peer (calls s c datagram (record { peer = p; store = store; second = second }))

pub call_sounds : (s : Settings) (c : Call) (datagram store second : List ℕ) → Sounds (on s c datagram store second)
call_sounds s call.Reset datagram store second = reset_sounds s
call_sounds s (call.Begin mtu channels) datagram store second = begin_sounds s mtu channels
call_sounds s (call.SetState state) datagram store second = state_sounds s state
call_sounds s (call.Outward c) datagram store second = outward_sounds s c
call_sounds s (call.Inward (inw.UnsequencedArrival a group)) datagram store second = unsequenced_sounds s a group datagram store second
call_sounds s (call.Inward (inw.ReliableArrival a)) datagram store second = reliable_sounds s a datagram store second
call_sounds s (call.Inward (inw.FragmentArrival a)) datagram store second = fragment_sounds s a datagram store second
call_sounds s (call.Inward (inw.Dispatch channel)) datagram store second = dispatch_sounds s channel
call_sounds s (call.Inward inw.Receive) datagram store second = receive_sounds s

-- sound and whole, along a run
pub record Standing (x : State) : Type 0 where
  pub whole : Whole x.peer
  pub good : sound x.peer ≡ true

pub asked_stands : (a : Asked) (x : State) → Standing x → Standing (comes_to a x).after
asked_stands a x k =
    let c = call_sounds a.settings a.call a.datagram x.store x.second in
    record { whole = c.whole x.peer k.whole; good = c.keeps x.peer k.whole k.good }

pub run_stands : (calls : List Asked) (x : State) → Standing x → Standing (run calls x).end
unfolding run
run_stands [] x k = k
run_stands (a ∷ rest) x k = run_stands rest (comes_to a x).after (asked_stands a x k)

-- ---- from a reset
pub fresh_whole : (mtu : ℕ) (k : Kept) → Whole (fresh_peer mtu k)
unfolding fresh_peer
fresh_whole mtu k =
    record {
      channels = length-replicate channels no_channel;
      outgoing = length-replicate outgoing no_outgoing;
      incoming = length-replicate incoming no_incoming;
    }

same_kept : (mtu : ℕ) (k : Kept) → kept (fresh_peer mtu k) ≡ k
unfolding fresh_peer
same_kept mtu k = refl

fresh_good : (s : Settings) (k : Kept) → fit_settings s ≡ true → sound (fresh_peer s.mtu k) ≡ true
fresh_good s k e =
    let p = fresh_peer s.mtu k in
    let r = (reset_sounds s).done p (fresh_whole s.mtu k) (ap (λ (b : Bool). (pick b (finished (fresh_peer s.mtu (kept p))) (unchanged OutOfRange p)).answer.number) e) in
    ap (λ (j : Kept). sound (fresh_peer s.mtu j)) (sym (same_kept s.mtu k))
    ∙ ap (λ (b : Bool). sound (pick b (finished (fresh_peer s.mtu (kept p))) (unchanged OutOfRange p)).after) (sym e)
    ∙ r

pub reset_stands : (s : Settings) (k : Kept) (store second : List ℕ) → fit_settings s ≡ true → Standing (reset_state s.mtu k store second)
reset_stands s k store second e = record { whole = fresh_whole s.mtu k; good = fresh_good s k e }

pub stays_sound : StaysSound
stays_sound s k store second calls e = (run_stands calls (reset_state s.mtu k store second) (reset_stands s k store second e)).good

run_undamaged : (calls : List Asked) (x : State) → Standing x → Undamaged (run calls x).answers
unfolding run
run_undamaged [] x k = tt
run_undamaged (a ∷ rest) x k =
    (sound_undamaged a.settings a.call a.datagram x k.good, run_undamaged rest (comes_to a x).after (asked_stands a x k))

pub never_damaged : NeverDamaged
never_damaged s k store second calls e = run_undamaged calls (reset_state s.mtu k store second) (reset_stands s k store second e)
