-- What is in transit is what the packets in sent carry, along every run from a reset (`in_transit`).
-- The argument: laws Carrying has it for reset, begin, set state and the sending side's calls; both arrivals, dispatch and receive leave the number,
-- the sent list and the outgoing slots.
use Rattle.std.specs.Prelude.{None, Option, Some}
use Prim.Native.Nat.{ℕ, ◌%◌, ◌^◌}
use mathlib.Core.Path.{◌≡◌, refl, ap, sym, ◌∙◌}
use mathlib.Core.Bool.{Bool, true, false}
use mathlib.Core.List.{List, [], ◌∷◌}
use lib.Dec.{eqb}
use lib.ListN.{get_or, set}
use Rattle.std.specs.Prelude.{⊤, Result}
use Rattle.numbers.specs.Pick.{pick}
use Rattle.numbers.specs.declared.counters.Group.{Group}
use Rattle.numbers.specs.declared.refusals.Refusal.{Refusal}
use Rattle.record.specs.Lists.{out_items, in_items}
use Rattle.record.specs.declared.outgoing.OutList.{OutList}
use Rattle.cells.specs.Runs.{first}
use Rattle.record.specs.Fresh.{no_channel}
use Rattle.record.specs.declared.groups.Channel.{Channel}
use Rattle.record.specs.declared.groups.Unsequenced.{Unsequenced}
use Rattle.record.specs.declared.groups.Incoming.{Incoming}
use Rattle.record.specs.declared.groups.Lists.{Lists}
use Rattle.peer.specs.Damage.{sound}
use Rattle.peer.specs.Gate.{fits, gate_of}
use Rattle.peer.specs.Outcome.{State, Outcome, finished}
use Rattle.peer.specs.declared.settings.Settings.{Settings}
use Rattle.peer.specs.declared.Peer.{Peer}
use Rattle.peer.specs.declared.gate.Lent.TheVariants as lent
use Rattle.peer.proofs.Gates.{behind_has}
use Rattle.dispatch.specs.Dispatching.{ready_count, ready_last, moved_on, dispatched_by}
use Rattle.dispatch.specs.Dispatching.{Dispatched}
use Rattle.dispatch.specs.Calls.{dispatch_gate, dispatched_on, dispatches_sound, dispatches}
use Rattle.receive.specs.Calls.{receives_from, receives_sound, receives}
use Rattle.arrival.specs.Arrivals.{arrived_slot}
use Rattle.arrival.specs.declared.Arrival.{Arrival}
use Rattle.arrival.specs.declared.Fate.TheVariants as fate
use Rattle.arrive_reliable.specs.Holding.{held_with}
use Rattle.arrive_unsequenced.specs.Calls.{arrives_unsequenced}
use Rattle.arrive_reliable.specs.Calls.{channel_of, reliable_after, arrives_reliable}
use Rattle.laws.proofs.Unsequenced.{unsequenced_has}
use Rattle.laws.proofs.Reliable.{reliable_has}
use Rattle.laws.specs.Transit.{loads, Carries}
use Rattle.laws.proofs.Carrying.{fresh_carries, reset_carries, begin_carries, state_carries, setup_carries, send_carries, ping_carries, step_carries}
use Rattle.laws.proofs.Carrying.{acknowledge_carries, check_carries, throttle_carries}
use Rattle.link_out.specs.Steps.{calls_out}
use Rattle.link_out.specs.declared.calls.Call.{Call as Outward}
use Rattle.link_out.specs.declared.calls.Call.TheVariants as out
use Rattle.link_in.specs.declared.calls.Call.TheVariants as inw
use Rattle.link.specs.Steps.{calls}
use Rattle.link.specs.Runs.{Asked, comes_to, run, reset_state}
use Rattle.link.specs.declared.calls.Call.{Call}
use Rattle.link.specs.declared.calls.Call.TheVariants as call
use Rattle.promises.proofs.Pieces.{fragment_keeps}
use Rattle.promises.specs.Standing.{ShortPiece, Short, AllShort, InTransit}

-- a property of the record that refusals leave
abbrev Carried : Outcome Peer → Type 0
Carried o = Carries o.after

abbrev gate : Settings → Peer → Result ⊤ Refusal
gate s p = gate_of (fits s lent.Nothing) (sound p)

-- ---- dispatch, alone and behind a reliable arrival: of the lists it changes dispatched alone
dispatched_sent : (slots : List Incoming) (c : Channel) (l : Lists) (g : Unsequenced) → (dispatched_by slots c l g).lists.sent ≡ l.sent
dispatched_sent slots c l g =
    let n = c.incoming_reliable.0 in
    go (moved_on (ready_count slots (in_items c.held) n) (ready_last slots (in_items c.held) n) c l g) refl (eqb (ready_count slots (in_items c.held) n) 0)
  where
    go : (d : Dispatched) → d.lists.sent ≡ l.sent → (b : Bool) → (pick b (record { channel = c; lists = l; unsequenced = g }) d).lists.sent ≡ l.sent
    go d e true = refl
    go d e false = e

-- another sent list that is the same
same_carries : (p : Peer) (l : OutList) → l ≡ p.lists.sent → Carries p → p.flow.transit ≡ loads p.outgoing (out_items l) % 2 ^ 32
same_carries p l e c = c.is ∙ ap (λ (k : OutList). loads p.outgoing (out_items k) % 2 ^ 32) (sym e)

dispatch_carries : (s : Settings) (channel : ℕ) (p : Peer) → Carries p → Carries (dispatches s channel p).after
dispatch_carries s channel p c =
    behind_has (gate s p) p (dispatches_sound channel p) Carried (λ why. c)
    (λ e. behind_has (dispatch_gate channel p.standing) p (finished (dispatched_on channel p)) Carried (λ why. c)
    (λ own.
    record {
      low = c.low;
      is = same_carries p _ (dispatched_sent p.incoming (get_or p.channels channel no_channel) p.lists p.unsequenced) c;
    }))

receive_carries : (s : Settings) (p : Peer) → Carries p → Carries (receives s p).after
receive_carries s p c = behind_has (gate s p) p (receives_sound p) Carried (λ why. c) (λ e. go (first (in_items p.lists.dispatched)))
  where
    go : (f : Option ℕ) → Carries (receives_from f p).after
    go None = c
    go (Some n) = record { low = c.low; is = c.is }

-- ---- the arrivals
module _ (s : Settings) (a : Arrival) (datagram : List ℕ) (x : State) (c : Carries x.peer) where
  unsequenced_carries : (group : Group) → Carries (arrives_unsequenced s a group datagram x).after.peer
  unsequenced_carries group =
      unsequenced_has s a group datagram x (λ (o : Outcome State). Carries o.after.peer) (λ why. c)
      (λ good e. record { low = c.low; is = c.is })
      (λ good e. record { low = c.low; is = c.is })
      (λ n good long may e. record { low = c.low; is = c.is })

  stored_carries : (n : ℕ) → Carries (reliable_after (fate.Stored n) a datagram x).peer
  stored_carries n =
      let p = x.peer in
      record {
        low = c.low;
        is =
            same_carries p _
            (dispatched_sent (set p.incoming n (arrived_slot a)) (held_with p.incoming (channel_of a p) a.number.0 n) p.lists p.unsequenced) c;
      }

  reliable_carries : Carries (arrives_reliable s a datagram x).after.peer
  reliable_carries =
      reliable_has s a datagram x (λ (o : Outcome State). Carries o.after.peer) (λ why. c) (λ good e. c) (λ n good long may e. stored_carries n)

-- ---- each call, and a run
outward_carries : (s : Settings) (a : Outward) (p : Peer) → ShortPiece a → Carries p → Carries (calls_out s a p).after
outward_carries s out.Ping p h c = ping_carries s p c
outward_carries s (out.Send channel length flags) p h c = send_carries s channel length flags p c
outward_carries s (out.Setup x) p h c = setup_carries s x h p c
outward_carries s (out.SendStep q time) p h c = step_carries s q time p c
outward_carries s (out.Acknowledgement channel number sent clock) p h c = acknowledge_carries s channel number.0 sent clock p c
outward_carries s (out.TimeoutCheck clock) p h c = check_carries s clock p c
outward_carries s (out.Throttle sample) p h c = throttle_carries s sample p c

call_carries : (a : Call) (s : Settings) (datagram : List ℕ) (x : State) → Short a → Carries x.peer → Carries (calls s a datagram x).after.peer
call_carries call.Reset s datagram x h c = reset_carries s x.peer c
call_carries (call.Begin mtu count) s datagram x h c = begin_carries s mtu count x.peer c
call_carries (call.SetState state) s datagram x h c = state_carries s state x.peer c
call_carries (call.Outward a) s datagram x h c = outward_carries s a x.peer h c
call_carries (call.Inward (inw.UnsequencedArrival a group)) s datagram x h c = unsequenced_carries s a datagram x c group
call_carries (call.Inward (inw.ReliableArrival a)) s datagram x h c = reliable_carries s a datagram x c
call_carries (call.Inward (inw.FragmentArrival a)) s datagram x h c =
    fragment_keeps s a datagram x Carries (λ n q k. record { low = k.low; is = k.is }) (λ n q k. record { low = k.low; is = k.is })
    (λ q k.
    record {
      low = k.low;
      is = same_carries q _ (dispatched_sent q.incoming (get_or q.channels a.channel no_channel) q.lists q.unsequenced) k;
    }) c
call_carries (call.Inward (inw.Dispatch channel)) s datagram x h c = dispatch_carries s channel x.peer c
call_carries (call.Inward inw.Receive) s datagram x h c = receive_carries s x.peer c

run_carries : (calls : List Asked) (x : State) → AllShort calls → Carries x.peer → Carries (run calls x).end.peer
unfolding run
run_carries [] x h c = c
run_carries (a ∷ rest) x h c = run_carries rest (comes_to a x).after h.1 (call_carries a.call a.settings a.datagram x h.0 c)

pub in_transit : InTransit
in_transit mtu kept store second calls h = (run_carries calls (reset_state mtu kept store second) h (fresh_carries mtu kept)).is
