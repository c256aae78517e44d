-- What stands in the slots, through every call: the marks stay by the calls that bring and take nothing in, a reset leaves no slot named, and each other call has its law.
-- The argument: none of those calls names the marks; the rest is Building's and Fragments'.
use Rattle.std.specs.Prelude.{None, Option, Some}
use Prim.Native.Nat.{ℕ}
use mathlib.Core.Path.{◌≡◌, refl, ◌∙◌}
use mathlib.Core.Bool.{Bool, true, false}
use mathlib.Core.List.{List, [], ◌∷◌}
use native.Mathlib.Omega.{arith}
use lib.Dec.{leb}
use lib.ListN.{length}
use Rattle.std.specs.Prelude.{⊤, Result}
use Rattle.numbers.specs.Pick.{pick}
use Rattle.numbers.specs.declared.refusals.Refusal.{Refusal}
use Rattle.numbers.specs.declared.refusals.Refusal.TheVariants.{OutOfRange}
use Rattle.record.specs.Lists.{outgoing, out_items}
use Rattle.cells.specs.Runs.{first}
use Rattle.cells.specs.Free.{lowest}
use Rattle.record.specs.Fresh.{no_lists}
use Rattle.record.specs.Damage.{held, used_out}
use Rattle.record.specs.declared.groups.Incoming.{Incoming}
use Rattle.record.specs.declared.groups.Marks.{Marks}
use Rattle.peer.specs.Damage.{sound}
use Rattle.peer.specs.Fresh.{fresh_peer}
use Rattle.peer.specs.Outcome.{State, Outcome, finished, unchanged}
use Rattle.peer.specs.Settings.{fit_settings}
use Rattle.peer.specs.Sounds.{Whole}
use Rattle.peer.specs.States.{last_state}
use Rattle.peer.specs.Gate.{fits, gate_of, behind, on_record}
use Rattle.peer.specs.declared.settings.Settings.{Settings}
use Rattle.peer.specs.declared.Peer.{Peer}
use Rattle.peer.specs.declared.defaults.Kept.{Kept}
use Rattle.peer.specs.declared.gate.Lent.TheVariants as lent
use Rattle.peer.proofs.Gates.{behind_has}
use Rattle.lifecycle.specs.Calls.{kept, begin_fits, begun, begins_sound, begins, stated, sets_state_sound, sets_state}
use Rattle.outbox.specs.declared.pieces.Piece.{Piece}
use Rattle.setup.specs.Queueing.{room, queued_in, queued_at, queued, queued_all}
use Rattle.setup.specs.Calls.{setup_gate, sets_up_sound}
use Rattle.packets.specs.Refusals.{send_gate, queue_gate}
use Rattle.send.specs.Calls.{fragment, commands, queues_all, sends_sound}
use Rattle.setup.specs.Pings.{ping_piece, ping_gate, pings_sound}
use Rattle.send_step.specs.Steps.{list_of, sent_as}
use Rattle.send_step.specs.Calls.{steps_from, steps_sound}
use Rattle.send_step.specs.declared.heads.Queue.{Queue}
use Rattle.acknowledge.specs.Calls.{heard_in, acknowledges_by, acknowledges_sound}
use Rattle.timeouts.specs.Calls.{checks_sound}
use Rattle.round_trip.specs.Calls.{throttles_sound}
use Rattle.link_out.specs.Steps.{calls_out}
use Rattle.link_out.specs.declared.calls.Call.{Call as Outward}
use Rattle.link_out.specs.declared.calls.Call.TheVariants as out
use Rattle.link_in.specs.Steps.{beside}
use Rattle.link.specs.Steps.{calls}
use Rattle.link.specs.Runs.{packets_of, reset_state}
use Rattle.link_in.specs.declared.calls.Call.TheVariants as inw
use Rattle.link.specs.declared.calls.Call.{Call}
use Rattle.link.specs.declared.calls.Call.TheVariants as call
use Rattle.promises.specs.Packets.{Building, builds, put_in, Ledger, fresh_ledger, is_reset}
use Rattle.promises.proofs.Picks.{picked}
use Rattle.promises.proofs.Presence.{with}
use Rattle.promises.proofs.Quiet.{begin_still, state_still, outward_still}
use Rattle.promises.proofs.Building.{OfBlock, Stock, still_stock, dispatch_stock, receive_stock, unsequenced_stock, reliable_stock}
use Rattle.promises.proofs.Fragments.{Blocked, Grows, fragment_pieced}

-- ---- the marks stay
abbrev Unmarked : Peer → Peer → Type 0
Unmarked p q = q.marks ≡ p.marks

behind_marks : (p : Peer) (g : Result ⊤ Refusal) (rest : Outcome Peer) → Unmarked p rest.after → Unmarked p (behind g p rest).after
behind_marks p g rest h = behind_has g p rest (λ (o : Outcome Peer). Unmarked p o.after) (λ why. refl) (λ e. h)

on_marks : (s : Settings) (p : Peer) (rest : Outcome Peer) → Unmarked p rest.after → Unmarked p (on_record s p rest).after
on_marks s p rest h = behind_marks p (gate_of (fits s lent.Nothing) (sound p)) rest h

begin_marks : (s : Settings) (mtu count : ℕ) (p : Peer) → Unmarked p (begins s mtu count p).after
begin_marks s mtu count p =
    on_marks s p (begins_sound mtu count p)
    (picked (λ (o : Outcome Peer). Unmarked p o.after) (begin_fits mtu count p.standing.channels) (finished (begun mtu count p)) (unchanged OutOfRange p) refl
    refl)

state_marks : (s : Settings) (state : ℕ) (p : Peer) → Unmarked p (sets_state s state p).after
state_marks s state p =
    on_marks s p (sets_state_sound state p)
    (picked (λ (o : Outcome Peer). Unmarked p o.after) (leb state last_state) (finished (stated state p)) (unchanged OutOfRange p) refl refl)

queued_marks : (x : Piece) (p : Peer) → Unmarked p (queued x p)
unfolding queued queued_at
queued_marks x p = go (lowest outgoing (used_out p.lists))
  where
    go : (f : Option ℕ) → Unmarked p (queued_in f x p)
    go (Some n) = refl
    go None = refl

all_marks : (xs : List Piece) (p : Peer) → Unmarked p (queued_all xs p)
unfolding queued_all
all_marks [] p = refl
all_marks (x ∷ xs) p = all_marks xs (queued x p) ∙ queued_marks x p

step_marks : (f : Option ℕ) (q : Queue) (time : ℕ) (p : Peer) → Unmarked p (steps_from f q time p).after
unfolding sent_as
step_marks None q time p = refl
step_marks (Some n) q time p = refl

by_marks : (t : Option ℕ) (channel number clock : ℕ) (p : Peer) → Unmarked p (acknowledges_by t channel number clock p).after
by_marks None channel number clock p = refl
by_marks (Some sample) channel number clock p = refl

outward_marks : (s : Settings) (c : Outward) (p : Peer) → Unmarked p (calls_out s c p).after
outward_marks s out.Ping p =
    on_marks s p (pings_sound p) (behind_marks p (ping_gate p.standing (room p)) (finished (queued ping_piece p)) (queued_marks ping_piece p))
outward_marks s (out.Send channel long flags) p =
    let xs = commands (fragment s p) channel long flags p in
    on_marks s p (sends_sound s channel long flags p)
    (behind_marks p (send_gate s channel long p.standing) (queues_all xs p)
    (behind_marks p (queue_gate (length xs) (room p)) (finished (queued_all xs p)) (all_marks xs p)))
outward_marks s (out.Setup x) p =
    on_marks s p (sets_up_sound x p) (behind_marks p (setup_gate x p.standing.channels (room p)) (finished (queued x p)) (queued_marks x p))
outward_marks s (out.SendStep q time) p = on_marks s p (steps_sound q time p) (step_marks (first (out_items (list_of q p.lists))) q time p)
outward_marks s (out.Acknowledgement channel number sent clock) p =
    on_marks s p (acknowledges_sound channel number.0 sent clock p) (by_marks (heard_in p.standing.state clock sent) channel number.0 clock p)
outward_marks s (out.TimeoutCheck clock) p = on_marks s p (checks_sound clock p) refl
outward_marks s (out.Throttle sample) p = on_marks s p (throttles_sound sample p) refl

-- ---- the ledger after a call that comes to this
abbrev pub written : Call → List ℕ → State → Outcome State → Ledger → Ledger
written c datagram x o l =
    let b = builds c datagram x o.answer l.building in
    pick (is_reset c o.answer) fresh_ledger (with l x o.after (put_in c o.answer datagram b) (packets_of c o.answer x) b)

-- after a reset no slot is named
pub fresh_stock : {B : OfBlock} (mtu : ℕ) (k : Kept) (store second : List ℕ) → Stock B (reset_state mtu k store second)
unfolding fresh_peer no_lists held
fresh_stock mtu k store second =
    record { packet = λ s h. absurd (omega (arith, h)); block = λ s h. absurd (omega (arith, h)); out = λ s h. absurd (omega (arith, h)) }

-- a piece goes on with what is known
abbrev pub GrowsBy : (Building → OfBlock) → Settings → Call → List ℕ → Building → Type 0
GrowsBy B s (call.Inward (inw.FragmentArrival a)) datagram b = Grows B s.packet a datagram b
GrowsBy B s (call.Inward (inw.UnsequencedArrival a group)) datagram b = Unit {0}
GrowsBy B s (call.Inward (inw.ReliableArrival a)) datagram b = Unit {0}
GrowsBy B s (call.Inward (inw.Dispatch channel)) datagram b = Unit {0}
GrowsBy B s (call.Inward inw.Receive) datagram b = Unit {0}
GrowsBy B s call.Reset datagram b = Unit {0}
GrowsBy B s (call.Begin mtu channels) datagram b = Unit {0}
GrowsBy B s (call.SetState state) datagram b = Unit {0}
GrowsBy B s (call.Outward c) datagram b = Unit {0}

module _ (B : Building → OfBlock) (blocked : (b : Building) (m : Marks) (second : List ℕ) (i : Incoming) → B b m second i → Blocked b m second i) where
  abbrev Goes : Settings → Call → List ℕ → State → Ledger → Type 0
  Goes s c datagram x l = let o = calls s c datagram x in Stock (B (written c datagram x o l).building) o.after

  reset_stock : (s : Settings) (datagram : List ℕ) (x : State) (l : Ledger) → Stock (B l.building) x → Goes s call.Reset datagram x l
  reset_stock s datagram x l k = go (fit_settings s)
    where
      go : (t : Bool) → let o = beside x (pick t (finished (fresh_peer s.mtu (kept x.peer))) (unchanged OutOfRange x.peer)) in
          Stock (B (written call.Reset datagram x o l).building) o.after
      go true = fresh_stock s.mtu (kept x.peer) x.store x.second
      go false = k

  pub call_stock : (c : Call) (s : Settings) (datagram : List ℕ) (x : State) (l : Ledger) → Whole x.peer → GrowsBy B s c datagram l.building
      → Stock (B l.building) x → Goes s c datagram x l
  call_stock call.Reset s datagram x l w g k = reset_stock s datagram x l k
  call_stock (call.Begin mtu channels) s datagram x l w g k =
      still_stock x (begins s mtu channels x.peer).after (begin_still s mtu channels x.peer) (begin_marks s mtu channels x.peer) k
  call_stock (call.SetState state) s datagram x l w g k =
      still_stock x (sets_state s state x.peer).after (state_still s state x.peer) (state_marks s state x.peer) k
  call_stock (call.Outward c) s datagram x l w g k =
      still_stock x (calls_out s c x.peer).after (outward_still s c x.peer) (outward_marks s c x.peer) k
  call_stock (call.Inward (inw.UnsequencedArrival a group)) s datagram x l w g k = unsequenced_stock s a datagram x w k group
  call_stock (call.Inward (inw.ReliableArrival a)) s datagram x l w g k = reliable_stock s a datagram x w k
  call_stock (call.Inward (inw.FragmentArrival a)) s datagram x l w g k = (fragment_pieced B blocked s a datagram x l.building w g k).stock
  call_stock (call.Inward (inw.Dispatch channel)) s datagram x l w g k = dispatch_stock s channel x w k
  call_stock (call.Inward inw.Receive) s datagram x l w g k = receive_stock s x k
