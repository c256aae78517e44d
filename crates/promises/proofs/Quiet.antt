-- The calls that leave what the incoming lists name, and what it holds: begin, set state, ping, send, setup, send step, acknowledgement, timeout check
-- and throttle. The argument: none names the incoming slots or dispatched; of a channel setup changes two numbers alone; begin makes channels new
-- only where none counted.
use Rattle.std.specs.Prelude.{None, Option, Some}
use Prim.Native.Nat.{ℕ}
use mathlib.Core.Path.{◌≡◌, refl, ap, sym, ◌∙◌}
use mathlib.Core.Bool.{Bool, true, false}
use mathlib.Core.List.{List, [], ◌∷◌, ◌++◌}
use lib.Dec.{leb}
use lib.ListN.{length, take}
use borrow.Author.Tests.{eqb-true}
use Rattle.std.specs.Prelude.{⊤, Result}
use Rattle.numbers.specs.Pick.{pick}
use Rattle.numbers.specs.Limits.{mtu_fits}
use Rattle.numbers.specs.declared.refusals.Refusal.{Refusal}
use Rattle.numbers.specs.declared.refusals.Refusal.TheVariants.{OutOfRange}
use Rattle.numbers.proofs.BoolLaws.{both_right}
use Rattle.record.specs.Lists.{outgoing, out_items, in_items}
use Rattle.record.specs.declared.incoming.InList.{InList}
use Rattle.cells.specs.Runs.{first}
use Rattle.cells.specs.Free.{lowest}
use Rattle.record.specs.Sizes.{channels}
use Rattle.record.specs.Damage.{below, held, used_out}
use Rattle.record.specs.Updates.{with_sent_list, longer}
use Rattle.record.specs.declared.groups.Lists.{Lists}
use Rattle.record.specs.declared.groups.Channel.{Channel}
use Rattle.record.specs.declared.groups.Outgoing.{Outgoing}
use Rattle.peer.specs.Damage.{sound}
use Rattle.peer.specs.Outcome.{Outcome, finished, unchanged}
use Rattle.peer.specs.States.{last_state}
use Rattle.peer.specs.Gate.{fits, gate_of, behind, on_record}
use Rattle.peer.specs.declared.settings.Settings.{Settings}
use Rattle.peer.specs.declared.Peer.{Peer}
use Rattle.peer.specs.declared.gate.Lent.TheVariants as lent
use Rattle.peer.proofs.Gates.{behind_has}
use Rattle.lifecycle.specs.Calls.{begin_fits, begun, begins_sound, begins, stated, sets_state_sound, sets_state}
use Rattle.lifecycle.proofs.Sound.{held_none}
use Rattle.outbox.specs.declared.pieces.Piece.{Piece}
use Rattle.setup.specs.Queueing.{room, stamp_of, queued_in, queued_at, queued, queued_all}
use Rattle.setup.specs.Calls.{setup_gate, sets_up_sound, sets_up}
use Rattle.setup.proofs.Joining.{joined_dispatched}
use Rattle.setup.proofs.Sound.{named as setup-named}
use Rattle.packets.specs.Refusals.{send_gate, queue_gate}
use Rattle.send.specs.Calls.{fragment, commands, queues_all, sends_sound, sends}
use Rattle.setup.specs.Pings.{ping_piece, ping_gate, pings_sound, pings}
use Rattle.send_step.specs.Steps.{list_of, head, is_acknowledged, without_head, lists_sent, sent_as}
use Rattle.send_step.specs.Calls.{steps_from, steps_sound, steps}
use Rattle.send_step.specs.declared.heads.Queue.{Queue}
use Rattle.send_step.specs.declared.heads.Queue.TheVariants as queue
use Rattle.round_trip.specs.Calls.{throttles_sound, throttles}
use Rattle.acknowledge.specs.Removal.{spot_of}
use Rattle.acknowledge.specs.Calls.{heard_in, acknowledges_by, acknowledges_sound, acknowledges}
use Rattle.timeouts.specs.Calls.{checks_sound, checks}
use Rattle.laws.proofs.Acknowledged.{same_dispatched}
use Rattle.link_out.specs.Steps.{calls_out}
use Rattle.link_out.specs.declared.calls.Call.{Call as Outward}
use Rattle.link_out.specs.declared.calls.Call.TheVariants as out
use Rattle.promises.proofs.Presence.{named, Still, still}

then : {p q r : Peer} → Still p q → Still q r → Still p r
then j k = record { slots = k.slots ∙ j.slots; items = k.items ∙ j.items; names = k.names ∙ j.names }

behind_still : (p : Peer) (g : Result ⊤ Refusal) (rest : Outcome Peer) → Still p rest.after → Still p (behind g p rest).after
behind_still p g rest k = behind_has g p rest (λ (o : Outcome Peer). Still p o.after) (λ why. still p) (λ e. k)

-- and the gate of every call
on_still : (s : Settings) (p : Peer) (rest : Outcome Peer) → Still p rest.after → Still p (on_record s p rest).after
on_still s p rest k = behind_still p (gate_of (fits s lent.Nothing) (sound p)) rest k

-- other lists, with the same dispatched
listed : (p : Peer) {d : InList} → d ≡ p.lists.dispatched → in_items d ++ held (below p.channels p.standing.channels) ≡ named p
listed p e = ap (λ (d : InList). in_items d ++ held (below p.channels p.standing.channels)) e

-- ---- begin: no channel counted, and those made new hold nothing
none_counted : (cs : List Channel) (n : ℕ) → n ≡ 0 → held (take n cs) ≡ []
unfolding held
none_counted cs n z = ap (λ (k : ℕ). held (take k cs)) z

pub begin_still : (s : Settings) (mtu count : ℕ) (p : Peer) → Still p (begins s mtu count p).after
begin_still s mtu count p = on_still s p (begins_sound mtu count p) (go (begin_fits mtu count p.standing.channels) refl)
  where
    go : (b : Bool) → begin_fits mtu count p.standing.channels ≡ b → Still p (pick b (finished (begun mtu count p)) (unchanged OutOfRange p)).after
    go true e =
        let zero_now = both_right (leb count channels) _
        (both_right (leb 1 count) _ (both_right (mtu_fits mtu) _ e)) in
        record {
          slots = refl;
          items = refl;
          names =
              ap (λ (xs : List ℕ). in_items p.lists.dispatched ++ xs)
              (held_none p.incoming channels count ∙ sym (none_counted p.channels p.standing.channels (eqb-true p.standing.channels 0 zero_now)));
        }
    go false e = still p

pub state_still : (s : Settings) (state : ℕ) (p : Peer) → Still p (sets_state s state p).after
state_still s state p = on_still s p (sets_state_sound state p) (go (leb state last_state))
  where
    go : (b : Bool) → Still p (pick b (finished (stated state p)) (unchanged OutOfRange p)).after
    go true = record { slots = refl; items = refl; names = refl }
    go false = still p

-- ---- a piece set up: its channel's list is as it was
queued_still : (x : Piece) (p : Peer) → Still p (queued x p)
unfolding queued queued_at
queued_still x p = go (lowest outgoing (used_out p.lists))
  where
    go : (f : Option ℕ) → Still p (queued_in f x p)
    go (Some n) =
        record {
          slots = refl;
          items = ap in_items (joined_dispatched p.lists n x);
          names =
              setup-named p.incoming p.lists x n p.channels x.command.channel (stamp_of x p).counters p.standing.channels p.waiting.total;
        }
    go None = still p

all_still : (xs : List Piece) (p : Peer) → Still p (queued_all xs p)
unfolding queued_all
all_still [] p = still p
all_still (x ∷ xs) p = then (queued_still x p) (all_still xs (queued x p))

setup_still : (s : Settings) (x : Piece) (p : Peer) → Still p (sets_up s x p).after
setup_still s x p =
    on_still s p (sets_up_sound x p) (behind_still p (setup_gate x p.standing.channels (room p)) (finished (queued x p)) (queued_still x p))

send_still : (s : Settings) (channel long flags : ℕ) (p : Peer) → Still p (sends s channel long flags p).after
send_still s channel long flags p =
    let xs = commands (fragment s p) channel long flags p in
    on_still s p (sends_sound s channel long flags p)
    (behind_still p (send_gate s channel long p.standing) (queues_all xs p)
    (behind_still p (queue_gate (length xs) (room p)) (finished (queued_all xs p)) (all_still xs p)))

ping_still : (s : Settings) (p : Peer) → Still p (pings s p).after
ping_still s p =
    on_still s p (pings_sound p)
    (behind_still p (ping_gate p.standing (room p)) (finished (queued ping_piece p)) (queued_still ping_piece p))

-- ---- a send step changes outgoing lists alone
sent_dispatched : (q : Queue) (l : Lists) (s : ℕ) (o : Outgoing) → (lists_sent q l s o).dispatched ≡ l.dispatched
sent_dispatched q l s o = go q (is_acknowledged o)
  where
    go : (r : Queue) (b : Bool) → (pick b (with_sent_list (without_head r l) (longer l.sent s)) (without_head r l)).dispatched ≡ l.dispatched
    go queue.Outgoing true = refl
    go queue.Outgoing false = refl
    go queue.Reliable true = refl
    go queue.Reliable false = refl

step_still : (s : Settings) (q : Queue) (time : ℕ) (p : Peer) → Still p (steps s q time p).after
unfolding sent_as
step_still s q time p = on_still s p (steps_sound q time p) (go (first (out_items (list_of q p.lists))))
  where
    go : (f : Option ℕ) → Still p (steps_from f q time p).after
    go None = still p
    go (Some n) =
        let came = sent_dispatched q p.lists n (head p n time) in
        record { slots = refl; items = ap in_items came; names = listed p came }

-- ---- and so do these
by_still : (t : Option ℕ) (channel number clock : ℕ) (p : Peer) → Still p (acknowledges_by t channel number clock p).after
by_still None channel number clock p = still p
by_still (Some sample) channel number clock p =
    let came = same_dispatched (spot_of p.outgoing number channel p.lists) p.lists in
    record { slots = refl; items = ap in_items came; names = listed p came }

acknowledge_still : (s : Settings) (channel number sent clock : ℕ) (p : Peer) → Still p (acknowledges s channel number sent clock p).after
acknowledge_still s channel number sent clock p =
    on_still s p (acknowledges_sound channel number sent clock p) (by_still (heard_in p.standing.state clock sent) channel number clock p)

check_still : (s : Settings) (clock : ℕ) (p : Peer) → Still p (checks s clock p).after
check_still s clock p = on_still s p (checks_sound clock p) (record { slots = refl; items = refl; names = refl })

throttle_still : (s : Settings) (sample : ℕ) (p : Peer) → Still p (throttles s sample p).after
throttle_still s sample p = on_still s p (throttles_sound sample p) (record { slots = refl; items = refl; names = refl })

pub outward_still : (s : Settings) (c : Outward) (p : Peer) → Still p (calls_out s c p).after
outward_still s out.Ping p = ping_still s p
outward_still s (out.Send channel long flags) p = send_still s channel long flags p
outward_still s (out.Setup x) p = setup_still s x p
outward_still s (out.SendStep q time) p = step_still s q time p
outward_still s (out.Acknowledgement channel number sent clock) p = acknowledge_still s channel number.0 sent clock p
outward_still s (out.TimeoutCheck clock) p = check_still s clock p
outward_still s (out.Throttle sample) p = throttle_still s sample p
