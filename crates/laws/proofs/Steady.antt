-- Each call but reset and the arrivals, for all inputs, refused or not, leaves base, words and waiting total as they were; but receive lowers the
-- total by the length that it replies. The reliable arrival leaves base and words. (What the arrivals do to the total: `arrived` Stores; what the
-- unsequenced one does to base and words: `arrived` Landing.) The argument: no rule names these parts; a send is setups in order.
use Rattle.std.specs.Prelude.{None, Option, Some}
use Prim.Native.Nat.{ℕ}
use mathlib.Core.Path.{◌≡◌, refl, ap, ◌∙◌}
use mathlib.Core.Bool.{Bool, true, false}
use mathlib.Core.List.{List, [], ◌∷◌}
use mathlib.Core.Logic.{inl, inr, ⊎_elim}
use native.Mathlib.Omega.{arith}
use lib.Dec.{leb, eqb}
use lib.ListN.{length, get_or, set}
use Rattle.std.specs.Prelude.{⊤, Result, Ok, Some}
use Rattle.numbers.specs.Pick.{pick}
use Rattle.numbers.specs.Answers.{Answer, numbers_of}
use Rattle.numbers.proofs.Settled.{refused_not_done}
use Rattle.numbers.specs.declared.refusals.Refusal.{Refusal}
use Rattle.numbers.specs.declared.refusals.Refusal.TheVariants.{OutOfRange}
use Rattle.record.specs.Lists.{outgoing, out_items, in_items}
use Rattle.cells.specs.Runs.{first}
use Rattle.cells.specs.Free.{lowest}
use Rattle.record.specs.Damage.{below, used_out}
use Rattle.record.specs.Fresh.{no_incoming}
use Rattle.record.specs.Blocks.{is_block}
use Rattle.record.specs.declared.groups.Lists.{Lists}
use Rattle.record.specs.declared.groups.Unsequenced.{Unsequenced}
use Rattle.record.specs.declared.groups.Waiting.{Waiting}
use Rattle.record.specs.declared.groups.Channel.{Channel}
use Rattle.record.specs.declared.groups.Incoming.{Incoming}
use Rattle.peer.specs.Damage.{sound}
use Rattle.peer.specs.Outcome.{State, Outcome, finished, unchanged}
use Rattle.peer.specs.States.{last_state}
use Rattle.peer.specs.Gate.{fits, gate_of, behind}
use Rattle.peer.specs.declared.settings.Settings.{Settings}
use Rattle.peer.specs.declared.Peer.{Peer}
use Rattle.peer.specs.declared.gate.Lent.TheVariants as lent
use Rattle.peer.proofs.Gates.{sound_open, behind_has}
use Rattle.peer.proofs.InClauses.{incoming_clauses, total_low}
use Rattle.lifecycle.specs.Calls.{begin_fits, begun, begins_sound, begins, stated, sets_state_sound, sets_state}
use Rattle.outbox.specs.declared.pieces.Piece.{Piece}
use Rattle.setup.specs.Queueing.{room, queued_in, queued_at, queued, queued_all}
use Rattle.setup.specs.Calls.{setup_gate, sets_up_sound, sets_up}
use Rattle.packets.specs.Refusals.{send_gate, queue_gate}
use Rattle.send.specs.Calls.{fragment, commands, queues_all, sends_sound, sends}
use Rattle.setup.specs.Pings.{ping_piece, ping_gate, pings_sound, pings}
use Rattle.send_step.specs.Steps.{list_of, sent_as}
use Rattle.send_step.specs.Calls.{steps_from, steps_sound, steps}
use Rattle.send_step.specs.declared.heads.Queue.{Queue}
use Rattle.round_trip.specs.Calls.{throttles}
use Rattle.acknowledge.specs.Calls.{acknowledges}
use Rattle.timeouts.specs.Calls.{checks}
use Rattle.laws.specs.Untouched.{Untouched}
use Rattle.laws.proofs.Untouched.{acknowledge_untouched, check_untouched, throttle_untouched}
use Rattle.dispatch.specs.Calls.{dispatches}
use Rattle.dispatch.proofs.Moving.{dispatch_keeps}
use Rattle.receive.specs.Calls.{answer_of, reply_of, receives_from, receives_sound, receives}
use Rattle.receive.specs.declared.Received.TheVariants as vr
use Rattle.receive.proofs.Sound.{minus_plain, sum}
use Rattle.receive.proofs.Taking.{receive_keeps}
use Rattle.dispatch.specs.Dispatching.{ready_count, ready_last, moved_on, dispatched_by}
use Rattle.dispatch.specs.Dispatching.{Dispatched}
use Rattle.arrival.specs.Arrivals.{arrived_slot}
use Rattle.arrival.specs.declared.Arrival.{Arrival}
use Rattle.arrival.specs.declared.Fate.TheVariants as fate
use Rattle.arrive_reliable.specs.Holding.{held_with}
use Rattle.arrive_reliable.specs.Calls.{channel_of, reliable_after, arrives_reliable}
use Rattle.laws.proofs.Reliable.{reliable_has}
use Rattle.laws.specs.Steady.{SameWindow, Steady, HandedOut, Lowers, stays, lowers}

same : (p : Peer) → Steady p p
same p = record { window = record { base = refl; words = refl }; total = refl }

after : {p q r : Peer} → Steady p q → Steady q r → Steady p r
after s t =
    record {
      window = record { base = t.window.base ∙ s.window.base; words = t.window.words ∙ s.window.words };
      total = t.total ∙ s.total;
    }

-- what is behind any gate
module _ (p : Peer) (g : Result ⊤ Refusal) (rest : Outcome Peer) where
  behind_steady : Steady p rest.after → Steady p (behind g p rest).after
  behind_steady s = behind_has g p rest (λ (o : Outcome Peer). Steady p o.after) (λ why. same p) (λ e. s)

abbrev gate : Settings → Peer → Result ⊤ Refusal
gate s p = gate_of (fits s lent.Nothing) (sound p)

pub begin_steady : (s : Settings) (mtu count : ℕ) (p : Peer) → Steady p (begins s mtu count p).after
begin_steady s mtu count p = behind_steady p (gate s p) (begins_sound mtu count p) (go (begin_fits mtu count p.standing.channels))
  where
    go : (b : Bool) → Steady p (pick b (finished (begun mtu count p)) (unchanged OutOfRange p)).after
    go true = record { window = record { base = refl; words = refl }; total = refl }
    go false = same p

pub state_steady : (s : Settings) (state : ℕ) (p : Peer) → Steady p (sets_state s state p).after
state_steady s state p = behind_steady p (gate s p) (sets_state_sound state p) (go (leb state last_state))
  where
    go : (b : Bool) → Steady p (pick b (finished (stated state p)) (unchanged OutOfRange p)).after
    go true = record { window = record { base = refl; words = refl }; total = refl }
    go false = same p

-- one command set up, and one after another
queued_steady : (x : Piece) (p : Peer) → Steady p (queued x p)
unfolding queued queued_at
queued_steady x p = go (lowest outgoing (used_out p.lists))
  where
    go : (f : Option ℕ) → Steady p (queued_in f x p)
    go (Some n) = record { window = record { base = refl; words = refl }; total = refl }
    go None = same p

all_steady : (xs : List Piece) (p : Peer) → Steady p (queued_all xs p)
unfolding queued_all
all_steady [] p = same p
all_steady (x ∷ xs) p = after (queued_steady x p) (all_steady xs (queued x p))

pub setup_steady : (s : Settings) (x : Piece) (p : Peer) → Steady p (sets_up s x p).after
setup_steady s x p =
    behind_steady p (gate s p) (sets_up_sound x p)
    (behind_steady p (setup_gate x p.standing.channels (room p)) (finished (queued x p)) (queued_steady x p))

pub send_steady : (s : Settings) (channel long flags : ℕ) (p : Peer) → Steady p (sends s channel long flags p).after
send_steady s channel long flags p =
    let xs = commands (fragment s p) channel long flags p in
    behind_steady p (gate s p) (sends_sound s channel long flags p)
    (behind_steady p (send_gate s channel long p.standing) (queues_all xs p)
    (behind_steady p (queue_gate (length xs) (room p)) (finished (queued_all xs p)) (all_steady xs p)))

pub ping_steady : (s : Settings) (p : Peer) → Steady p (pings s p).after
ping_steady s p =
    behind_steady p (gate s p) (pings_sound p)
    (behind_steady p (ping_gate p.standing (room p)) (finished (queued ping_piece p)) (queued_steady ping_piece p))

pub step_steady : (s : Settings) (q : Queue) (time : ℕ) (p : Peer) → Steady p (steps s q time p).after
unfolding sent_as
step_steady s q time p = behind_steady p (gate s p) (steps_sound q time p) (go (first (out_items (list_of q p.lists))))
  where
    go : (f : Option ℕ) → Steady p (steps_from f q time p).after
    go None = same p
    go (Some n) = record { window = record { base = refl; words = refl }; total = refl }

pub dispatch_steady : (s : Settings) (channel : ℕ) (p : Peer) → Steady p (dispatches s channel p).after
dispatch_steady s channel p =
    let k = dispatch_keeps channel p s in
    record { window = record { base = k.base; words = k.words }; total = ap (λ (w : Waiting). w.total) k.waiting }

-- acknowledgement, throttle and timeout check leave the whole incoming side
untouched_steady : (p q : Peer) → Untouched p q → Steady p q
untouched_steady p q u =
    record {
      window = record { base = ap (λ (g : Unsequenced). g.incoming) u.unsequenced; words = ap (λ (g : Unsequenced). g.words) u.unsequenced };
      total = ap (λ (w : Waiting). w.total) u.waiting;
    }

pub acknowledge_steady : (s : Settings) (channel number sent clock : ℕ) (p : Peer)
    → Steady p (acknowledges s channel number sent clock p).after
acknowledge_steady s channel number sent clock p =
    untouched_steady p (acknowledges s channel number sent clock p).after (acknowledge_untouched s channel number sent clock p)

pub check_steady : (s : Settings) (clock : ℕ) (p : Peer) → Steady p (checks s clock p).after
check_steady s clock p = untouched_steady p (checks s clock p).after (check_untouched s clock p)

pub throttle_steady : (s : Settings) (sample : ℕ) (p : Peer) → Steady p (throttles s sample p).after
throttle_steady s sample p = untouched_steady p (throttles s sample p).after (throttle_untouched s sample p)

pub receive_window : (s : Settings) (p : Peer) → SameWindow p (receives s p).after
receive_window s p =
    let k = receive_keeps s p in
    record { base = ap (λ (g : Unsequenced). g.incoming) k.unsequenced; words = ap (λ (g : Unsequenced). g.words) k.unsequenced }

-- what is replied for a slot
handed : (i : Incoming) (n : ℕ) → HandedOut (answer_of (reply_of i n)) i.channel n i.length
handed i n = go (is_block i)
  where
    go : (b : Bool) → HandedOut (answer_of (Ok (Some (pick b (vr.Block i.channel n i.length) (vr.Packet i.channel n i.length))))) i.channel n i.length
    go true = inr refl
    go false = inl refl

-- the total is as it was, or lower by the length that is replied
pub receive_lowers : (s : Settings) (p : Peer) → Lowers p (receives s p)
receive_lowers s p =
    behind_has (gate s p) p (receives_sound p) (Lowers p)
    (λ why. stays refl (λ c n l. ⊎_elim (λ e. refused_not_done why (ap (λ (a : Answer). a.number) e)) (λ e. refused_not_done why (ap (λ (a : Answer). a.number) e))))
    (λ e. go (sound_open (fits s lent.Nothing) (sound p) e) (in_items p.lists.dispatched) refl)
  where
    go : sound p ≡ true → (xs : List ℕ) → in_items p.lists.dispatched ≡ xs → Lowers p (receives_from (first xs) p)
    go good [] e =
        stays refl
        (λ c n l.
        ⊎_elim (λ e. omega (arith, ap (λ (a : Answer). get_or (numbers_of a) 0 0) e)) (λ e. omega (arith, ap (λ (a : Answer). get_or (numbers_of a) 0 0) e)))
    go good (n ∷ rest) e =
        let i = get_or p.incoming n no_incoming in
        let cs = below p.channels p.standing.channels in
        let w = incoming_clauses p good in
        let low = total_low p.marks p.incoming p.lists cs p.standing.channels p.waiting.total w in
        let is = sum p.marks p.incoming p.lists cs p.standing.channels p.waiting.total w n rest e in
        lowers i.channel n i.length (handed i n)
        (omega (arith, is, minus_plain p.waiting.total i.length _ is (omega (arith, low))))

-- a dispatch changes the flags of the groups alone
flag_alone : (slots : List Incoming) (c : Channel) (l : Lists) (g : Unsequenced)
    → ((dispatched_by slots c l g).unsequenced.incoming ≡ g.incoming) × ((dispatched_by slots c l g).unsequenced.words ≡ g.words)
flag_alone slots c l g =
    let n = ready_count slots (in_items c.held) c.incoming_reliable.0 in
    go (moved_on n (ready_last slots (in_items c.held) c.incoming_reliable.0) c l g) refl refl (eqb n 0)
  where
    go : (d : Dispatched) → d.unsequenced.incoming ≡ g.incoming → d.unsequenced.words ≡ g.words → (b : Bool)
        → ((pick b (record { channel = c; lists = l; unsequenced = g }) d).unsequenced.incoming ≡ g.incoming)
        × ((pick b (record { channel = c; lists = l; unsequenced = g }) d).unsequenced.words ≡ g.words)
    go d base words true = (refl, refl)
    go d base words false = (base, words)

pub reliable_window : (s : Settings) (a : Arrival) (datagram : List ℕ) (x : State)
    → SameWindow x.peer (arrives_reliable s a datagram x).after.peer
reliable_window s a datagram x =
    reliable_has s a datagram x (λ (o : Outcome State). SameWindow x.peer o.after.peer)
    (λ why. record { base = refl; words = refl }) (λ good e. record { base = refl; words = refl }) (λ n good long may e. dispatched n)
  where
    dispatched : (n : ℕ) → SameWindow x.peer (reliable_after (fate.Stored n) a datagram x).peer
    dispatched n =
        let d = flag_alone (set x.peer.incoming n (arrived_slot a)) (held_with x.peer.incoming (channel_of a x.peer) a.number.0 n)
        x.peer.lists x.peer.unsequenced in
        record { base = d.0; words = d.1 }
