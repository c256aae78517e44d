-- Demand 1's table as a law: a call answers 0 or a number that it may (`answers_may`), and after every number but 0, 8 and 10 record and store
-- are as they were (`refused_unchanged`); 13 only of a record that is not sound (`sound_undamaged`).
-- The argument: a gate's refusals are read off its tests and leave what they found, what is behind the gates is done, and only an arrival without
-- room (8) and an acknowledgement that removed nothing (10) are refused there.
use Rattle.std.specs.Prelude.{None, Option, Some}
use Prim.Native.Nat.{ℕ}
use mathlib.Core.Path.{◌≡◌, refl, ap, sym, ◌∙◌}
use mathlib.Core.Bool.{Bool, true, false, not}
use mathlib.Core.List.{List}
use native.Mathlib.Omega.{arith}
use lib.Dec.{eqb, leb, ltb}
use lib.ListN.{length, get_or}
use borrow.Author.Tests.{eqb-false, not-true}
use Rattle.std.specs.Prelude.{⊤, Result, Ok, Err, Some}
use Rattle.numbers.specs.Pick.{pick, both}
use Rattle.numbers.proofs.BoolLaws.{both_left, both_right}
use Rattle.numbers.specs.Answers.{number_of, refused}
use Rattle.numbers.specs.Limits.{most_fragments}
use Rattle.numbers.specs.Modulo.{sum}
use Rattle.numbers.specs.declared.counters.Group.{Group}
use Rattle.numbers.specs.declared.counters.Reliable.{Reliable}
use Rattle.numbers.specs.declared.refusals.Refusal.{Refusal}
use Rattle.numbers.specs.declared.refusals.Refusal.TheVariants.{NotReceiving, LengthTooLarge, NotStored, BadCommand, NotRemoved, OutOfRange, BadFragment}
use Rattle.cells.specs.Runs.{first, is_empty}
use Rattle.record.specs.Channels.{on_channel}
use Rattle.record.specs.Lists.{out_items, in_items}
use Rattle.record.specs.Damage.{used_out}
use Rattle.record.specs.Fresh.{no_incoming}
use Rattle.record.specs.Blocks.{is_block}
use Rattle.record.specs.declared.groups.Incoming.{Incoming}
use Rattle.record.specs.declared.groups.Lists.{Lists}
use Rattle.command.specs.Rows.{names_fields}
use Rattle.outbox.specs.declared.pieces.Piece.{Piece}
use Rattle.peer.specs.Damage.{sound}
use Rattle.peer.specs.Settings.{fit_settings}
use Rattle.peer.specs.Outcome.{State, Outcome, unchanged}
use Rattle.peer.specs.Gate.{fits, gate_of, then, behind, gated}
use Rattle.peer.specs.States.{is_connected, acknowledging_connect, disconnecting, disconnect_later, last_state}
use Rattle.peer.specs.declared.settings.Settings.{Settings}
use Rattle.peer.specs.declared.Peer.{Peer}
use Rattle.peer.specs.declared.gate.Lent.{Lent}
use Rattle.peer.specs.declared.gate.Lent.TheVariants.{Nothing, Store, Both}
use Rattle.lifecycle.specs.Calls.{resets, begin_fits, begins, sets_state}
use Rattle.setup.specs.Calls.{setup_gate, sets_up}
use Rattle.setup.specs.Queueing.{room}
use Rattle.packets.specs.Refusals.{send_gate, queue_gate}
use Rattle.send.specs.Calls.{fragment, commands, sends}
use Rattle.setup.specs.Pings.{ping_gate, pings}
use Rattle.send_step.specs.Steps.{list_of}
use Rattle.send_step.specs.Calls as stepping
use Rattle.send_step.specs.declared.heads.Queue.{Queue}
use Rattle.std.specs.Prelude.{is_some}
use Rattle.acknowledge.specs.Removal.{spot_of, slot_at, held_by, lists_without, command_at}
use Rattle.acknowledge.specs.Calls as acknowledging
use Rattle.acknowledge.specs.declared.Event.{Event}
use Rattle.acknowledge.specs.declared.Event.TheVariants as vr
use Rattle.timeouts.specs.Calls as checking
use Rattle.arrival.specs.Arrivals.{answer_of, names, is_receiving, is_whole, arrival_gate, reply_of}
use Rattle.arrival.specs.declared.Arrival.{Arrival}
use Rattle.arrival.specs.declared.Fate.{Fate}
use Rattle.arrival.specs.declared.Fate.TheVariants as fate
use Rattle.arrive_unsequenced.specs.Calls.{send_unsequenced, judged_on, unsequenced_after, arrives_unsequenced}
use Rattle.arrive_reliable.specs.Calls.{send_reliable, fate_on, reliable_after, arrives_reliable}
use Rattle.dispatch.specs.Calls.{dispatch_gate, dispatches}
use Rattle.receive.specs.Calls as receiving
use Rattle.receive.specs.declared.Received.TheVariants as got
use Rattle.arrive_fragment.specs.Pieces as pieces
use Rattle.arrive_fragment.specs.Calls.{send_fragment, arrival_of, fragment_after, arrives_fragment}
use Rattle.arrive_fragment.specs.declared.Piece.{Piece as Arriving}
use Rattle.arrive_fragment.specs.declared.Fate.{Fate as Coming}
use Rattle.arrive_fragment.specs.declared.Fate.TheVariants as coming
use Rattle.throttle.specs.declared.Throttle.{Throttle}
use Rattle.round_trip.specs.Interval.{throttle_of}
use Rattle.round_trip.specs.Calls as throttling
use Rattle.link_in.specs.Steps.{beside}
use Rattle.link.specs.Steps.{calls}
use Rattle.promises.specs.Refusals.{may, AnswersMay, RefusedUnchanged, SoundUndamaged}
use Rattle.promises.proofs.Picks.{picked}
use Rattle.link_out.specs.declared.calls.Call.TheVariants as out
use Rattle.link_in.specs.declared.calls.Call.TheVariants as inw
use Rattle.link.specs.declared.calls.Call.{Call}
use Rattle.link.specs.declared.calls.Call.TheVariants as call
use Rattle.throttle.specs.declared.Turn.TheVariants as turn

-- own refusals: those that a call may answer behind its gate
abbrev own : Call → ℕ → Bool
own k n = both (may k n) (not (eqb n 13))

own-may : (k : Call) (n : ℕ) → own k n ≡ true → may k n ≡ true
own-may k n m = both_left (may k n) (not (eqb n 13)) m

own_not : (k : Call) (n : ℕ) → own k n ≡ true → n ≡ 13 → ⊥
own_not k n m e = eqb-false n 13 (not-true (eqb n 13) (both_right (may k n) (not (eqb n 13)) m)) e

-- what the laws say of an outcome of call k on x; good says whether its record is sound
record Fair {A : Type 0} (k : Call) (good : Bool) (x : A) (o : Outcome A) : Type 0 where
  pub number : (o.answer.number ≡ 0 → ⊥) → may k o.answer.number ≡ true
  pub kept : (o.answer.number ≡ 0 → ⊥) → (o.answer.number ≡ 8 → ⊥) → (o.answer.number ≡ 10 → ⊥) → o.after ≡ x
  pub whole : good ≡ true → o.answer.number ≡ 13 → ⊥

-- the refusals of a call's own gate
abbrev Fits : Call → Result ⊤ Refusal → Type 0
Fits k (Ok _) = Unit {0}
Fits k (Err why) = own k (number_of why) ≡ true

module _ {A : Type 0} {good : Bool} (k : Call) (x : A) where
  done : (o : Outcome A) → o.answer.number ≡ 0 → Fair k good x o
  done o z = record { number = λ n. absurd (n z); kept = λ n e t. absurd (n z); whole = λ g e. omega (arith, z, e) }

  shut : (why : Refusal) → own k (number_of why) ≡ true → Fair k good x (unchanged why x)
  shut why m = record { number = λ n. own-may k (number_of why) m; kept = λ n e t. refl; whole = λ g. own_not k (number_of why) m }

  -- 8 and 10 may leave something else
  late : (why : Refusal) (y : A) → own k (number_of why) ≡ true → ((number_of why ≡ 8 → ⊥) → (number_of why ≡ 10 → ⊥) → ⊥)
      → Fair k good x (record { answer = refused why; after = y })
  late why y m which =
      record { number = λ n. own-may k (number_of why) m; kept = λ n e t. absurd (which e t); whole = λ g. own_not k (number_of why) m }

  behind_fair : (rest : Outcome A) (g : Result ⊤ Refusal) → Fits k g → Fair k good x rest → Fair k good x (behind g x rest)
  behind_fair rest (Ok _) m f = f
  behind_fair rest (Err why) m f = shut why m

-- the gate of every call: 11, and 13 only where the record is not sound
gated_fair : {A : Type 0} (k : Call) (x : A) (s : Settings) (lent : Lent) (p : Peer) (rest : Outcome A) → own k 11 ≡ true → may k 13 ≡ true
    → Fair k (sound p) x rest → Fair k (sound p) x (gated s lent p x rest)
gated_fair k x s lent p rest m n f = go (fits s lent) (sound p) refl
  where
    go : (a b : Bool) → sound p ≡ b → Fair k (sound p) x (behind (gate_of a b) x rest)
    go true true e = f
    go true false e =
        record {
          number = λ z. n;
          kept = λ z u t. refl;
          whole = λ g w. let z : false ≡ true = sym e ∙ g in let y : ◌≡◌ {A = ℕ} 0 1 = cc in omega arith;
        }
    go false b e = shut k x OutOfRange m

beside_fair : (k : Call) (x : State) (o : Outcome Peer) → Fair k (sound x.peer) x.peer o → Fair k (sound x.peer) x (beside x o)
beside_fair k x o f =
    record { number = f.number; kept = λ n e t. ap (λ (p : Peer). record { peer = p; store = x.store; second = x.second }) (f.kept n e t); whole = f.whole }

-- ---- the calls on the record alone
module _ (s : Settings) (p : Peer) where
  reset_fair : Fair call.Reset (sound p) p (resets s p)
  reset_fair = picked (Fair call.Reset (sound p) p) (fit_settings s) _ _ (done _ p _ refl) (shut _ p OutOfRange refl)

  begin_fair : (mtu count : ℕ) → Fair (call.Begin mtu count) (sound p) p (begins s mtu count p)
  begin_fair mtu count =
      let k = call.Begin mtu count in
      gated_fair k p s Nothing p _ refl refl
      (picked (Fair k (sound p) p) (begin_fits mtu count p.standing.channels) _ _ (done k p _ refl) (shut k p OutOfRange refl))

  state_fair : (state : ℕ) → Fair (call.SetState state) (sound p) p (sets_state s state p)
  state_fair state =
      let k = call.SetState state in
      gated_fair k p s Nothing p _ refl refl (picked (Fair k (sound p) p) (leb state last_state) _ _ (done k p _ refl) (shut k p OutOfRange refl))

  ping_fair : Fair (call.Outward out.Ping) (sound p) p (pings s p)
  ping_fair =
      let k = call.Outward out.Ping in
      gated_fair k p s Nothing p _ refl refl
      (behind_fair k p _ (ping_gate p.standing (room p)) (picked (Fits k) (is_connected p.standing) _ _ (picked (Fits k) (leb 1 (room p)) _ _ tt refl) refl) (done k p _ refl))

  send_fair : (channel size flags : ℕ) → Fair (call.Outward (out.Send channel size flags)) (sound p) p (sends s channel size flags p)
  send_fair channel size flags =
      let k = call.Outward (out.Send channel size flags) in
      let xs = commands (fragment s p) channel size flags p in
      gated_fair k p s Nothing p _ refl refl
      (behind_fair k p _ (send_gate s channel size p.standing)
      (picked (Fits k) (is_connected p.standing) _ _
      (picked (Fits k) (ltb channel p.standing.channels) _ _ (picked (Fits k) (leb size s.packet) _ _ tt refl) refl) refl)
      (behind_fair k p _ (queue_gate (length xs) (room p))
      (picked (Fits k) (leb (length xs) most_fragments) _ _ (picked (Fits k) (leb (length xs) (room p)) _ _ tt refl) refl)
      (done k p _ refl)))

  setup_fair : (x : Piece) → Fair (call.Outward (out.Setup x)) (sound p) p (sets_up s x p)
  setup_fair x =
      let k = call.Outward (out.Setup x) in
      gated_fair k p s Nothing p _ refl refl
      (behind_fair k p _ (setup_gate x p.standing.channels (room p))
      (picked (Fits k) (on_channel x.command.channel p.standing.channels) _ _
      (picked (Fits k) (leb 1 (room p)) _ _ (picked (Fits k) (names_fields x.command) _ _ tt refl) refl) refl)
      (done k p _ refl))

  step_fair : (q : Queue) (time : ℕ) → Fair (call.Outward (out.SendStep q time)) (sound p) p (stepping.steps s q time p)
  step_fair q time = gated_fair k p s Nothing p _ refl refl (by_first (first (out_items (list_of q p.lists))))
    where
      k : Call
      k = call.Outward (out.SendStep q time)

      by_first : (f : Option ℕ) → Fair k (sound p) p (stepping.steps_from f q time p)
      by_first None = done k p _ refl
      by_first (Some n) = done k p _ refl

  acknowledgement_fair : (channel : ℕ) (number : Reliable) (sent clock : ℕ)
      → Fair (call.Outward (out.Acknowledgement channel number sent clock)) (sound p) p (acknowledging.acknowledges s channel number.0 sent clock p)
  acknowledgement_fair channel number sent clock =
      gated_fair k p s Nothing p _ refl refl (by_trip (acknowledging.heard_in p.standing.state clock sent))
    where
      k : Call
      k = call.Outward (out.Acknowledgement channel number sent clock)

      Heard : Peer → Result Event Refusal → Type 0
      Heard y r = Fair k (sound p) p (record { answer = acknowledging.answer_of r; after = y })

      removed : (y : Peer) (command wanted : ℕ) (event : Event) → Heard y (Ok event) → Heard y (acknowledging.removed_or command wanted event)
      removed y command wanted event h =
          picked (Heard y) (eqb command wanted) (Ok event) (Err NotRemoved) h (late k p NotRemoved y refl (λ e t. t refl))

      event : (y : Peer) (state command : ℕ) (left : Lists) → Heard y (acknowledging.event_in state command left)
      event y state command left =
          picked (Heard y) (eqb state acknowledging_connect) _ _ (removed y command acknowledging.verify_connect vr.Connect (done k p _ refl))
          (picked (Heard y) (eqb state disconnecting) _ _ (removed y command acknowledging.disconnect vr.Disconnect (done k p _ refl))
          (picked (Heard y) (eqb state disconnect_later) _ _
          (picked (Heard y) (is_empty (used_out left)) _ _ (done k p _ refl) (done k p _ refl)) (done k p _ refl)))

      by_trip : (t : Option ℕ) → Fair k (sound p) p (acknowledging.acknowledges_by t channel number.0 clock p)
      by_trip None = done k p _ refl
      by_trip (Some sample) =
          let spot = spot_of p.outgoing number.0 channel p.lists in
          let slot = slot_at spot p.lists in
          event (acknowledging.heard_at spot sample clock p).after p.standing.state (command_at (is_some slot) (held_by p.outgoing slot))
          (lists_without spot p.lists)

  check_fair : (clock : ℕ) → Fair (call.Outward (out.TimeoutCheck clock)) (sound p) p (checking.checks s clock p)
  check_fair clock = gated_fair k p s Nothing p _ refl refl (done k p _ (by_walk (checking.walk_of clock p).walk.over))
    where
      k : Call
      k = call.Outward (out.TimeoutCheck clock)

      by_walk : (over : Bool) → (checking.answer_of (Ok (checking.reply_by over))).number ≡ 0
      by_walk true = refl
      by_walk false = refl

  dispatch_fair : (channel : ℕ) → Fair (call.Inward (inw.Dispatch channel)) (sound p) p (dispatches s channel p)
  dispatch_fair channel =
      let k = call.Inward (inw.Dispatch channel) in
      gated_fair k p s Nothing p _ refl refl
      (behind_fair k p _ (dispatch_gate channel p.standing) (picked (Fits k) (ltb channel p.standing.channels) _ _ tt refl) (done k p _ refl))

  receive_fair : Fair (call.Inward inw.Receive) (sound p) p (receiving.receives s p)
  receive_fair = gated_fair (call.Inward inw.Receive) p s Nothing p _ refl refl (by_first (first (in_items p.lists.dispatched)))
    where
      by_kind : (i : Incoming) (n : ℕ) (y : Peer) (b : Bool)
          → Fair (call.Inward inw.Receive) (sound p) p (record { answer = receiving.answer_of (Ok (Some (pick b (got.Block i.channel n i.length) (got.Packet i.channel n i.length)))); after = y })
      by_kind i n y true = done _ p _ refl
      by_kind i n y false = done _ p _ refl

      by_first : (f : Option ℕ) → Fair (call.Inward inw.Receive) (sound p) p (receiving.receives_from f p)
      by_first None = done _ p _ refl
      by_first (Some n) = by_kind (get_or p.incoming n no_incoming) n _ (is_block (get_or p.incoming n no_incoming))

  throttle_fair : (sample : ℕ) → Fair (call.Outward (out.Throttle sample)) (sound p) p (throttling.throttles s sample p)
  throttle_fair sample =
      gated_fair k p s Nothing p _ refl refl
      (done k p _ (by_tests (leb t.last t.variance) (leb sample t.last) (ltb (sum 32 t.last (sum 32 t.variance t.variance)) sample)))
    where
      k : Call
      k = call.Outward (out.Throttle sample)

      t : Throttle
      t = throttle_of p.throttling p.trips

      by_tests : (a b c : Bool) → (throttling.answer_of (Ok (pick a turn.Held (pick b turn.Raised (pick c turn.Lowered turn.Held))))).number ≡ 0
      by_tests true b c = refl
      by_tests false true c = refl
      by_tests false false true = refl
      by_tests false false false = refl

-- ---- the arrivals
module _ (s : Settings) (a : Arrival) (datagram : List ℕ) (x : State) where
  abbrev p : Peer
  p = x.peer

  -- 9, 6, 7 are the gate's
  arrival_fits : (k : Call) (command : ℕ) → own k 9 ≡ true → own k 6 ≡ true → own k 7 ≡ true
      → Fits k (arrival_gate command a s p.standing (length datagram))
  arrival_fits k command nine six seven = go (names a.byte command) (is_receiving a.channel p.standing) (is_whole a s (length datagram))
    where
      go : (b c d : Bool)
          → Fits k (then (pick b (Ok tt) (Err BadCommand)) (then (pick c (Ok tt) (Err NotReceiving)) (pick d (Ok tt) (Err LengthTooLarge))))
      go true true true = tt
      go true true false = seven
      go true false d = six
      go false c d = nine

  unsequenced_fair : (group : Group) → Fair (call.Inward (inw.UnsequencedArrival a group)) (sound p) x (arrives_unsequenced s a group datagram x)
  unsequenced_fair group =
      gated_fair k x s (Store (length x.store)) p _ refl refl
      (behind_fair k x _ (arrival_gate send_unsequenced a s p.standing (length datagram)) (arrival_fits k send_unsequenced refl refl refl) (by_fate (judged_on s group p).fate))
    where
      k : Call
      k = call.Inward (inw.UnsequencedArrival a group)

      by_fate : (f : Fate)
          → Fair k (sound p) x (record { answer = answer_of (reply_of f); after = unsequenced_after f (judged_on s group p).unsequenced a datagram x })
      by_fate fate.Passed = done k x _ refl
      by_fate fate.NoRoom = late k x NotStored _ refl (λ e t. e refl)
      by_fate (fate.Stored n) = done k x _ refl

  reliable_fair : Fair (call.Inward (inw.ReliableArrival a)) (sound p) x (arrives_reliable s a datagram x)
  reliable_fair =
      gated_fair k x s (Store (length x.store)) p _ refl refl
      (behind_fair k x _ (arrival_gate send_reliable a s p.standing (length datagram)) (arrival_fits k send_reliable refl refl refl) (by_fate (fate_on s a p)))
    where
      k : Call
      k = call.Inward (inw.ReliableArrival a)

      by_fate : (f : Fate) → Fair k (sound p) x (record { answer = answer_of (reply_of f); after = reliable_after f a datagram x })
      by_fate fate.Passed = done k x _ refl
      by_fate fate.NoRoom = late k x NotStored _ refl (λ e t. e refl)
      by_fate (fate.Stored n) = done k x _ refl

-- ---- the arrival of a piece
fragment_fair : (s : Settings) (a : Arriving) (datagram : List ℕ) (x : State) → Fair (call.Inward (inw.FragmentArrival a)) (sound x.peer) x (arrives_fragment s a datagram x)
fragment_fair s a datagram x =
    gated_fair k x s (Both (length x.store) (length x.second)) x.peer _ refl refl
    (behind_fair k x _ (arrival_gate send_fragment (arrival_of a) s x.peer.standing (length datagram)) (arrival_fits s (arrival_of a) datagram x k send_fragment refl refl refl) (by_fate (pieces.fate_on s a x.peer)))
  where
    k : Call
    k = call.Inward (inw.FragmentArrival a)

    by_fate : (f : Coming) → Fair k (sound x.peer) x (record { answer = answer_of (pieces.reply_of f); after = fragment_after f a datagram x })
    by_fate coming.Passed = done k x _ refl
    by_fate coming.Unfit = shut k x BadFragment refl
    by_fate coming.NoRoom = shut k x NotStored refl
    by_fate (coming.First n) = done k x _ refl
    by_fate (coming.Later n) = done k x _ refl

-- ---- every call
step_is_fair : (s : Settings) (k : Call) (datagram : List ℕ) (x : State) → Fair k (sound x.peer) x (calls s k datagram x)
step_is_fair s call.Reset datagram x = beside_fair _ x _ (reset_fair s x.peer)
step_is_fair s (call.Begin mtu channels) datagram x = beside_fair _ x _ (begin_fair s x.peer mtu channels)
step_is_fair s (call.SetState state) datagram x = beside_fair _ x _ (state_fair s x.peer state)
step_is_fair s (call.Outward out.Ping) datagram x = beside_fair _ x _ (ping_fair s x.peer)
step_is_fair s (call.Outward (out.Send channel size flags)) datagram x = beside_fair _ x _ (send_fair s x.peer channel size flags)
step_is_fair s (call.Outward (out.Setup piece)) datagram x = beside_fair _ x _ (setup_fair s x.peer piece)
step_is_fair s (call.Outward (out.SendStep queue time)) datagram x = beside_fair _ x _ (step_fair s x.peer queue time)
step_is_fair s (call.Outward (out.Acknowledgement channel number sent clock)) datagram x =
    beside_fair _ x _ (acknowledgement_fair s x.peer channel number sent clock)
step_is_fair s (call.Outward (out.TimeoutCheck clock)) datagram x = beside_fair _ x _ (check_fair s x.peer clock)
step_is_fair s (call.Outward (out.Throttle sample)) datagram x = beside_fair _ x _ (throttle_fair s x.peer sample)
step_is_fair s (call.Inward (inw.UnsequencedArrival a group)) datagram x = unsequenced_fair s a datagram x group
step_is_fair s (call.Inward (inw.ReliableArrival a)) datagram x = reliable_fair s a datagram x
step_is_fair s (call.Inward (inw.FragmentArrival a)) datagram x = fragment_fair s a datagram x
step_is_fair s (call.Inward (inw.Dispatch channel)) datagram x = beside_fair _ x _ (dispatch_fair s x.peer channel)
step_is_fair s (call.Inward inw.Receive) datagram x = beside_fair _ x _ (receive_fair s x.peer)

pub answers_may : AnswersMay
answers_may s k datagram x = (step_is_fair s k datagram x).number

pub refused_unchanged : RefusedUnchanged
refused_unchanged s k datagram x = (step_is_fair s k datagram x).kept

pub sound_undamaged : SoundUndamaged
sound_undamaged s k datagram x = (step_is_fair s k datagram x).whole
