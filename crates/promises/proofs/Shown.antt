-- Every number of every row is answered (`answers_each`): for each call and each number an input, by computing.
-- The inputs: 11 with MTU 0 in the settings and 13 with MTU 0 in the record, whatever the call; all others on peers that runs from a reset reach.
use Prim.Native.Nat.{ℕ}
use mathlib.Core.Path.{◌≡◌, refl, subst}
use mathlib.Core.Bool.{Bool, true, false}
use mathlib.Core.List.{List, [], ◌∷◌}
use native.Mathlib.Omega.{arith}
use lib.Dec.{eqb}
use lib.ListN.{length, replicate}
use borrow.Author.Tests.{eqb-true}
use Rattle.numbers.specs.Pick.{pick}
use Rattle.cells.specs.Runs.{has}
use Rattle.cells.specs.Free.{first_from, count_from, exist, once}
use Rattle.command.specs.declared.fields.Fields.TheVariants as fields
use Rattle.window.specs.Window.{marked}
use Rattle.record.specs.Fresh.{no_lists, no_channel, no_outgoing, no_incoming}
use Rattle.record.specs.Damage.{all, held, held_fit, own, lengths, blocks}
use Rattle.record.specs.Sizes.{itself, store_length, second_length}
use Rattle.peer.specs.Fresh.{fresh_peer}
use Rattle.peer.specs.Damage.{sound}
use Rattle.peer.specs.Outcome.{State}
use Rattle.peer.specs.declared.settings.Settings.{Settings}
use Rattle.peer.specs.declared.Peer.{Peer}
use Rattle.peer.specs.declared.defaults.Kept.{Kept}
use Rattle.outbox.specs.declared.pieces.Piece.{Piece}
use Rattle.setup.specs.Queueing.{queued_at, queued}
use Rattle.packets.specs.CodePlans.{packet_of}
use Rattle.packets.proofs.Planning.{left-length}
use Rattle.send.specs.Calls.{fragment, commands, queues_all}
use Rattle.acknowledge.specs.Removal.{seek}
use Rattle.arrive_reliable.specs.Holding.{holds}
use Rattle.arrive_fragment.specs.Pieces.{unfinished}
use Rattle.arrival.specs.declared.Arrival.{Arrival}
use Rattle.link.specs.Runs.{Asked, comes_to, run, reset_state}
use Rattle.link_out.specs.declared.calls.Call.{Call as Outward}
use Rattle.link_out.specs.declared.calls.Call.TheVariants as out
use Rattle.link_in.specs.declared.calls.Call.{Call as Inward}
use Rattle.link_in.specs.declared.calls.Call.TheVariants as inw
use Rattle.link.specs.declared.calls.Call.{Call}
use Rattle.link.specs.declared.calls.Call.TheVariants as call
use Rattle.promises.specs.Refusals.{refusals_of, op_of, Shown, AnswersEach}

-- ---- the inputs
-- the waiting setting is 0: nothing fits
abbrev good : Settings
good = record { mtu = 576; packet = 1073741824; waiting = 0; checksum = false }

abbrev bad : Settings
bad = record { mtu = 0; packet = 1073741824; waiting = 0; checksum = false }

abbrev nobody : Kept
nobody = record { incoming_peer = 0; outgoing_session = 0; incoming_session = 0; reserved = 0; queued = 0 }

abbrev fresh : State
fresh = reset_state 576 nobody (replicate store_length 0) (replicate second_length 0)

abbrev damaged : State
damaged = reset_state 0 nobody (replicate store_length 0) (replicate second_length 0)

abbrev asks : Call → Asked
asks k = record { settings = good; call = k; datagram = [] }

abbrev asks_badly : Call → Asked
asks_badly k = record { settings = bad; call = k; datagram = [] }

-- begun with one channel, and connected
abbrev ready : State
ready = (run (asks (call.Begin 576 1) ∷ asks (call.SetState 5) ∷ []) fresh).end

-- 32 pings later no slot is free
abbrev pinged : State
pinged = (run (replicate 32 (asks (call.Outward out.Ping))) ready).end

-- a connection that waits for its acknowledgement
abbrev connecting : State
connecting = (run (asks (call.SetState 2) ∷ []) fresh).end

-- a command without fields, by its byte and channel
abbrev bare : ℕ → ℕ → Piece
bare byte channel =
    record {
      command = record { byte = byte; channel = channel; number = record { 0 = 0 }; fields = fields.Ping };
      packet = false;
      offset = 0;
      length = 0;
    }

-- an arrival with number 1 on channel 0, by its byte and length; its datagram is empty
abbrev arrival : ℕ → ℕ → Arrival
arrival byte length = record { byte = byte; channel = 0; number = record { 0 = 1 }; length = length; place = 0 }

abbrev sets : Piece → Asked
sets x = asks (call.Outward (out.Setup x))

abbrev sends : ℕ → Asked
sends length = asks (call.Outward (out.Send 0 length 1))

abbrev unsequenced : ℕ → ℕ → Asked
unsequenced byte length = asks (call.Inward (inw.UnsequencedArrival (arrival byte length) (record { 0 = 0 })))

abbrev reliable : ℕ → ℕ → Asked
reliable byte length = asks (call.Inward (inw.ReliableArrival (arrival byte length)))

-- a piece of a block of one byte that starts at 1, by its byte, its length and how many there are; its datagram is empty
abbrev piece : ℕ → ℕ → ℕ → Asked
piece byte length count =
    asks (call.Inward (inw.FragmentArrival (record {
      byte = byte;
      channel = 0;
      number = record { 0 = 1 };
      start = record { 0 = 1 };
      fragment = record { length = length; count = count; number = 0; total = 1; offset = 0 };
      place = 0;
    })))

abbrev number : Asked → State → ℕ
number a x = (comes_to a x).answer.number

-- ---- 11 and 13, of any call
eleven : (k : Call) → number (asks_badly k) fresh ≡ 11
eleven call.Reset = refl
eleven (call.Begin mtu channels) = refl
eleven (call.SetState state) = refl
eleven (call.Outward out.Ping) = refl
eleven (call.Outward (out.Send channel length flags)) = refl
eleven (call.Outward (out.Setup piece)) = refl
eleven (call.Outward (out.SendStep queue time)) = refl
eleven (call.Outward (out.Acknowledgement channel number sent clock)) = refl
eleven (call.Outward (out.TimeoutCheck clock)) = refl
eleven (call.Outward (out.Throttle sample)) = refl
eleven (call.Inward (inw.UnsequencedArrival arrival group)) = refl
eleven (call.Inward (inw.ReliableArrival arrival)) = refl
eleven (call.Inward (inw.FragmentArrival piece)) = refl
eleven (call.Inward (inw.Dispatch channel)) = refl
eleven (call.Inward inw.Receive) = refl

thirteen_begin : (mtu channels : ℕ) → number (asks (call.Begin mtu channels)) damaged ≡ 13
unfolding fresh_peer sound
thirteen_begin mtu channels = refl

thirteen_state : (state : ℕ) → number (asks (call.SetState state)) damaged ≡ 13
unfolding fresh_peer sound
thirteen_state state = refl

thirteen_out : (c : Outward) → number (asks (call.Outward c)) damaged ≡ 13
unfolding fresh_peer sound
thirteen_out out.Ping = refl
thirteen_out (out.Send channel length flags) = refl
thirteen_out (out.Setup piece) = refl
thirteen_out (out.SendStep queue time) = refl
thirteen_out (out.Acknowledgement channel number sent clock) = refl
thirteen_out (out.TimeoutCheck clock) = refl
thirteen_out (out.Throttle sample) = refl

thirteen_in : (c : Inward) → number (asks (call.Inward c)) damaged ≡ 13
unfolding fresh_peer sound
thirteen_in (inw.UnsequencedArrival arrival group) = refl
thirteen_in (inw.ReliableArrival arrival) = refl
thirteen_in (inw.FragmentArrival piece) = refl
thirteen_in (inw.Dispatch channel) = refl
thirteen_in inw.Receive = refl

-- ---- ping, send, setup
ping_one : number (asks (call.Outward out.Ping)) fresh ≡ 1
unfolding fresh_peer sound no_lists held held_fit exist once all own lengths blocks
ping_one = refl

ping_five : number (asks (call.Outward out.Ping)) pinged ≡ 5
unfolding run fresh_peer sound no_lists no_channel no_outgoing no_incoming first_from count_from exist once all held held_fit own lengths blocks queued queued_at
ping_five = refl

send_one : number (sends 0) fresh ≡ 1
unfolding fresh_peer sound no_lists held held_fit exist once all own lengths blocks
send_one = refl

send_two : number (sends 0) (run (asks (call.SetState 5) ∷ []) fresh).end ≡ 2
unfolding run fresh_peer sound no_lists held held_fit exist once all own lengths blocks
send_two = refl

send_three : number (sends 1073741825) ready ≡ 3
unfolding run fresh_peer sound no_lists no_channel held held_fit exist once all own lengths blocks
send_three = refl

-- 1,048,577 pieces of 548 bytes, which are not counted one by one
too_many : (xs : List Piece) (p : Peer) → length xs ≡ 1048577 → (queues_all xs p).answer.number ≡ 4
too_many xs p e = rw e refl

send_four : number (sends 574619649) ready ≡ 4
unfolding run fresh_peer sound no_lists no_channel held held_fit exist once all own lengths blocks
send_four =
    let p = ready.peer in
    too_many (commands (fragment good p) 0 574619649 1 p) p (left-length (packet_of 1 (record { 0 = 0 }) (record { 0 = 0 }) 0 574619649 548))

send_five : number (sends 0) pinged ≡ 5
unfolding run fresh_peer sound no_lists no_channel no_outgoing no_incoming first_from count_from exist once all held held_fit own lengths blocks queued queued_at
send_five = refl

setup_two : number (sets (bare 133 0)) fresh ≡ 2
unfolding fresh_peer sound no_lists held held_fit exist once all own lengths blocks
setup_two = refl

setup_five : number (sets (bare 133 itself)) pinged ≡ 5
unfolding run fresh_peer sound no_lists no_channel no_outgoing no_incoming first_from count_from exist once all held held_fit own lengths blocks queued queued_at
setup_five = refl

-- byte 0 names no command
setup_nine : number (sets (bare 0 itself)) fresh ≡ 9
unfolding fresh_peer sound no_lists count_from held held_fit exist once all own lengths blocks
setup_nine = refl

-- ---- acknowledgement: nothing was sent
acknowledgement_ten : number (asks (call.Outward (out.Acknowledgement 0 (record { 0 = 0 }) 0 0))) connecting ≡ 10
unfolding run fresh_peer sound no_lists no_outgoing seek held held_fit exist once all own lengths blocks
acknowledgement_ten = refl

-- ---- the arrivals: no channel, a datagram without the byte, no waiting allowed, a byte that names no command
unsequenced_six : number (unsequenced 9 0) fresh ≡ 6
unfolding fresh_peer sound no_lists held held_fit exist once all own lengths blocks
unsequenced_six = refl

unsequenced_seven : number (unsequenced 9 1) ready ≡ 7
unfolding run fresh_peer sound no_lists no_channel held held_fit exist once all own lengths blocks
unsequenced_seven = refl

unsequenced_eight : number (unsequenced 9 0) ready ≡ 8
unfolding run fresh_peer sound no_lists no_channel held held_fit exist once all own lengths blocks marked
unsequenced_eight = refl

unsequenced_nine : number (unsequenced 0 0) fresh ≡ 9
unfolding fresh_peer sound no_lists held held_fit exist once all own lengths blocks
unsequenced_nine = refl

reliable_six : number (reliable 6 0) fresh ≡ 6
unfolding fresh_peer sound no_lists held held_fit exist once all own lengths blocks
reliable_six = refl

reliable_seven : number (reliable 6 1) ready ≡ 7
unfolding run fresh_peer sound no_lists no_channel held held_fit exist once all own lengths blocks
reliable_seven = refl

reliable_eight : number (reliable 6 0) ready ≡ 8
unfolding run fresh_peer sound no_lists no_channel held held_fit exist once all own lengths blocks holds
reliable_eight = refl

reliable_nine : number (reliable 0 0) fresh ≡ 9
unfolding fresh_peer sound no_lists held held_fit exist once all own lengths blocks
reliable_nine = refl

fragment_six : number (piece 8 0 1) fresh ≡ 6
unfolding fresh_peer sound no_lists held held_fit exist once all own lengths blocks
fragment_six = refl

fragment_seven : number (piece 8 1 1) ready ≡ 7
unfolding run fresh_peer sound no_lists no_channel held held_fit exist once all own lengths blocks
fragment_seven = refl

fragment_eight : number (piece 8 0 1) ready ≡ 8
unfolding run fresh_peer sound no_lists no_channel held held_fit exist once all own lengths blocks holds unfinished
fragment_eight = refl

fragment_nine : number (piece 0 0 1) fresh ≡ 9
unfolding fresh_peer sound no_lists held held_fit exist once all own lengths blocks
fragment_nine = refl

-- no pieces at all
fragment_fourteen : number (piece 8 0 0) ready ≡ 14
unfolding run fresh_peer sound no_lists no_channel held held_fit exist once all own lengths blocks holds unfinished
fragment_fourteen = refl

dispatch_two : number (asks (call.Inward (inw.Dispatch 0))) fresh ≡ 2
unfolding fresh_peer sound no_lists held held_fit exist once all own lengths blocks
dispatch_two = refl

-- ---- the rows
data Each (k : Call) : List ℕ → Type 0 where
  none : Each k []
  more : {n : ℕ} {ns : List ℕ} → Shown k n → Each k ns → Each k (n ∷ ns)

each_has : (k : Call) (ns : List ℕ) (n : ℕ) → Each k ns → has ns n ≡ true → Shown k n
each_has k [] n none h = absurd (let z : ◌≡◌ {A = ℕ} 0 1 = cc in omega arith)
each_has k (m ∷ ms) n (more s rest) h = go (eqb m n) refl (each_has k ms n rest) h
  where
    go : (b : Bool) → eqb m n ≡ b → (has ms n ≡ true → Shown k n) → pick b true (has ms n) ≡ true → Shown k n
    go true is later h = subst (Shown k) (eqb-true m n is) s
    go false is later h = later h

-- an input that answers so
by : {k : Call} {n : ℕ} (a : Asked) (x : State) → op_of a.call ≡ op_of k → number a x ≡ n → Shown k n
by a x same e = record { asked = a; state = x; same = same; answers = e }

by_eleven : (k : Call) → Shown k 11
by_eleven k = by (asks_badly k) fresh refl (eleven k)

last_two : (k : Call) → number (asks k) damaged ≡ 13 → Each k (11 ∷ 13 ∷ [])
last_two k e = more (by_eleven k) (more (by (asks k) damaged refl e) none)

out_row : (c : Outward) → Each (call.Outward c) (11 ∷ 13 ∷ [])
out_row c = last_two (call.Outward c) (thirteen_out c)

in_row : (c : Inward) → Each (call.Inward c) (11 ∷ 13 ∷ [])
in_row c = last_two (call.Inward c) (thirteen_in c)

row : (k : Call) → Each k (refusals_of k)
row call.Reset = more (by_eleven call.Reset) none
row (call.Begin mtu channels) = last_two (call.Begin mtu channels) (thirteen_begin mtu channels)
row (call.SetState state) = last_two (call.SetState state) (thirteen_state state)
row (call.Outward out.Ping) =
    more (by (asks (call.Outward out.Ping)) fresh refl ping_one)
    (more (by (asks (call.Outward out.Ping)) pinged refl ping_five) (out_row out.Ping))
row (call.Outward (out.Send channel length flags)) =
    more (by (sends 0) fresh refl send_one)
    (more (by (sends 0) (run (asks (call.SetState 5) ∷ []) fresh).end refl send_two)
    (more (by (sends 1073741825) ready refl send_three)
    (more (by (sends 574619649) ready refl send_four)
    (more (by (sends 0) pinged refl send_five) (out_row (out.Send channel length flags))))))
row (call.Outward (out.Setup piece)) =
    more (by (sets (bare 133 0)) fresh refl setup_two)
    (more (by (sets (bare 133 itself)) pinged refl setup_five)
    (more (by (sets (bare 0 itself)) fresh refl setup_nine) (out_row (out.Setup piece))))
row (call.Outward (out.SendStep queue time)) = out_row (out.SendStep queue time)
row (call.Outward (out.Acknowledgement channel number sent clock)) =
    more (by (asks (call.Outward (out.Acknowledgement 0 (record { 0 = 0 }) 0 0))) connecting refl acknowledgement_ten)
    (out_row (out.Acknowledgement channel number sent clock))
row (call.Outward (out.TimeoutCheck clock)) = out_row (out.TimeoutCheck clock)
row (call.Outward (out.Throttle sample)) = out_row (out.Throttle sample)
row (call.Inward (inw.UnsequencedArrival a group)) =
    more (by (unsequenced 9 0) fresh refl unsequenced_six)
    (more (by (unsequenced 9 1) ready refl unsequenced_seven)
    (more (by (unsequenced 9 0) ready refl unsequenced_eight)
    (more (by (unsequenced 0 0) fresh refl unsequenced_nine) (in_row (inw.UnsequencedArrival a group)))))
row (call.Inward (inw.ReliableArrival a)) =
    more (by (reliable 6 0) fresh refl reliable_six)
    (more (by (reliable 6 1) ready refl reliable_seven)
    (more (by (reliable 6 0) ready refl reliable_eight)
    (more (by (reliable 0 0) fresh refl reliable_nine) (in_row (inw.ReliableArrival a)))))
row (call.Inward (inw.FragmentArrival a)) =
    let k = call.Inward (inw.FragmentArrival a) in
    more (by (piece 8 0 1) fresh refl fragment_six)
    (more (by (piece 8 1 1) ready refl fragment_seven)
    (more (by (piece 8 0 1) ready refl fragment_eight)
    (more (by (piece 0 0 1) fresh refl fragment_nine)
    (more (by_eleven k) (more (by (asks k) damaged refl (thirteen_in (inw.FragmentArrival a))) (more (by (piece 8 0 0) ready refl fragment_fourteen) none))))))
row (call.Inward (inw.Dispatch channel)) =
    more (by (asks (call.Inward (inw.Dispatch 0))) fresh refl dispatch_two) (in_row (inw.Dispatch channel))
row (call.Inward inw.Receive) = in_row inw.Receive

pub answers_each : AnswersEach
answers_each k number m = each_has k (refusals_of k) number (row k) m
