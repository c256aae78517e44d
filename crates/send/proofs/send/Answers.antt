-- `send` passes the gate and its own refusals; then its loop queues the packet's commands in order, in place, and the numbers go back.
-- What the loop keeps is `Goes`: Going of the record as it then is.
use Prim.Native.Nat.{ℕ, ◌≤◌}
use mathlib.Core.Path.{◌≡◌, refl}
use mathlib.Core.Bool.{true}
use mathlib.Core.List.{List}
use borrow.Author.Rules.{rules}
use Rattle.numbers.specs.Limits.{most_mtu}
use Rattle.peer.specs.Damage.{sound}
use Rattle.peer.specs.Calls.{answer_of}
use Rattle.peer.specs.declared.Peer.{Peer}
use Rattle.peer.specs.declared.gate.Lent.TheVariants.{Nothing}
use Rattle.peer.proofs.Ranges.{mtu_high}
use Rattle.peer.proofs.Gates.{AtGate, came_shut, open_sound, passed_on}
use Rattle.places.specs.Whole.{whole}
use Rattle.places.proofs.Sized.{sized}
use Rattle.send.specs.Calls.{sends_sound}
use Rattle.send.proofs.Placed.{goes_start, goes_turn, lent_shut, lent_left}
use Rattle.send.proofs.send.Goals as goal

pub returns-in_err-ask : goal.returns-in_err-ask
returns-in_err-ask c =
    let g = c.ask in
    let a = c.args in
    let p = whole a.words.now in
    let b : AtGate a.settings Nothing p = record { gate = g.result; is = g.ensures } in
    rw (passed_on c.from_residual.result c.in_err-ask.field-0.0 c.from_residual.ensures.1)
    (came_shut b p (sends_sound a.settings a.channel a.length a.flags p) answer_of _ c.in_err-ask.field-0.0 refl c.in_err-ask.was)

pub packet_of-packet-requires : goal.packet_of-packet-requires
packet_of-packet-requires c =
    let peer : Peer = whole c.args.words.now in
    let asked : AtGate c.args.settings Nothing peer = let g = c.ask in record { gate = g.result; is = g.ensures } in
    let good : sound peer ≡ true = open_sound asked c.in_ok-ask.was in
    let h : peer.flow.mtu ≤ most_mtu = mtu_high peer good in
    search rules

pub plan_gate-requires : goal.plan_gate-requires
plan_gate-requires c =
    let peer : Peer = whole c.args.words.now in
    let asked : AtGate c.args.settings Nothing peer = let g = c.ask in record { gate = g.result; is = g.ensures } in
    let good : sound peer ≡ true = open_sound asked c.in_ok-ask.was in
    let h = good in
    search rules

pub returns-in_err-plan_gate : goal.returns-in_err-plan_gate
returns-in_err-plan_gate c =
    let peer : Peer = whole c.args.words.now in
    let named : List ℕ = c.open-o.new.marks in
    let asked : AtGate c.args.settings Nothing peer = let g = c.ask in record { gate = g.result; is = g.ensures } in
    let a = c.args in
    rw (passed_on c.from_residual-in_err-plan_gate.result c.in_err-plan_gate.field-0.0 c.from_residual-in_err-plan_gate.ensures.1)
    (lent_shut a.settings a.channel a.length a.flags peer asked c.in_ok-ask.was c.open-o.result named c.open-o.ensures
    c.packet_of-packet.result c.packet_of-packet.ensures c.count_of-count.result c.count_of-count.ensures c.plan_gate.result c.plan_gate.ensures c.in_err-plan_gate.field-0.0 c.in_err-plan_gate.was)

pub loop-j-init : goal.loop-j-init
loop-j-init c =
    let peer : Peer = whole c.args.words.now in
    let named : List ℕ = c.open-o.new.marks in
    let asked : AtGate c.args.settings Nothing peer = let g = c.ask in record { gate = g.result; is = g.ensures } in
    let a = c.args in
    goes_start a.settings a.channel a.length a.flags peer asked c.in_ok-ask.was c.open-o.result named c.open-o.ensures
    c.packet_of-packet.result c.packet_of-packet.ensures c.count_of-count.result c.count_of-count.ensures c.plan_gate.result c.plan_gate.ensures
    (sized a.words.now) c.in_ok-plan_gate.was

pub loop-j-preserved : goal.loop-j-preserved
loop-j-preserved c =
    let peer : Peer = whole c.args.words.now in
    let q = c.queue-o in
    let l = c.loop-j in
    goes_turn c.packet_of-packet.result c.count_of-count.result c.args.channel peer (whole l.words) l.o l.marks l.j l.offset l.invariant
    c.loop-j-test.true q.result q.new.marks (whole q.new.words) (q.ensures.out, q.ensures.kept) c.next_at-offset.result c.next_at-offset.ensures

pub returns : goal.returns
returns c =
    let peer : Peer = whole c.args.words.now in
    let named : List ℕ = c.open-o.new.marks in
    let asked : AtGate c.args.settings Nothing peer = let g = c.ask in record { gate = g.result; is = g.ensures } in
    let l = c.loop-j in
    let a = c.args in
    lent_left a.settings a.channel a.length a.flags peer asked c.in_ok-ask.was c.open-o.result named c.open-o.ensures
    c.packet_of-packet.result c.packet_of-packet.ensures c.count_of-count.result c.count_of-count.ensures c.plan_gate.result c.plan_gate.ensures
    (sized a.words.now) c.in_ok-plan_gate.was (whole l.words) l.o l.marks l.j l.offset l.invariant c.loop-j-test.false
    (whole c.close.new.words) c.close.ensures
