-- `ping` passes the gate and its own refusals, then the lowest free slot takes the ping in place, and the numbers go back.
use mathlib.Core.Path.{◌≡◌, refl, ap, ◌∙◌}
use Rattle.record.specs.declared.groups.Standing.{Standing}
use Rattle.peer.specs.Calls.{answer_of}
use Rattle.peer.specs.declared.Peer.{Peer}
use Rattle.peer.specs.declared.gate.Lent.TheVariants.{Nothing}
use Rattle.peer.proofs.Gates.{AtGate, came_shut, passed_on}
use Rattle.places.specs.Whole.{whole}
use Rattle.setup.specs.Queueing.{room}
use Rattle.setup.specs.Pings.{ping_piece, ping_gate, pings_sound}
use Rattle.setup.proofs.Setups.{one_shut}
use Rattle.setup.proofs.Placed.{lent_left}
use Rattle.setup.proofs.Pings.{ping_some}
use Rattle.setup.proofs.ping.Goals as goal

pub returns-in_err-ask : goal.returns-in_err-ask
returns-in_err-ask c =
    let g = c.ask in
    let a = c.args in
    let p = whole a.words.now in
    let b : AtGate a.settings Nothing p = record { gate = g.result; is = g.ensures } in
    rw (passed_on c.from_residual.result c.in_err-ask.field-0.0 c.from_residual.ensures.1)
    (came_shut b p (pings_sound p) answer_of _ c.in_err-ask.field-0.0 refl c.in_err-ask.was)

pub returns-in_err-ping_gate : goal.returns-in_err-ping_gate
returns-in_err-ping_gate c =
    let peer : Peer = whole c.args.words.now in
    let asked : AtGate c.args.settings Nothing peer = let g = c.ask in record { gate = g.result; is = g.ensures } in
    let judged : let p = peer in c.ping_gate.result ≡ ping_gate p.standing (room p) =
    let p = peer in
    let free = c.room_in in
    c.ping_gate.ensures ∙ ap (λ (s : Standing). ping_gate s free.result) c.standing.ensures ∙ ap (ping_gate p.standing) free.ensures in
    rw (passed_on c.from_residual-in_err-ping_gate.result c.in_err-ping_gate.field-0.0 c.from_residual-in_err-ping_gate.ensures.1)
    (one_shut c.args.settings ping_piece peer asked c.in_ok-ask.was (ping_gate peer.standing (room peer)) c.ping_gate.result judged c.in_err-ping_gate.field-0.0 c.in_err-ping_gate.was)

pub returns : goal.returns
returns c =
    let peer : Peer = whole c.args.words.now in
    let asked : AtGate c.args.settings Nothing peer = let g = c.ask in record { gate = g.result; is = g.ensures } in
    let judged : let p = peer in c.ping_gate.result ≡ ping_gate p.standing (room p) =
    let p = peer in
    let free = c.room_in in
    c.ping_gate.ensures ∙ ap (λ (s : Standing). ping_gate s free.result) c.standing.ensures ∙ ap (ping_gate p.standing) free.ensures in
    lent_left c.args.settings ping_piece peer asked c.in_ok-ask.was (ping_gate peer.standing (room peer)) c.ping_gate.result judged (ping_some peer) c.in_ok-ping_gate.was
    c.open-o.result c.open-o.new.marks c.open-o.ensures c.queue-after.result c.queue-after.new.marks (whole c.queue-after.new.words) (whole c.close.new.words)
    (c.queue-after.ensures.out, c.queue-after.ensures.kept) c.close.ensures
