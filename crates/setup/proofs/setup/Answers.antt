-- `setup` passes the gate and its own refusals, then the lowest free slot takes the piece in place, and the numbers go back.
use mathlib.Core.Path.{◌≡◌, refl, ap, ◌∙◌}
use Rattle.record.specs.declared.groups.Standing.{Standing}
use Rattle.peer.specs.Calls.{answer_of}
use Rattle.peer.specs.declared.Peer.{Peer}
use Rattle.peer.specs.declared.gate.Lent.TheVariants.{Nothing}
use Rattle.peer.proofs.Gates.{AtGate, came_shut, passed_on}
use Rattle.places.specs.Whole.{whole}
use Rattle.setup.specs.Queueing.{room}
use Rattle.setup.specs.Calls.{setup_gate, sets_up_sound}
use Rattle.setup.proofs.Setups.{one_shut, setup_some}
use Rattle.setup.proofs.Placed.{lent_left}
use Rattle.setup.proofs.setup.Goals as goal

pub returns-in_err-ask : goal.returns-in_err-ask
returns-in_err-ask c =
    let g = c.ask in
    let a = c.args in
    let p = whole a.words.now in
    let b : AtGate a.settings Nothing p = record { gate = g.result; is = g.ensures } in
    rw (passed_on c.from_residual.result c.in_err-ask.field-0.0 c.from_residual.ensures.1)
    (came_shut b p (sets_up_sound a.x p) answer_of _ c.in_err-ask.field-0.0 refl c.in_err-ask.was)

pub returns-in_err-setup_gate : goal.returns-in_err-setup_gate
returns-in_err-setup_gate c =
    let peer : Peer = whole c.args.words.now in
    let asked : AtGate c.args.settings Nothing peer = let g = c.ask in record { gate = g.result; is = g.ensures } in
    let judged : c.setup_gate.result ≡ setup_gate c.args.x peer.standing.channels (room peer) =
    let free = c.room_in in
    c.setup_gate.ensures
    ∙ ap (λ (s : Standing). setup_gate c.args.x s.channels free.result) c.standing-standing.ensures
    ∙ ap (setup_gate c.args.x peer.standing.channels) free.ensures in
    rw (passed_on c.from_residual-in_err-setup_gate.result c.in_err-setup_gate.field-0.0 c.from_residual-in_err-setup_gate.ensures.1)
    (one_shut c.args.settings c.args.x peer asked c.in_ok-ask.was (setup_gate c.args.x peer.standing.channels (room peer)) c.setup_gate.result judged c.in_err-setup_gate.field-0.0 c.in_err-setup_gate.was)

pub returns : goal.returns
returns c =
    let peer : Peer = whole c.args.words.now in
    let asked : AtGate c.args.settings Nothing peer = let g = c.ask in record { gate = g.result; is = g.ensures } in
    let judged : c.setup_gate.result ≡ setup_gate c.args.x peer.standing.channels (room peer) =
    let free = c.room_in in
    c.setup_gate.ensures
    ∙ ap (λ (s : Standing). setup_gate c.args.x s.channels free.result) c.standing-standing.ensures
    ∙ ap (setup_gate c.args.x peer.standing.channels) free.ensures in
    lent_left c.args.settings c.args.x peer asked c.in_ok-ask.was (setup_gate c.args.x peer.standing.channels (room peer)) c.setup_gate.result judged (setup_some c.args.x peer) c.in_ok-setup_gate.was
    c.open-o.result c.open-o.new.marks c.open-o.ensures c.queue-after.result c.queue-after.new.marks (whole c.queue-after.new.words) (whole c.close.new.words)
    (c.queue-after.ensures.out, c.queue-after.ensures.kept) c.close.ensures
