-- `acknowledge` goes by the gate, then asks for the sample; what follows is `heard`'s.
use Rattle.std.specs.Prelude.{Err}
use Rattle.std.proofs.Common.{true, false, map, refl, ◌∙◌}
use lib.ListN.{length-map}
use Rattle.peer.specs.declared.gate.Lent.TheVariants.{Nothing}
use Rattle.peer.proofs.Gates.{AtGate, came_shut, passed_on}
use Rattle.places.specs.Whole.{whole}
use Rattle.acknowledge.specs.CodeSearches.{look_of, spot_in}
use Rattle.acknowledge.proofs.RemovalChanges.{pool_size}
use Rattle.acknowledge.specs.Calls.{answer_of, acknowledges_sound}
use Rattle.acknowledge.proofs.Hearing.{passed_over, heard_by}
use Rattle.acknowledge.proofs.Changes.{trip_is}
use Rattle.acknowledge.proofs.acknowledge.Goals as goal

pub returns-in_err-ask : goal.returns-in_err-ask
returns-in_err-ask c =
    let k = c.ask in
    let a = c.args in
    let p = whole a.words.now in
    let q : AtGate a.settings Nothing p = record { gate = k.result; is = k.ensures } in
    rw (passed_on c.from_residual.result c.in_err-ask.field-0.0 c.from_residual.ensures.1)
    (came_shut q p (acknowledges_sound a.channel a.number.0 a.sent a.clock p) answer_of (Err c.in_err-ask.field-0.0) c.in_err-ask.field-0.0 refl c.in_err-ask.was)

pub returns-in_default : goal.returns-in_default
returns-in_default c =
    let k = c.ask in
    let a = c.args in
    let p = whole a.words.now in
    let q : AtGate a.settings Nothing p = record { gate = k.result; is = k.ensures } in
    let s = c.standing-standing in
    let t = c.heard_in-trip in
    passed_over a.settings a.channel a.number.0 a.sent a.clock p q c.in_ok-ask.was
    t.result (trip_is p s.result s.ensures a.clock a.sent t.result t.ensures) c.in_default.is

pub returns : goal.returns
returns c =
    let k = c.ask in
    let a = c.args in
    let p = whole a.words.now in
    let q : AtGate a.settings Nothing p = record { gate = k.result; is = k.ensures } in
    let s = c.standing-standing in
    let t = c.heard_in-trip in
    let sent = look_of true a.number.0 a.channel in
    let queued = look_of false a.number.0 a.channel in
    heard_by a.settings a.channel a.number.0 a.sent a.clock p q c.in_ok-ask.was
    t.result (trip_is p s.result s.ensures a.clock a.sent t.result t.ensures) c.in-Some.sample c.in-Some.is (map sent p.outgoing)
    (map queued p.outgoing) (length-map p.outgoing sent ∙ pool_size a.words.now) (spot_in p.outgoing a.number.0 a.channel p.lists) refl refl refl
    c.heard.result (whole c.heard.new.words) c.heard.ensures
