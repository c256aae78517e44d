-- `arrive` passes both gates, then asks what becomes of the piece; record and second store change by the rule. The channel exists by `Calling`.
use borrow.Author.Rules.{rules}
use Rattle.peer.proofs.Gates.{passed_on}
use Rattle.places.specs.Whole.{whole}
use Rattle.arrive_fragment.proofs.Calling.{arrive_shut, arrive_refused, channel_exists, arrive_left}
use Rattle.arrive_fragment.proofs.arrive.Goals as goal

pub returns-in_err-ask : goal.returns-in_err-ask
returns-in_err-ask c =
    let k = c.ask in
    let a = c.args in
    rw (passed_on c.from_residual.result c.in_err-ask.field-0.0 c.from_residual.ensures.1)
    (arrive_shut a.settings a.a a.datagram.now (whole a.words.now) a.store.now a.second.now (record { gate = k.result; is = k.ensures }) c.in_err-ask.field-0.0 c.in_err-ask.was)

pub returns-in_err-arrival_gate : goal.returns-in_err-arrival_gate
returns-in_err-arrival_gate c =
    let m = c.arrival_gate in
    let w = c.arrival_of in
    let t = c.standing-standing in
    let o = c.in_ok-ask.was in
    let k = c.ask in
    let a = c.args in
    rw (passed_on c.from_residual-in_err-arrival_gate.result c.in_err-arrival_gate.field-0.0 c.from_residual-in_err-arrival_gate.ensures.1)
    (arrive_refused a.settings a.a a.datagram.now (whole a.words.now) a.store.now a.second.now (record { gate = k.result; is = k.ensures }) o
    t.result t.ensures w.result w.ensures m.result m.ensures c.in_err-arrival_gate.field-0.0 c.in_err-arrival_gate.was)

pub fate_on-fate-requires : goal.fate_on-fate-requires
fate_on-fate-requires c =
    let y = c.in_ok-arrival_gate.was in
    let m = c.arrival_gate in
    let w = c.arrival_of in
    let t = c.standing-standing in
    let o = c.in_ok-ask.was in
    let k = c.ask in
    let a = c.args in
    channel_exists a.settings a.a a.datagram.now (whole a.words.now) a.store.now a.second.now (record { gate = k.result; is = k.ensures }) o t.result t.ensures w.result w.ensures m.result m.ensures y

pub keep-requires : goal.keep-requires
keep-requires c =
    let y = c.in_ok-arrival_gate.was in
    let m = c.arrival_gate in
    let w = c.arrival_of in
    let t = c.standing-standing in
    let o = c.in_ok-ask.was in
    let k = c.ask in
    let a = c.args in
    channel_exists a.settings a.a a.datagram.now (whole a.words.now) a.store.now a.second.now (record { gate = k.result; is = k.ensures }) o t.result t.ensures w.result w.ensures m.result m.ensures y

pub returns : goal.returns
returns c =
    let z = c.keep in
    let f = c.fate_on-fate in
    let y = c.in_ok-arrival_gate.was in
    let m = c.arrival_gate in
    let w = c.arrival_of in
    let t = c.standing-standing in
    let o = c.in_ok-ask.was in
    let k = c.ask in
    let a = c.args in
    arrive_left a.settings a.a a.datagram.now (whole a.words.now) a.store.now a.second.now (record { gate = k.result; is = k.ensures }) o
    t.result t.ensures w.result w.ensures m.result m.ensures y f.result f.ensures c.reply_of.result c.reply_of.ensures _ (z.ensures a.store.now)
