-- `arrive` passes both gates, then asks what becomes of it; stored, the store and the record change by the rule. The channel exists by `Calling`.
use Rattle.std.proofs.Common.{rules}
use Rattle.places.specs.Whole.{whole}
use Rattle.arrive_reliable.proofs.Placed.{lent_channel}
use Rattle.arrive_reliable.proofs.arrive.Goals as goal

pub fate_on-fate-requires : goal.fate_on-fate-requires
fate_on-fate-requires c =
    let y = c.in_ok-arrival_gate.was in
    let m = c.arrival_gate in
    let t = c.standing-standing in
    let o = c.in_ok-ask.was in
    let k = c.ask in
    let a = c.args in
    lent_channel a.settings a.a a.datagram.now (whole a.words.now) a.store.now a.store.now (record { gate = k.result; is = k.ensures }) o t.result t.ensures m.result m.ensures y

pub settle-requires : goal.settle-requires
settle-requires c =
    let y = c.in_ok-arrival_gate.was in
    let m = c.arrival_gate in
    let t = c.standing-standing in
    let o = c.in_ok-ask.was in
    let k = c.ask in
    let a = c.args in
    lent_channel a.settings a.a a.datagram.now (whole a.words.now) a.store.now a.store.now (record { gate = k.result; is = k.ensures }) o t.result t.ensures m.result m.ensures y
