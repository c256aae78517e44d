-- `dispatch` passes the gate and its own refusal; a sound record has the channel then, and `dispatching` makes the rule's record.
use Rattle.std.proofs.Common.{◌<◌, ap, arith, rules}
use Rattle.record.specs.declared.groups.Standing.{Standing}
use Rattle.peer.specs.declared.gate.Lent.TheVariants.{Nothing}
use Rattle.peer.proofs.Gates.{AtGate}
use Rattle.places.specs.Whole.{whole}
use Rattle.dispatch.proofs.Calling.{channel_exists}
use Rattle.dispatch.proofs.dispatch.Goals as goal

pub dispatch-requires : goal.dispatch-requires
dispatch-requires c =
    let t = c.standing-standing in
    let k = c.ask in
    let a = c.args in
    let p = whole a.words.now in
    let q : AtGate a.settings Nothing p = record { gate = k.result; is = k.ensures } in
    let h : a.channel < p.standing.channels = omega (arith, ap (λ (x : Standing). x.channels) t.ensures, c.if-standing-channel.false) in
    channel_exists a.settings a.channel p q c.in_ok-ask.was h
