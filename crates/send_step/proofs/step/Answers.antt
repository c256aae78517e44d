-- `step` goes by the gate, then asks for the head: the changes one after the other are the rule's record.
use Rattle.std.specs.Prelude.{Ok, Some}
use Rattle.std.proofs.Common.{sym, refl, subst}
use Rattle.record.specs.Lists.{out_items}
use Rattle.peer.specs.Outcome.{Came}
use Rattle.peer.specs.declared.gate.Lent.TheVariants.{Nothing}
use Rattle.peer.specs.declared.Peer.{Peer}
use Rattle.peer.proofs.Gates.{AtGate}
use Rattle.places.specs.Whole.{whole}
use Rattle.send_step.specs.Steps.{times_sent, packet_sent, flow_sent, lists_sent}
use Rattle.send_step.specs.Calls.{answer_of, steps}
use Rattle.send_step.proofs.Steps.{step_named, step_slot}
use Rattle.send_step.proofs.Changes.{stepped}
use Rattle.send_step.proofs.step.Goals as goal

pub returns : goal.returns
returns c =
    let k = c.ask in
    let a = c.args in
    let p = whole a.words.now in
    let q : AtGate a.settings Nothing p = record { gate = k.result; is = k.ensures } in
    let opens = c.in_ok-ask.was in
    let f = c.first_of-first in
    let o = c.attempt-o in
    let z = o.result in
    let done =
    stepped p (whole o.new.words) (whole c.count.new.words) (whole c.time.new.words) (whole c.carry.new.words)
    (whole c.move_on.new.words) a.q c.in-Some.s z o.ensures.kept c.count.ensures c.time.ensures c.carry.ensures
    c.move_on.ensures in record {
      came = subst (λ (y : Peer). Came answer_of (steps a.settings a.q a.time p) (Ok (Some z)) y) (sym done)
          (step_slot a.settings a.q a.time p q opens f.result f.ensures c.in-Some.s c.in-Some.is z
          o.ensures.out (times_sent p.times (out_items p.lists.sent) z) (packet_sent p.loss) (flow_sent p.flow z)
          (lists_sent a.q p.lists c.in-Some.s z) refl refl refl refl);
      named = step_named a.settings a.q a.time p q opens f.result f.ensures c.in-Some.s c.in-Some.is z
          o.ensures.out;
    }
