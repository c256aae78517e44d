-- The record is written down, the lent link is called on its numbers, and what they mean then is the record that comes back.
use mathlib.Core.Path.{◌≡◌, sym, subst}
use Rattle.peer.specs.Outcome.{Came}
use Rattle.peer.specs.declared.Peer.{Peer}
use Rattle.places.specs.Whole.{whole}
use Rattle.link.specs.Steps.{answer_of, calls}
use Rattle.link.proofs.call.Goals as goal

pub returns : goal.returns
returns c =
    let a = c.args in
    let after = c.call-reply.new.words in
    let before : whole c.write.new.words ≡ a.peer = c.write.ensures in
    let came = subst (λ (p : Peer). Came answer_of (calls a.settings a.call a.datagram.now (record { peer = p; store = a.store.now; second = a.second.now })) c.call-reply.result (record { peer = whole after; store = c.call-reply.new.store; second = c.call-reply.new.second })) before c.call-reply.ensures.came in record { came = subst (λ (p : Peer). Came answer_of (calls a.settings a.call a.datagram.now (record { peer = a.peer; store = a.store.now; second = a.second.now })) c.call-reply.result (record { peer = p; store = c.call-reply.new.store; second = c.call-reply.new.second })) (sym c.meant-after.ensures) came; own = c.call-reply.ensures.own }
