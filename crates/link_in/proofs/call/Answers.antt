-- `call` makes each call by its own function, so what that function ensures is carried over, one arm of the match after another.
use mathlib.Core.Path.{refl}
use Rattle.peer.specs.Outcome.{State}
use Rattle.places.specs.Whole.{whole}
use Rattle.peer.specs.Calls as plain
use Rattle.arrival.specs.Arrivals as arriving
use Rattle.receive.specs.Calls as receiving
use Rattle.link_in.specs.declared.calls.Reply.TheVariants as vr
use Rattle.link_in.proofs.Calling.{came_beside, promised}
use Rattle.link_in.proofs.call.Goals as goal

pub returns-in-UnsequencedArrival : goal.returns-in-UnsequencedArrival
returns-in-UnsequencedArrival c =
    let a = c.args in
    let x : State = record { peer = whole a.words.now; store = a.store.now; second = a.second.now } in
    let it = promised a.settings a.call a.datagram.now x arriving.answer_of vr.Arrived _ c.in-UnsequencedArrival.is _ refl refl _ refl _ (c.arrive.ensures a.second.now) in
    record { came = it.0; own = it.1 }

pub returns-in-ReliableArrival : goal.returns-in-ReliableArrival
returns-in-ReliableArrival c =
    let a = c.args in
    let x : State = record { peer = whole a.words.now; store = a.store.now; second = a.second.now } in
    let it = promised a.settings a.call a.datagram.now x arriving.answer_of vr.Arrived _ c.in-ReliableArrival.is _ refl refl _ refl _ (c.arrive-in-ReliableArrival.ensures a.second.now) in
    record { came = it.0; own = it.1 }

pub returns-in-FragmentArrival : goal.returns-in-FragmentArrival
returns-in-FragmentArrival c =
    let a = c.args in
    let x : State = record { peer = whole a.words.now; store = a.store.now; second = a.second.now } in
    let it = promised a.settings a.call a.datagram.now x arriving.answer_of vr.Arrived _ c.in-FragmentArrival.is _ refl refl _ refl _ c.arrive-in-FragmentArrival.ensures in
    record { came = it.0; own = it.1 }

pub returns-in-Dispatch : goal.returns-in-Dispatch
returns-in-Dispatch c =
    let a = c.args in
    let x : State = record { peer = whole a.words.now; store = a.store.now; second = a.second.now } in
    let it = promised a.settings a.call a.datagram.now x plain.answer_of vr.Called _ c.in-Dispatch.is _ refl refl _ refl _ (came_beside x _ c.dispatch.ensures) in
    record { came = it.0; own = it.1 }

pub returns-in-Receive : goal.returns-in-Receive
returns-in-Receive c =
    let a = c.args in
    let x : State = record { peer = whole a.words.now; store = a.store.now; second = a.second.now } in
    let it = promised a.settings a.call a.datagram.now x receiving.answer_of vr.Received _ c.in-Receive.is _ refl refl _ refl _ (came_beside x _ c.receive.ensures) in
    record { came = it.0; own = it.1 }
