-- `call` makes each call by its own function, so what that function ensures is carried over, one arm of the match after another.
use mathlib.Core.Path.{refl, ap}
use Prim.Native.Nat.{ℕ, ◌+◌, ◌*◌}
use Rattle.peer.specs.Outcome.{State}
use Rattle.places.specs.Whole.{whole}
use Rattle.peer.specs.Calls as plain
use Rattle.link_out.specs.Steps as outward
use Rattle.link_in.specs.Steps as inward
use Rattle.link_in.proofs.Calling.{came_beside}
use Rattle.link.specs.declared.calls.Reply.TheVariants as vr
use Rattle.link.proofs.Calling.{promised}
use Rattle.link.proofs.lent.call.Goals as goal

pub returns-in-Reset : goal.returns-in-Reset
returns-in-Reset c =
    let a = c.args in
    let x : State = record { peer = whole a.words.now; store = a.store.now; second = a.second.now } in
    let it = promised a.settings a.call a.datagram.now x plain.answer_of vr.Called _ c.in-Reset.is _ refl refl tt _ refl _ (came_beside x _ c.reset.ensures) in
    record { came = it.0; own = it.1 }

pub returns-in-Begin : goal.returns-in-Begin
returns-in-Begin c =
    let a = c.args in
    let x : State = record { peer = whole a.words.now; store = a.store.now; second = a.second.now } in
    let it = promised a.settings a.call a.datagram.now x plain.answer_of vr.Called _ c.in-Begin.is _ refl refl tt _ refl _ (came_beside x _ c.begin.ensures) in
    record { came = it.0; own = it.1 }

pub returns-in-SetState : goal.returns-in-SetState
returns-in-SetState c =
    let a = c.args in
    let x : State = record { peer = whole a.words.now; store = a.store.now; second = a.second.now } in
    let it = promised a.settings a.call a.datagram.now x plain.answer_of vr.Called _ c.in-SetState.is _ refl refl tt _ refl _ (came_beside x _ c.set_state.ensures) in
    record { came = it.0; own = it.1 }

pub returns-in-Outward : goal.returns-in-Outward
returns-in-Outward c =
    let a = c.args in
    let x : State = record { peer = whole a.words.now; store = a.store.now; second = a.second.now } in
    let own = c.call.ensures.own in
    let it = promised a.settings a.call a.datagram.now x outward.answer_of vr.Outward _ c.in-Outward.is _ refl (ap (λ (n : ℕ). 2 * n + 1) own.kind) own.named _ refl _ (came_beside x _ c.call.ensures.came) in
    record { came = it.0; own = it.1 }

pub returns-in-Inward : goal.returns-in-Inward
returns-in-Inward c =
    let a = c.args in
    let x : State = record { peer = whole a.words.now; store = a.store.now; second = a.second.now } in
    let own = c.call-in-Inward.ensures.own in
    let it = promised a.settings a.call a.datagram.now x inward.answer_of vr.Inward _ c.in-Inward.is _ refl (ap (λ (n : ℕ). 2 * n + 2) own.kind) tt _ refl _ c.call-in-Inward.ensures.came in
    record { came = it.0; own = it.1 }
