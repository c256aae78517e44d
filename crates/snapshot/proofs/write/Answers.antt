-- `write` meets its contract: behind the gate it is refused by the edition, then by the room; else the snapshot is put, whose length was asked for.
use Prim.Native.Nat.{◌+◌}
use mathlib.Core.Path.{◌≡◌}
use native.Mathlib.Omega.{arith}
use lib.ListN.{length}
use Rattle.peer.specs.Outcome.{State}
use Rattle.peer.proofs.Gates.{AtGate, passed_on}
use Rattle.places.specs.Whole.{whole}
use Rattle.places.proofs.Sized.{sized}
use Rattle.snapshot.specs.Calls.{lent_both}
use Rattle.snapshot.proofs.WriteLaws.{numbers, total, numbers_few, stored_few, write_room, write_none, write_done}
use Rattle.snapshot.proofs.write.Goals as goal

pub overflow_add-length : goal.overflow_add-length
overflow_add-length c =
    omega (arith, c.size.ensures, numbers_few c.args.words.now c.told-words)

pub overflow_add-length-2 : goal.overflow_add-length-2
overflow_add-length-2 c =
    let ws = c.args.words.now in
    omega (arith, c.size.ensures, numbers_few ws c.told-words, c.size-2.ensures, stored_few ws)

pub returns-then-buffer-length : goal.returns-then-buffer-length
returns-then-buffer-length c =
    let state : State = record { peer = whole c.args.words.now; store = c.args.store.now; second = c.args.second.now } in
    let asked : AtGate c.args.settings (lent_both state) state.peer = record { gate = c.ask.result; is = c.ask.ensures } in
    let size_is : 1 + c.size.result + c.size-2.result ≡ 1 + length (numbers state) + total state = omega (arith, c.size.ensures, c.size-2.ensures) in
    let a = c.args in
    write_none a.settings a.edition state a.buffer.now asked c.in_ok-ask.was c.if-edition-ne-EDITION.false
    (sized a.words.now).incoming _ size_is c.if-buffer-length.true

pub put-requires-clause-second_in_bounds : goal.put-requires-clause-second_in_bounds
put-requires-clause-second_in_bounds c =
    let state : State = record { peer = whole c.args.words.now; store = c.args.store.now; second = c.args.second.now } in
    let asked : AtGate c.args.settings (lent_both state) state.peer = record { gate = c.ask.result; is = c.ask.ensures } in
    let size_is : 1 + c.size.result + c.size-2.result ≡ 1 + length (numbers state) + total state = omega (arith, c.size.ensures, c.size-2.ensures) in
    let a = c.args in
    write_room a.settings a.edition state a.buffer.now asked c.in_ok-ask.was c.if-edition-ne-EDITION.false (sized a.words.now).incoming _
    size_is c.if-buffer-length.false

pub returns : goal.returns
returns c =
    let state : State = record { peer = whole c.args.words.now; store = c.args.store.now; second = c.args.second.now } in
    let asked : AtGate c.args.settings (lent_both state) state.peer = record { gate = c.ask.result; is = c.ask.ensures } in
    let size_is : 1 + c.size.result + c.size-2.result ≡ 1 + length (numbers state) + total state = omega (arith, c.size.ensures, c.size-2.ensures) in
    let a = c.args in
    write_done a.settings a.edition state a.buffer.now asked c.in_ok-ask.was c.if-edition-ne-EDITION.false
    (sized a.words.now).incoming _ size_is c.if-buffer-length.false _ c.put.ensures
