-- `put` meets its contract: edition, numbers and stored bytes are set one behind the other; the buffer has room for all of them.
use native.Mathlib.Omega.{arith}
use Rattle.peer.specs.Outcome.{State}
use Rattle.places.specs.Whole.{whole}
use Rattle.places.proofs.Sized.{sized}
use Rattle.snapshot.proofs.WriteLaws.{edition_one, parts_fit, put_is}
use Rattle.snapshot.proofs.put.Goals as goal

pub put-requires : goal.put-requires
put-requires c =
    let state : State = record { peer = whole c.args.words.now; store = c.args.store.now; second = c.args.second.now } in
    let room = parts_fit state (sized c.args.words.now).incoming c.requires.store_len.0 c.requires.store_len.1 _ c.requires.second_in_bounds in
    omega (arith, edition_one, room)

pub put-end-requires : goal.put-end-requires
put-end-requires c =
    let state : State = record { peer = whole c.args.words.now; store = c.args.store.now; second = c.args.second.now } in
    let room = parts_fit state (sized c.args.words.now).incoming c.requires.store_len.0 c.requires.store_len.1 _ c.requires.second_in_bounds in
    omega (arith, room)

pub put-requires-2-clause-words_in_bounds : goal.put-requires-2-clause-words_in_bounds
put-requires-2-clause-words_in_bounds c =
    let state : State = record { peer = whole c.args.words.now; store = c.args.store.now; second = c.args.second.now } in
    let room = parts_fit state (sized c.args.words.now).incoming c.requires.store_len.0 c.requires.store_len.1 _ c.requires.second_in_bounds in
    omega (arith, c.put-end.ensures.end, room)

pub returns : goal.returns
returns c =
    let state : State = record { peer = whole c.args.words.now; store = c.args.store.now; second = c.args.second.now } in
    put_is state _ _ _ _ _ c.put.ensures c.put-end.ensures.bytes c.put-end.ensures.end c.put-2.ensures.bytes
