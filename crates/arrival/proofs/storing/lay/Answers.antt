-- `lay` meets its contract: where a test fails nothing changes, else the copy is what the tests pick.
use Rattle.std.proofs.Common.{sym, rules}
use Rattle.std.proofs.lemmas.Slice.{overwrites}
use Rattle.arrival.proofs.Cells.{laid_is, laid_short, laid_ended}
use Rattle.arrival.proofs.storing.lay.Goals as goal

pub returns-then-store-at : goal.returns-then-store-at
returns-then-store-at c =
    let a = c.args in
    sym (laid_short a.store.now a.to a.datagram.now a.place a.n c.if-store-at.true)

pub returns-then-datagram-from : goal.returns-then-datagram-from
returns-then-datagram-from c =
    let a = c.args in
    sym (laid_ended a.store.now a.to a.datagram.now a.place a.n c.if-datagram-from.true)

pub returns : goal.returns
returns c =
    let a = c.args in
    rw (laid_is a.store.now a.to a.datagram.now a.place a.n c.if-store-at.false c.if-datagram-from.false)
    (search (rules, overwrites))
