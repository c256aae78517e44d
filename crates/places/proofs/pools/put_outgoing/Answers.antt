-- The pool's numbers are lent and come back with the slot in them.
use mathlib.Core.Path.{◌≡◌}
use mathlib.Core.List.{List}
use lib.ListN.{length, set}
use Rattle.record.specs.declared.groups.Outgoing.{Outgoing}
use Rattle.places.proofs.PoolLaws.{pool_back}
use borrow.Author.Rules.{rules}
use Rattle.places.proofs.pools.put_outgoing.Goals as goal

pub returns : goal.returns
returns c =
    let e : length c.put.new.pool ≡ 832 = search rules in
    pool_back c.args.words.now c.put.new.pool c.told-words (λ (x : List Outgoing). set x c.args.i c.args.slot) e c.put.ensures
