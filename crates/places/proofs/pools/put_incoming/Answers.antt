-- The pool's numbers are lent and come back with the slot in them.
use mathlib.Core.Path.{◌≡◌}
use mathlib.Core.List.{List}
use lib.ListN.{length, set}
use Rattle.record.specs.declared.groups.Incoming.{Incoming}
use Rattle.places.proofs.PoolLaws.{in_pool_back}
use borrow.Author.Rules.{rules}
use Rattle.places.proofs.pools.put_incoming.Goals as goal

pub returns : goal.returns
returns c =
    let e : length c.put_in.new.pool ≡ 72 = search rules in
    in_pool_back c.args.words.now c.put_in.new.pool c.told-words (λ (x : List Incoming). set x c.args.i c.args.slot) e c.put_in.ensures
