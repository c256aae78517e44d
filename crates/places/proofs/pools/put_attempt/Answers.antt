-- The pool's numbers are lent and come back with the slot in them.
use mathlib.Core.Path.{◌≡◌}
use mathlib.Core.List.{List}
use lib.ListN.{length, set, get_or}
use Rattle.record.specs.Fresh.{no_outgoing}
use Rattle.record.specs.Updates.{with_attempt}
use Rattle.record.specs.declared.groups.Outgoing.{Outgoing}
use Rattle.places.proofs.PoolLaws.{pool_back}
use borrow.Author.Rules.{rules}
use Rattle.places.proofs.pools.put_attempt.Goals as goal

pub returns : goal.returns
returns c =
    let e : length c.put_attempt.new.pool ≡ 832 = search rules in
    pool_back c.args.words.now c.put_attempt.new.pool c.told-words (λ (x : List Outgoing). set x c.args.i (with_attempt (get_or x c.args.i no_outgoing) c.args.sent c.args.timeout c.args.attempts)) e c.put_attempt.ensures
