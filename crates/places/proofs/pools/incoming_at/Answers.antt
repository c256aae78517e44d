-- The slot of the pool's own numbers.
use mathlib.Core.Path.{sym, ap, ◌∙◌}
use mathlib.Core.List.{List}
use lib.ListN.{get_or}
use Rattle.record.specs.Fresh.{no_incoming}
use Rattle.record.specs.declared.groups.Incoming.{Incoming}
use Rattle.places.proofs.PoolLaws.{in_pool_is}
use Rattle.places.proofs.pools.incoming_at.Goals as goal

pub returns : goal.returns
returns c =
    c.in_slot_at.ensures ∙ ap (λ (x : List Incoming). get_or x c.args.i no_incoming) (sym (in_pool_is c.args.words.now))
