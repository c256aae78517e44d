-- The slot of the pool's own numbers, in brief.
use mathlib.Core.Path.{sym, ap, ◌∙◌}
use mathlib.Core.List.{List}
use lib.ListN.{get_or}
use Rattle.record.specs.Fresh.{no_outgoing}
use Rattle.record.specs.declared.groups.Outgoing.{Outgoing}
use Rattle.pool.specs.Slots.{brief_of}
use Rattle.places.proofs.PoolLaws.{pool_is}
use Rattle.places.proofs.pools.brief_at.Goals as goal

pub returns : goal.returns
returns c =
    c.brief_at.ensures ∙ ap (λ (x : List Outgoing). brief_of (get_or x c.args.i no_outgoing)) (sym (pool_is c.args.words.now))
