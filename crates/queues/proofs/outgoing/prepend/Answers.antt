-- `prepend` meets its contract: the list at its place, altered there, by `out_kept`.
use native.Mathlib.Omega.{arith}
use mathlib.Core.List.{map}
use lib.ListN.{take}
use Rattle.cells.specs.Runs.{prepended}
use Rattle.record.specs.Lists.{outgoing}
use Rattle.lists.specs.Rows.{low}
use Rattle.queues.proofs.QueueLaws.{place_fits, out_kept}
use Rattle.queues.proofs.outgoing.prepend.Goals as goal

pub prepend-requires : goal.prepend-requires
prepend-requires c = record { size_in_bounds = place_fits c.args.list c.place_of.result _ c.place_of.ensures c.told-words; size_bound = omega arith }

pub returns : goal.returns
returns c =
    let a = c.args in
    let o = c.prepend in
    let at = c.place_of in
    out_kept a.list at.result at.ensures a.words.now c.told-words (prepended outgoing (map low (take a.k a.run.now))) o.new.words o.ensures
