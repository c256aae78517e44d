-- `remove` meets its contract: the list at its place, altered there, by `out_kept`.
use native.Mathlib.Omega.{arith}
use Rattle.cells.specs.Runs.{without}
use Rattle.queues.proofs.QueueLaws.{place_fits, out_kept}
use Rattle.queues.proofs.outgoing.remove.Goals as goal

pub remove-requires : goal.remove-requires
remove-requires c = record { size_in_bounds = place_fits c.args.list c.place_of.result _ c.place_of.ensures c.told-words; size_bound = omega arith }

pub returns : goal.returns
returns c =
    let a = c.args in
    let o = c.remove in
    let at = c.place_of in
    out_kept a.list at.result at.ensures a.words.now c.told-words (λ xs. without xs a.k) o.new.words o.ensures
