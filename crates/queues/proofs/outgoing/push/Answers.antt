-- `push` meets its contract: the list at its place, altered there, by `out_kept`.
use native.Mathlib.Omega.{arith}
use Rattle.cells.specs.Runs.{pushed}
use Rattle.record.specs.Lists.{outgoing}
use Rattle.queues.proofs.QueueLaws.{place_fits, out_kept}
use Rattle.queues.proofs.outgoing.push.Goals as goal

pub push-requires : goal.push-requires
push-requires c = record { size_in_bounds = place_fits c.args.list c.place_of.result _ c.place_of.ensures c.told-words; size_bound = omega arith }

pub returns : goal.returns
returns c =
    let a = c.args in
    let o = c.push in
    let at = c.place_of in
    out_kept a.list at.result at.ensures a.words.now c.told-words (λ xs. pushed outgoing xs a.s) o.new.words o.ensures
