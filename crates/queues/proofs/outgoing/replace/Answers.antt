-- `replace` meets its contract: the list without all its slots, then with those of the run, by `replaced`.
use native.Mathlib.Omega.{arith}
use Rattle.queues.proofs.QueueLaws.{place_fits, replaced}
use Rattle.queues.proofs.outgoing.replace.Goals as goal

pub cut-requires : goal.cut-requires
cut-requires c =
    let at = c.place_of-at in
    record { size_in_bounds = place_fits c.args.list at.result _ at.ensures c.told-words; size_bound = omega arith }

pub append-requires : goal.append-requires
append-requires c =
    let at = c.place_of-at in
    record { size_in_bounds = place_fits c.args.list at.result _ at.ensures (omega arith); size_bound = omega arith }

pub returns : goal.returns
returns c =
    let a = c.args in
    let at = c.place_of-at in
    let mid = c.cut in
    let end = c.append in
    replaced a.list at.result at.ensures a.words.now mid.new.words end.new.words c.told-words (omega arith) a.k a.run.now c.requires.k_le_outgoing
    mid.ensures end.ensures
