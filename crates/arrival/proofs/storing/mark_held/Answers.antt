-- `mark_held` meets its contract: the marks of all are those so far and those of the channels that are left, a channel at a time.
use Rattle.std.proofs.Common.{◌≡◌, ◌<◌, ◌≤◌, length, take, drop, sym, ◌∙◌, arith, length-take, drop_of_length-le}
use Rattle.record.specs.Fresh.{no_channel}
use Rattle.places.specs.Whole.{whole}
use Rattle.arrival.proofs.Marking.{marks_turn, marks_end}
use Rattle.places.proofs.Sized.{sized}
use Rattle.arrival.proofs.storing.mark_held.Goals as goal

pub loop-k-preserved : goal.loop-k-preserved
loop-k-preserved c =
    let a = c.args in
    let k = c.mark in
    let cs = (whole a.words.now).channels in
    let size : length cs ≡ 8 = (sized a.words.now).channels in
    let h : c.loop-k.k < a.count = omega arith in
    let low : c.loop-k.k < length cs = omega arith in
    c.loop-k.invariant ∙ marks_turn c.loop-k.marks k.new.marks cs a.count c.loop-k.k no_channel h low k.ensures

pub returns : goal.returns
returns c =
    let cs = (whole c.args.words.now).channels in
    let size : length cs ≡ 8 = (sized c.args.words.now).channels in
    let over : length (take c.args.count cs) ≤ c.loop-k.k = simp length-take (omega arith) in
    let rest = drop_of_length-le (take c.args.count cs) {i = c.loop-k.k} over in
    sym (c.loop-k.invariant ∙ marks_end c.loop-k.marks (drop c.loop-k.k (take c.args.count cs)) rest)
