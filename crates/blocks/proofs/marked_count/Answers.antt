-- `marked_count` adds up the set bits of the two words: each is at most 32, and together they are the marked pieces.
use Rattle.std.proofs.Common.{arith, rules}
use lib.Count.{ones-le}
use Rattle.blocks.proofs.Counting.{count_ones}
use Rattle.blocks.proofs.marked_count.Goals as goal

pub overflow_add-result : goal.overflow_add-result
overflow_add-result c =
    let m = c.args.m in
    omega (arith, ones-le 32 m.low (search rules), ones-le 32 m.high (search rules))

pub returns : goal.returns
returns c = count_ones c.args.m (search rules) (search rules)
