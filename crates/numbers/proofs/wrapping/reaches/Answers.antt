-- `reaches` compares 2 × limit with 2^attempts: from 33 attempts on the power is past every doubled 32-bit limit.
use Rattle.std.proofs.Common.{◌*◌, ◌^◌, ◌≤◌, sym, arith, pow_mono, le-leb}
use Rattle.numbers.proofs.wrapping.reaches.Goals as goal

pub returns-then-attempts-ge33 : goal.returns-then-attempts-ge33
returns-then-attempts-ge33 c =
    let past : 2 * c.args.limit ≤ 2 ^ c.args.attempts = omega (arith, pow_mono c.if-attempts-ge33.true) in
    sym (le-leb _ _ past)
