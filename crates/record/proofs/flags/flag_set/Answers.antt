-- `flag_set` meets its contract: bit 0 adds at most 1, to an even number, so the flags stay below 65,536.
use borrow.Author.Rules.{rules}
use Rattle.record.proofs.FlagLaws.{bit_stays}
use Rattle.record.proofs.flags.flag_set.Goals as goal

pub returns : goal.returns
returns c =
    let is = c.set.ensures in
    rw (c.low16.ensures, is, bit_stays c.args.flags (search rules))
