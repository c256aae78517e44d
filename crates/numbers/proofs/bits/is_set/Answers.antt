-- `is_set` answers no for a bit past the word: a word has none there.
use Rattle.std.proofs.Common.{◌^◌, ◌<◌, sym, rules}
use Rattle.numbers.proofs.BitLaws.{bit_none}
use Rattle.numbers.proofs.bits.is_set.Goals as goal

pub returns-then-k-ge32 : goal.returns-then-k-ge32
returns-then-k-ge32 c =
    let small : c.args.word < 2 ^ 32 = search rules in
    sym (bit_none c.args.word c.args.k small c.if-k-ge32.true)
