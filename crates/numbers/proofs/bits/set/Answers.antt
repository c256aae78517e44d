-- `set` answers the word with bit k: 1 shifted by k is 2^k, and to `or` with it is to add it where it is missing.
use Rattle.std.proofs.Common.{one-mul, arith, lit<, shl_exact, le-leb}
use borrow.Author.Tests.{lt-leb}
use Rattle.numbers.specs.Bits.{with_bit}
use Rattle.numbers.proofs.BitLaws.{or_pow}
use Rattle.numbers.proofs.bits.set.Goals as goal

pub returns-then-k-ge32 : goal.returns-then-k-ge32
unfolding with_bit
returns-then-k-ge32 c = simp (le-leb _ _ c.if-k-ge32.true)

pub returns : goal.returns
unfolding with_bit
returns c = rw (lt-leb _ _ c.if-k-ge32.false, shl_exact {a = 1} 1 c.args.k 32 (lit< tt) (omega arith), one-mul)
    (or_pow c.args.word c.args.k)
