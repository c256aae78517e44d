-- `one_less` takes one off what remains, modulo 2^32.
use Rattle.std.proofs.Common.{arith, rules}
use Rattle.numbers.proofs.ModuloLaws.{minus_of}
use Rattle.blocks.proofs.one_less.Goals as goal

pub returns : goal.returns
returns c =
    rw (minus_of c.args.slot.remaining 1 c.wrapping_sub_u32.result (search rules) (omega arith) (search rules) c.wrapping_sub_u32.ensures.value)
