-- `word_at` adds up the four bytes as the definition does.
use mathlib.Core.Path.{◌≡◌}
use Prim.Native.Nat.{◌+◌}
use native.Mathlib.Omega.{arith}
use Rattle.command.specs.Bytes.{number_at}
use Rattle.exports.proofs.word_at.Goals as goal

pub returns : goal.returns
unfolding number_at
returns c =
    let first : c.args.at + 0 ≡ c.args.at = omega arith in
    rw first (omega arith)
