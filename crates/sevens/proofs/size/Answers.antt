-- `size` meets its contract: a law for each number of groups.
use native.Mathlib.Omega.{arith}
use Rattle.sevens.proofs.Writing.{size_1, size_2, size_3, size_4, size_5}
use Rattle.sevens.proofs.size.Goals as goal

pub returns-then-x-lt128 : goal.returns-then-x-lt128
returns-then-x-lt128 c = size_1 c.args.x (omega arith)

pub returns-then-x-lt16384 : goal.returns-then-x-lt16384
returns-then-x-lt16384 c = size_2 c.args.x (omega arith) (omega arith)

pub returns-then-x-lt2097152 : goal.returns-then-x-lt2097152
returns-then-x-lt2097152 c = size_3 c.args.x (omega arith) (omega arith)

pub returns-then-x-lt268435456 : goal.returns-then-x-lt268435456
returns-then-x-lt268435456 c = size_4 c.args.x (omega arith) (omega arith)

pub returns : goal.returns
returns c = size_5 c.args.x (omega arith) (omega arith)
