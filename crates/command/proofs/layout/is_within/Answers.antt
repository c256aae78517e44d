-- A test for each width that a number has; every u32 fits in four bytes or more.
use Prim.Native.Nat.{◌^◌, ◌<◌}
use borrow.Author.Tests.{ne_eqb, lt-ltb}
use Rattle.command.proofs.ByteLaws.{pow_4}
use native.Mathlib.Omega.{arith}
use Rattle.command.proofs.layout.is_within.Goals as goal

pub returns-in_default : goal.returns-in_default
returns-in_default c =
    let a = c.args in
    let h : a.x < 256 ^ a.width = omega (arith, pow_4 a.width (omega arith)) in
    rw (ne_eqb a.width 0 (λ e. omega arith), lt-ltb a.x (256 ^ a.width) h)
