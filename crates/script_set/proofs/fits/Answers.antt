-- `fits` meets its contract: no bits, all bits, or nothing left above them.
use Prim.Native.Nat.{◌<◌}
use mathlib.Core.Path.{◌∙◌}
use native.Mathlib.Omega.{arith}
use borrow.Author.Tests.{lt-ltb}
use Rattle.script_set.proofs.Laws.{fits_bits, fits_all}
use borrow.Author.Rules.{rules}
use Rattle.script_set.proofs.fits.Goals as goal

pub returns-then-bits-ge32 : goal.returns-then-bits-ge32
returns-then-bits-ge32 c =
    let e = c.args.place in
    let x = c.args.x in
    let h : x < 4294967296 = search rules in
    let some : 0 < e.bits = omega arith in
    simp (lt-ltb _ _ some, fits_all x e.bits h c.if-bits-ge32.true)

pub returns : goal.returns
returns c =
    let e = c.args.place in
    let some : 0 < e.bits = omega arith in
    fits_bits c.args.x e.bits ∙ simp (lt-ltb _ _ some)
