-- `all_fit` meets its contract: whether all numbers fit is whether those that are left do, once those before fit.
use Prim.Native.Nat.{◌+◌}
use mathlib.Core.Path.{◌≡◌}
use lib.ListN.{drop}
use Rattle.places.specs.Whole.{whole}
use Rattle.script_set.specs.Setting.{all_fit}
use Rattle.script_set.proofs.all_fit.Given as goal

abbrev pub invariant-loop-j : goal.invariant-loop-j
invariant-loop-j l = all_fit (whole l.words) l.i l.numbers ≡ all_fit (whole l.words) (l.i + l.j) (drop l.j l.numbers)
