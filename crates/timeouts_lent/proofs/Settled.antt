-- The walk's contract settles its result: any two results, numbers and run, that it allows for one input are the same. Both are the rule's.
use Prim.Native.Nat.{ℕ}
use mathlib.Core.Path.{◌≡◌, sym, ◌∙◌}
use mathlib.Core.List.{List}
use Rattle.record.specs.declared.groups.Limits.{Limits}
use Rattle.timeouts_lent.specs.Walking.{Walks}
use Rattle.timeouts_lent.specs.declared.Awaiting.{Awaiting}
use Rattle.timeouts_lent.specs.declared.Numbers.{Numbers}

module _ (l : Limits) (clock : ℕ) (n r s : Numbers) (before after other : List Awaiting) where
  pub walk_settled : Walks l clock n before r after → Walks l clock n before s other → (r ≡ s) × (after ≡ other)
  walk_settled a b = (a.walk ∙ sym b.walk, a.run ∙ sym b.run)
