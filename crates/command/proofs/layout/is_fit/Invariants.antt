-- The loop looks at a width and its number a turn: what fits so far leaves the whole to the rest.
use mathlib.Core.Path.{◌≡◌}
use lib.ListN.{drop}
use Rattle.command.specs.Layout.{layout}
use Rattle.command.specs.Bytes.{fits}
use Rattle.command.proofs.layout.is_fit.Given as goal

abbrev pub invariant-loop-j : goal.invariant-loop-j
invariant-loop-j l = fits (layout l.kind) l.fn.row ≡ fits (drop l.j (layout l.kind)) (drop l.j l.fn.row)
