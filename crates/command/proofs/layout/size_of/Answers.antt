-- The size of each command is the sum of its widths: one computed test over the table, and an empty layout past it.
use mathlib.Core.Path.{sym}
use Rattle.command.specs.Layout.{layout, total, size_of}
use Rattle.command.proofs.TableLaws.{entry}
use Rattle.command.proofs.LayoutLaws.{size_none, not_known}
use native.Mathlib.Omega.{arith}
use Rattle.command.proofs.layout.size_of.Goals as goal

pub returns-then-kind-ge16 : goal.returns-then-kind-ge16
returns-then-kind-ge16 c = sym (size_none c.args.kind (not_known c.args.kind (omega arith)))

pub returns : goal.returns
unfolding layout total
returns c = entry size_of 0 16 c.args.kind (omega arith)
