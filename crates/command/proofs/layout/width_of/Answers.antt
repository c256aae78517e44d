-- The width at each place of each command: the table is the layouts with zeros at their ends, by computing; none past it.
use mathlib.Core.Path.{sym, ap, ◌∙◌}
use mathlib.Core.List.{List, []}
use Prim.Native.Nat.{ℕ}
use lib.ListN.{get_or, get_or-eq_default}
use Rattle.command.specs.Layout.{layout}
use Rattle.command.specs.Bytes.{pad}
use Rattle.command.proofs.TableLaws.{entry}
use Rattle.command.proofs.LayoutLaws.{layout_none, not_known, layout-length}
use Rattle.command.proofs.RowLaws.{pad_at}
use native.Mathlib.Omega.{arith}
use Rattle.command.proofs.layout.width_of.Goals as goal

pub returns-then-kind-ge16 : goal.returns-then-kind-ge16
returns-then-kind-ge16 c = sym (ap (λ (ws : List ℕ). get_or ws c.args.j 0) (layout_none c.args.kind (not_known c.args.kind (omega arith))))

pub returns-then-j-ge16 : goal.returns-then-j-ge16
returns-then-j-ge16 c =
    let k = c.args.kind in
    let h = layout-length k in
    sym (get_or-eq_default (layout k) 0 {n = c.args.j} (omega arith))

pub returns : goal.returns
unfolding layout pad
returns c =
    let k = c.args.kind in
    let j = c.args.j in
    ap (λ (ws : List ℕ). get_or ws j 0) (entry (λ n. pad 16 (layout n)) [] 16 k (omega arith)) ∙ pad_at 16 (layout k) j (omega arith)
