-- `find` meets its contract: it is std's `position` of the cells in view.
use mathlib.Core.Path.{◌≡◌, ap, sym, ◌∙◌}
use Prim.Native.Nat.{ℕ}
use mathlib.Core.List.{List}
use lib.Dec.{eqb}
use lib.ListN.{take}
use Rattle.std.proofs.Common.{rules, tests}
use Rattle.std.specs.Prelude.{position}
use Rattle.std.proofs.lemmas.Iterator.{YieldsList-from_slice}
use Rattle.std.proofs.lemmas.Iterator.Search.{position_from_yields_List}
use Rattle.cells.specs.Runs.{find_from}
use Rattle.cells.proofs.CellLaws.{clip}
use Rattle.cells.proofs.WalkLaws.{find_position}
use Rattle.cells.proofs.narrow.find.Goals as goal

pub returns : goal.returns
returns c =
    let a = c.args in
    let view = take c.min.result a.cells.now in
    let test = (λ (x : ℕ). eqb x a.s) in
    let e : c.position.result ≡ position test view =
    position_from_yields_List test _ _ c.position.result c.position.ensures.ran (YieldsList-from_slice view cc) (λ x b q k. search (rules, tests)) in
    e
    ∙ find_position view a.s
    ∙ ap (λ (xs : List ℕ). find_from 0 xs a.s) (sym (clip a.cells.now a.n c.min.result c.min.ensures))
