-- `lowest` meets its contract: it is std's `position` of the marks in view.
use mathlib.Core.Path.{◌≡◌, ap, sym, ◌∙◌}
use mathlib.Core.Bool.{not}
use Prim.Native.Nat.{ℕ}
use lib.Dec.{eqb}
use lib.ListN.{take}
use native.Mathlib.Omega.{arith}
use Rattle.std.proofs.Common.{rules, tests}
use Rattle.std.specs.Prelude.{position}
use Rattle.std.proofs.lemmas.Iterator.{YieldsList-from_slice}
use Rattle.std.proofs.lemmas.Iterator.Search.{position_from_yields_List}
use Rattle.cells.specs.Free.{first_from, is_marked}
use Rattle.cells.proofs.WalkLaws.{lowest_position}
use Rattle.cells.proofs.marks.lowest.Goals as goal

pub returns-in_err-k : goal.returns-in_err-k
returns-in_err-k c =
    let m = c.args.marks.now in
    let view = take c.min.result m in
    let test = (λ (x : ℕ). not (eqb x 1)) in
    let e : c.position.result ≡ position test view =
    position_from_yields_List test _ _ c.position.result c.position.ensures.ran (YieldsList-from_slice view cc) (λ x b q k. search (rules, tests)) in
    c.from_residual.ensures ∙ sym c.in_err-k.was
    ∙ e
    ∙ lowest_position m c.min.result (omega arith)
    ∙ ap (λ (n : ℕ). first_from (is_marked m) n 0) c.min.ensures

pub returns : goal.returns
returns c =
    let m = c.args.marks.now in
    let view = take c.min.result m in
    let test = (λ (x : ℕ). not (eqb x 1)) in
    let e : c.position.result ≡ position test view =
    position_from_yields_List test _ _ c.position.result c.position.ensures.ran (YieldsList-from_slice view cc) (λ x b q k. search (rules, tests)) in
    sym c.in_ok-k.was
    ∙ e
    ∙ lowest_position m c.min.result (omega arith)
    ∙ ap (λ (n : ℕ). first_from (is_marked m) n 0) c.min.ensures
