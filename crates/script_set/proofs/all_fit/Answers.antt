-- `all_fit` meets its contract: whether all numbers fit is whether those that are left do, once those before fit.
use mathlib.Core.Path.{◌≡◌, sym, ◌∙◌}
use mathlib.Core.Bool.{true, false}
use native.Mathlib.Omega.{arith}
use borrow.Author.Rules.{rules}
use Rattle.places.specs.Whole.{whole}
use Rattle.script_set.proofs.Laws.{fit_turn, fit_none, fit_end}
use Rattle.script_set.proofs.all_fit.Goals as goal

pub returns-then-not-fits_at : goal.returns-then-not-fits_at
returns-then-not-fits_at c =
    let a = c.args in
    let f = c.fits_at in
    let no : f.result ≡ false = search rules in
    sym (c.loop-j.invariant ∙ fit_none (whole a.words.now) a.numbers.now a.i c.loop-j.j (omega arith) (sym f.ensures ∙ no))

pub loop-j-preserved : goal.loop-j-preserved
loop-j-preserved c =
    let a = c.args in
    let f = c.fits_at in
    let yes : f.result ≡ true = search rules in
    c.loop-j.invariant ∙ fit_turn (whole a.words.now) a.numbers.now a.i c.loop-j.j (omega arith) (sym f.ensures ∙ yes)

pub returns : goal.returns
returns c =
    let a = c.args in
    sym (c.loop-j.invariant ∙ fit_end (whole a.words.now) a.numbers.now a.i c.loop-j.j (omega arith))
