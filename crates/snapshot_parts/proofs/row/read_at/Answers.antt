-- `read_at` meets its contract: its returns are the cases of the rule at one place.
use mathlib.Core.Path.{sym, ap, ◌∙◌}
use native.Mathlib.Omega.{arith}
use borrow.Author.Tests.{not-true, not-false}
use Rattle.std.specs.Prelude.{ℕ, Option}
use Rattle.snapshot_parts.specs.Row.{result_of}
use Rattle.snapshot_parts.proofs.ReadLaws.{command_inside, unwritten_is, none_is, unfit_is, fit_is, groups_inside}
use Rattle.snapshot_parts.proofs.row.read_at.Goals as goal

pub returns-then-not-place-clause-numbers : goal.returns-then-not-place-clause-numbers
returns-then-not-place-clause-numbers c =
    let a = c.args in
    let e = c.place_at-place in
    unwritten_is a.words.now a.bytes.now a.at a.i e.result e.ensures (not-true e.result.is_written c.if-not-place.true)

pub returns-in_err-number-clause-numbers : goal.returns-in_err-number-clause-numbers
returns-in_err-number-clause-numbers c =
    let a = c.args in
    let e = c.place_at-place in
    ap (λ (r : Option ℕ). result_of r a.words.now a.bytes.now) c.from_residual.ensures
    ∙ none_is a.words.now a.bytes.now a.at a.i e.result e.ensures (not-false e.result.is_written c.if-not-place.false) c.in_err-number.ensures

pub returns-then-not-fits-clause-numbers : goal.returns-then-not-fits-clause-numbers
returns-then-not-fits-clause-numbers c =
    let a = c.args in
    let e = c.place_at-place in
    unfit_is a.words.now a.bytes.now a.at a.i e.result e.ensures (not-false e.result.is_written c.if-not-place.false)
    c.in_ok-number.number c.in_ok-number.ensures (sym c.fits.ensures ∙ c.if-not-fits.true)

pub set-requires-clause-i_in_bounds_2 : goal.set-requires-clause-i_in_bounds_2
set-requires-clause-i_in_bounds_2 c =
    let a = c.args in
    let e = c.place_at-place in
    λ q. rw c.told-words (command_inside a.words.now c.told-words a.i c.requires.0 e.result e.ensures q)

pub overflow_add-result : goal.overflow_add-result
overflow_add-result c =
    let a = c.args in
    let e = c.place_at-place in
    omega (
      arith,
      groups_inside a.words.now a.bytes.now a.at a.i e.result e.ensures (not-false e.result.is_written c.if-not-place.false)
          c.in_ok-number.number c.in_ok-number.ensures c.requires.1,
    )

pub returns-clause-numbers : goal.returns-clause-numbers
returns-clause-numbers c =
    let a = c.args in
    let e = c.place_at-place in
    fit_is a.words.now a.bytes.now a.at a.i e.result e.ensures (not-false e.result.is_written c.if-not-place.false)
    c.in_ok-number.number c.in_ok-number.ensures (sym c.fits.ensures ∙ c.if-not-fits.false) _ c.set.ensures

pub returns-clause-inside : goal.returns-clause-inside
returns-clause-inside c =
    let a = c.args in
    let e = c.place_at-place in
    groups_inside a.words.now a.bytes.now a.at a.i e.result e.ensures (not-false e.result.is_written c.if-not-place.false)
    c.in_ok-number.number c.in_ok-number.ensures c.requires.1
