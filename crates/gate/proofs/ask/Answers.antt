-- `ask` asks for the settings and the store, then for the record.
use mathlib.Core.Path.{sym, ◌∙◌}
use borrow.Author.Tests.{not-true, not-false}
use Rattle.gate.proofs.ask.Goals as goal

pub returns-then-not-is_fit : goal.returns-then-not-is_fit
returns-then-not-is_fit c = simp (sym c.is_fit.ensures ∙ not-true _ c.if-not-is_fit.true-raw)

pub returns-then-not-sound : goal.returns-then-not-sound
returns-then-not-sound c =
    simp (
      sym c.is_fit.ensures ∙ not-false _ c.if-not-is_fit.false-raw,
      sym c.sound.ensures ∙ not-true _ c.if-not-sound.true-raw,
    )

pub returns : goal.returns
returns c =
    simp (
      sym c.is_fit.ensures ∙ not-false _ c.if-not-is_fit.false-raw,
      sym c.sound.ensures ∙ not-false _ c.if-not-sound.false-raw,
    )
