-- `is_given_up` meets its contract: at each return the tests that led there pick the rule's case.
use Rattle.std.proofs.Common.{sym, ◌∙◌, eq-eqb, ne_eqb, le-leb}
use borrow.Author.Tests.{lt-leb, not-true, not-false}
use Rattle.overdue.proofs.step.is_given_up.Goals as goal

pub returns-then-earliest-eq0 : goal.returns-then-earliest-eq0
returns-then-earliest-eq0 c = rw (eq-eqb _ _ c.if-earliest-eq0.true)

pub returns-then-limits-apart : goal.returns-then-limits-apart
returns-then-limits-apart c =
    rw (ne_eqb _ _ c.if-earliest-eq0.false, ← c.distance-apart.ensures, le-leb _ _ c.if-limits-apart.true)

pub returns-then-not-reaches : goal.returns-then-not-reaches
returns-then-not-reaches c =
    rw (
      ne_eqb _ _ c.if-earliest-eq0.false,
      ← c.distance-apart.ensures,
      lt-leb _ _ c.if-limits-apart.false,
      sym c.reaches.ensures ∙ not-true _ c.if-not-reaches.true-raw,
    )

pub returns : goal.returns
returns c =
    rw (
      ne_eqb _ _ c.if-earliest-eq0.false,
      ← c.distance-apart.ensures,
      lt-leb _ _ c.if-limits-apart.false,
      sym c.reaches.ensures ∙ not-false _ c.if-not-reaches.false-raw,
    )
