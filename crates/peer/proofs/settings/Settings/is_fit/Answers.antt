-- `is_fit` asks for each range in turn: at each return the answers that led there pick the rule's case.
use mathlib.Core.Path.{sym, ◌∙◌}
use borrow.Author.Tests.{le-leb, lt-leb, not-true, not-false}
use Rattle.peer.proofs.settings.Settings.is_fit.Goals as goal

pub returns-then-not-mtu_fits : goal.returns-then-not-mtu_fits
returns-then-not-mtu_fits c = rw (sym c.mtu_fits.ensures ∙ not-true _ c.if-not-mtu_fits.true-raw)

pub returns-then-self-lt1 : goal.returns-then-self-lt1
returns-then-self-lt1 c =
    rw (sym c.mtu_fits.ensures ∙ not-false _ c.if-not-mtu_fits.false-raw, lt-leb _ _ c.if-self-lt1.true)

pub returns : goal.returns
returns c =
    rw (sym c.mtu_fits.ensures ∙ not-false _ c.if-not-mtu_fits.false-raw, le-leb _ _ c.if-self-lt1.false)
