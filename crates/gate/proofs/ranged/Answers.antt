-- `ranged` asks for each range in turn: at each return the answer that led there picks the rule's case.
use mathlib.Core.Path.{sym, ◌∙◌}
use borrow.Author.Tests.{not-true, not-false}
use Rattle.gate.proofs.ranged.Goals as goal

pub returns-then-not-mtu_fits : goal.returns-then-not-mtu_fits
returns-then-not-mtu_fits c = rw (sym c.mtu_fits.ensures ∙ not-true _ c.if-not-mtu_fits.true-raw)

pub returns : goal.returns
returns c = rw (sym c.mtu_fits.ensures ∙ not-false _ c.if-not-mtu_fits.false-raw)
