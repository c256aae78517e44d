-- `incoming` meets its contract: the dispatched list, or what the channels below the count hold.
use mathlib.Core.Path.{sym, ◌∙◌}
use Rattle.order.proofs.UsedLaws.{used_in}
use Rattle.order.proofs.used.incoming.Goals as goal

pub returns-then-names : goal.returns-then-names
returns-then-names c =
    let a = c.args in
    c.if-names.true ∙ sym (used_in a.words.now a.s ∙ rw (sym c.names.ensures ∙ c.if-names.true))

pub returns-else-names : goal.returns-else-names
returns-else-names c =
    let a = c.args in
    c.held.ensures ∙ sym (used_in a.words.now a.s ∙ rw (sym c.names.ensures ∙ c.if-names.false))
