-- `outgoing` meets its contract: the first list that names the slot decides.
use mathlib.Core.Path.{sym, ◌∙◌}
use borrow.Author.Rules.{rules}
use Rattle.order.proofs.UsedLaws.{used_out_lem}
use Rattle.order.proofs.used.outgoing.Goals as goal
use Rattle.order.proofs.used.outgoing.Goals.{then-names, else-names}

pub returns-then-names-2 : goal.returns-then-names-2
returns-then-names-2 c =
    let a = c.args in
    let is = used_out_lem a.words.now a.s in
    elim c.if-names.branch [
      | then-names w ↦ c.if-names-2.true ∙ sym (is ∙ rw (sym c.names.ensures ∙ w.if-names.true))
      | else-names w ↦
          c.if-names-2.true ∙ sym (is ∙ rw (sym c.names.ensures ∙ w.if-names.false, sym w.names-else-names.ensures ∙ sym w.value-is ∙ c.if-names-2.true))
    ]

pub returns-else-names-2 : goal.returns-else-names-2
returns-else-names-2 c =
    let a = c.args in
    let is = used_out_lem a.words.now a.s in
    elim c.if-names.branch [
      | then-names w ↦ search rules
      | else-names w ↦
          c.names-else-names-2.ensures ∙ sym (is ∙ rw (sym c.names.ensures ∙ w.if-names.false, sym w.names-else-names.ensures ∙ sym w.value-is ∙ c.if-names-2.false))
    ]
