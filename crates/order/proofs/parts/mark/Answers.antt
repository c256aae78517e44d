-- `mark` meets its contract: two words, and nothing past them.
use mathlib.Core.Path.{◌∙◌}
use Rattle.order.proofs.PartLaws.{mark_place, mark_none}
use Rattle.order.proofs.parts.mark.Goals as goal

pub returns-then-j-lt2 : goal.returns-then-j-lt2
returns-then-j-lt2 c =
    let a = c.args in
    c.long.ensures ∙ mark_place a.words.now a.j c.if-j-lt2.true

pub returns : goal.returns
returns c =
    let a = c.args in
    c.written_if.ensures ∙ rw c.none.ensures (mark_none a.words.now a.j c.if-j-lt2.false)
