-- `list` meets its contract: the length, then the cells, of which those below the length are written.
use mathlib.Core.Path.{◌∙◌}
use native.Mathlib.Omega.{arith}
use Rattle.order.proofs.PartLaws.{list_length, list_cell}
use Rattle.order.proofs.parts.list.Goals as goal

pub returns-then-j-eq0 : goal.returns-then-j-eq0
returns-then-j-eq0 c =
    let a = c.args in
    c.length_of.ensures ∙ list_length a.words.now a.at a.size c.requires.size_in_bounds a.j c.if-j-eq0.true

pub returns : goal.returns
returns c =
    let a = c.args in
    c.written_if.ensures ∙ rw c.short.ensures (list_cell a.words.now a.at a.size c.requires.size_in_bounds a.j _ c.if-j-eq0.false (omega arith) c.low16-n.ensures)
