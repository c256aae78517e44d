-- `lists` meets its contract: three lists of 33 places, then the dispatched.
use mathlib.Core.Path.{◌∙◌}
use Rattle.order.proofs.WholeLaws.{lists_place, dispatched_place}
use Rattle.order.proofs.lists.Goals as goal

pub returns-then-j : goal.returns-then-j
returns-then-j c =
    let a = c.args in
    c.list.ensures ∙ lists_place a.words.now c.told-words a.j c.if-j.true

pub returns : goal.returns
returns c =
    let a = c.args in
    c.list-2.ensures ∙ dispatched_place a.words.now c.told-words a.j c.if-j.false
