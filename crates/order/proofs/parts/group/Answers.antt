-- `group` meets its contract: each number cut to the bits of its place.
use mathlib.Core.Path.{◌∙◌}
use Rattle.order.proofs.PartLaws.{group_place, group_narrow, group_wide}
use Rattle.order.proofs.parts.group.Goals as goal

pub returns-then-j-lt4 : goal.returns-then-j-lt4
returns-then-j-lt4 c =
    let a = c.args in
    c.short.ensures ∙ group_place a.words.now a.j 16 c.told-words c.requires (group_narrow a.j c.if-j-lt4.true)

pub returns : goal.returns
returns c =
    let a = c.args in
    c.long.ensures ∙ group_place a.words.now a.j 32 c.told-words c.requires (group_wide a.j c.if-j-lt4.false c.requires)
