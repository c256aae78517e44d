-- `things` meets its contract: channels, slots of both pools, marks, each by its number and the place in it.
use Prim.Native.Nat.{◌-◌}
use mathlib.Core.Path.{◌∙◌}
use native.Mathlib.Omega.{arith}
use Rattle.order.proofs.WholeLaws.{channels_place, outgoing_place, incoming_place, marks_place}
use Rattle.order.proofs.things.Goals as goal

pub returns-then-j : goal.returns-then-j
returns-then-j c =
    let a = c.args in
    c.channel.ensures ∙ channels_place a.words.now c.told-words a.j c.if-j.true

pub returns-then-j-2 : goal.returns-then-j-2
returns-then-j-2 c =
    let a = c.args in
    c.outgoing.ensures ∙ outgoing_place a.words.now c.told-words a.j (a.j - 136) (omega arith) (omega arith)

pub returns-then-j-3 : goal.returns-then-j-3
returns-then-j-3 c =
    let a = c.args in
    c.incoming.ensures ∙ incoming_place a.words.now c.told-words a.j (a.j - 968) (omega arith) (omega arith)

pub returns : goal.returns
returns c =
    let a = c.args in
    c.mark.ensures ∙ marks_place a.words.now c.told-words a.j (a.j - 1040) (omega arith)
