-- `channel` meets its contract: its numbers and its list, written where it is below the count.
use native.Mathlib.Omega.{arith}
use mathlib.Core.Path.{◌∙◌}
use Rattle.order.proofs.PartLaws.{channel_number_place, channel_list_place}
use Rattle.order.proofs.parts.channel.Goals as goal

pub returns-then-j-lt-HELD : goal.returns-then-j-lt-HELD
returns-then-j-lt-HELD c =
    let a = c.args in
    c.written_if.ensures ∙ rw c.short.ensures (channel_number_place a.words.now c.told-words a.c (omega arith) a.j c.if-j-lt-HELD.true)

pub returns : goal.returns
returns c =
    let a = c.args in
    c.written_if-2.ensures ∙ rw c.list.ensures (channel_list_place a.words.now c.told-words a.c (omega arith) a.j c.if-j-lt-HELD.false (omega arith))
