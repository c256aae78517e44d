-- `place_at` meets its contract: own numbers, lists, groups, then channels, slots and marks.
use mathlib.Core.Path.{◌∙◌}
use Rattle.order.proofs.WholeLaws.{table_own, table-lists, table-groups, table-things}
use Rattle.order.proofs.place_at.Goals as goal

pub returns-then-i-lt-SENT : goal.returns-then-i-lt-SENT
returns-then-i-lt-SENT c =
    let a = c.args in
    c.own.ensures ∙ table_own a.words.now c.told-words a.i c.if-i-lt-SENT.true

pub returns-then-i-lt-FLAGS : goal.returns-then-i-lt-FLAGS
returns-then-i-lt-FLAGS c =
    let a = c.args in
    c.lists.ensures ∙ table-lists a.words.now c.told-words a.i c.if-i-lt-SENT.false c.if-i-lt-FLAGS.true

pub returns-then-i-lt-CHANNELS : goal.returns-then-i-lt-CHANNELS
returns-then-i-lt-CHANNELS c =
    let a = c.args in
    c.group.ensures ∙ table-groups a.words.now c.told-words a.i c.if-i-lt-FLAGS.false c.if-i-lt-CHANNELS.true

pub returns : goal.returns
returns c =
    let a = c.args in
    c.things.ensures ∙ table-things a.words.now c.told-words a.i c.if-i-lt-CHANNELS.false
