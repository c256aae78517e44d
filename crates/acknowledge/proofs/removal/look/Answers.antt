-- `look` asks the search that is named about the slot in brief; past the pool there is nothing to look at.
use Rattle.acknowledge.proofs.RemovalChanges.{look_past, look_brief}
use Rattle.acknowledge.proofs.removal.look.Goals as goal

pub returns-then-s-ge-OUTGOING : goal.returns-then-s-ge-OUTGOING
returns-then-s-ge-OUTGOING c =
    let a = c.args in
    look_past a.words.now a.sent a.number.0 a.channel a.s c.if-s-ge-OUTGOING.true

pub returns-then-sent : goal.returns-then-sent
returns-then-sent c =
    let a = c.args in
    let b = c.brief_at-slot in
    look_brief a.words.now a.sent a.number.0 a.channel a.s c.if-s-ge-OUTGOING.false b.result c.in_sent.result b.ensures
    (rw c.if-sent.true c.in_sent.ensures)

pub returns : goal.returns
returns c =
    let a = c.args in
    let b = c.brief_at-slot in
    look_brief a.words.now a.sent a.number.0 a.channel a.s c.if-s-ge-OUTGOING.false b.result c.in_queue.result b.ensures
    (rw c.if-sent.false c.in_queue.ensures)
