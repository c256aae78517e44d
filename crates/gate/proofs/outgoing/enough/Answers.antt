-- `enough` asks for the list: the answer picks the bound.
use Rattle.gate.proofs.outgoing.enough.Goals as goal

pub returns-then-sent : goal.returns-then-sent
returns-then-sent c = rw c.if-sent.true

pub returns : goal.returns
returns c = rw c.if-sent.false
