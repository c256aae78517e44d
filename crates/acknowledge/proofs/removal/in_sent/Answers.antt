-- `in_sent` asks for the number, then the channel: the answer of each picks the case.
use Rattle.std.proofs.Common.{eq-eqb, ne_eqb}
use Rattle.acknowledge.proofs.removal.in_sent.Goals as goal

pub returns-then-own-number : goal.returns-then-own-number
returns-then-own-number c = rw (ne_eqb _ _ c.if-own-number.true)

pub returns-then-slot-channel : goal.returns-then-slot-channel
returns-then-slot-channel c = rw (eq-eqb _ _ c.if-own-number.false, ne_eqb _ _ c.if-slot-channel.true)

pub returns : goal.returns
returns c = rw (eq-eqb _ _ c.if-own-number.false, eq-eqb _ _ c.if-slot-channel.false)
