-- `plan_gate` asks what a send refuses of the record's own state, channel count and free slots.
use Rattle.send.proofs.plan_gate.Goals as goal

pub returns : goal.returns
returns c = rw (c.plan_gate.ensures, c.room_in-free.ensures, c.standing-standing.ensures)
