-- `room_in` meets its contract: what is free and what the three lists name are the whole pool (`room_left`), so each list's length can be taken off.
use Rattle.std.proofs.Common.{arith}
use Rattle.outbox.proofs.PlaceLaws.{room_left}
use Rattle.outbox.proofs.room_in.Goals as goal

pub overflow_sub-result : goal.overflow_sub-result
overflow_sub-result c = omega (arith, room_left _ c.requires _ _ _ c.count-sent.ensures c.count-reliable.ensures c.count-waiting.ensures)

pub overflow_sub-result-2 : goal.overflow_sub-result-2
overflow_sub-result-2 c = omega (arith, room_left _ c.requires _ _ _ c.count-sent.ensures c.count-reliable.ensures c.count-waiting.ensures)

pub overflow_sub-result-3 : goal.overflow_sub-result-3
overflow_sub-result-3 c = omega (arith, room_left _ c.requires _ _ _ c.count-sent.ensures c.count-reliable.ensures c.count-waiting.ensures)

pub returns : goal.returns
returns c = omega (arith, room_left _ c.requires _ _ _ c.count-sent.ensures c.count-reliable.ensures c.count-waiting.ensures)
