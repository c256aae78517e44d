-- Past the end nothing changes; else three numbers of the slot's row are set.
use Prim.Native.Nat.{◌<◌}
use mathlib.Core.Path.{sym}
use native.Mathlib.Omega.{arith}
use lib.ListN.{get_or}
use Rattle.record.specs.Fresh.{no_outgoing}
use Rattle.record.specs.Updates.{with_attempt}
use Rattle.pool.specs.Slots.{slot_from, slots_of}
use Rattle.pool.proofs.Rows.{rows_out}
use Rattle.pool.proofs.Slots.{slots_attempt}
use Rattle.pool.proofs.put_attempt.Goals as goal

pub returns-then-i-ge-OUTGOING : goal.returns-then-i-ge-OUTGOING
returns-then-i-ge-OUTGOING c =
    let a = c.args in
    let ws = a.pool.now in
    sym (rows_out slot_from 26 32 ws a.i (with_attempt (get_or (slots_of ws) a.i no_outgoing) a.sent a.timeout a.attempts) c.if-i-ge-OUTGOING.true)

pub returns : goal.returns
returns c =
    let a = c.args in
    let b : a.attempts < 65536 = omega arith in
    slots_attempt a.pool.now a.i a.sent a.timeout a.attempts c.if-i-ge-OUTGOING.false c.requires b
