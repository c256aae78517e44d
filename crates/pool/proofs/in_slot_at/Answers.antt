-- Past the end the default; else the slot's own numbers, a part of the pool.
use mathlib.Core.Path.{sym, ◌∙◌}
use Rattle.record.specs.Fresh.{no_incoming}
use Rattle.pool.specs.Slots.{in_slot_from}
use Rattle.pool.proofs.Rows.{rows_past, rows_part}
use Rattle.pool.proofs.in_slot_at.Goals as goal

pub returns-then-i-ge-INCOMING : goal.returns-then-i-ge-INCOMING
unfolding no_incoming
returns-then-i-ge-INCOMING c =
    let a = c.args in
    sym (rows_past in_slot_from 6 12 a.pool.now a.i no_incoming c.if-i-ge-INCOMING.true)

pub returns : goal.returns
returns c =
    let a = c.args in
    c.in_slot_from.ensures ∙ rows_part in_slot_from 6 12 a.pool.now a.i no_incoming c.if-i-ge-INCOMING.false
