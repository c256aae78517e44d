-- Past the end the default; else the slot's own numbers, a part of the pool.
use mathlib.Core.Path.{ap, sym, ◌∙◌}
use Rattle.record.specs.Fresh.{no_outgoing}
use Rattle.pool.specs.Slots.{slot_from, brief_of}
use Rattle.pool.proofs.Rows.{rows_past, rows_part}
use Rattle.pool.proofs.brief_at.Goals as goal

pub returns-then-i-ge-OUTGOING : goal.returns-then-i-ge-OUTGOING
returns-then-i-ge-OUTGOING c =
    let a = c.args in
    c.no_brief.ensures ∙ ap brief_of (sym (rows_past slot_from 26 32 a.pool.now a.i no_outgoing c.if-i-ge-OUTGOING.true))

pub returns : goal.returns
returns c =
    let a = c.args in
    c.brief_from.ensures ∙ ap brief_of (rows_part slot_from 26 32 a.pool.now a.i no_outgoing c.if-i-ge-OUTGOING.false)
