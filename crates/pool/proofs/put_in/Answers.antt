-- Past the end nothing changes; else the slot's six numbers are pasted over its row, and they have their types' widths.
use mathlib.Core.Path.{sym, ap, ◌∙◌}
use Rattle.pool.specs.Slots.{in_slot_from, in_slots_of}
use Rattle.pool.proofs.Rows.{rows_out}
use Rattle.pool.proofs.Slots.{in_slots_put}
use Rattle.pool.proofs.Typed.{in_widths}
use Rattle.pool.proofs.put_in.Goals as goal

pub returns-then-i-ge-INCOMING : goal.returns-then-i-ge-INCOMING
returns-then-i-ge-INCOMING c =
    let a = c.args in
    sym (rows_out in_slot_from 6 12 a.pool.now a.i a.slot c.if-i-ge-INCOMING.true)

pub returns : goal.returns
returns c =
    let a = c.args in
    ap in_slots_of c.copy.ensures
    ∙ in_slots_put a.pool.now a.i a.slot c.if-i-ge-INCOMING.false c.requires (in_widths a.slot c.struct_known-1.given)
