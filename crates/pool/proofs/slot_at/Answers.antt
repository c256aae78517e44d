-- Past the end the default; else the slot that its numbers, copied, are.
use Prim.Native.Nat.{◌*◌}
use mathlib.Core.Path.{◌≡◌, refl, sym, ap, ◌∙◌}
use lib.ListN.{drop, replicate}
use Rattle.record.specs.Fresh.{no_outgoing}
use Rattle.pool.specs.Rows.{row_at}
use Rattle.pool.specs.Slots.{slot_from}
use Rattle.pool.proofs.Copies.{paste_over}
use Rattle.pool.proofs.Rows.{rows_at, rows_past}
use Rattle.pool.proofs.slot_at.Goals as goal

pub returns-then-i-ge-OUTGOING : goal.returns-then-i-ge-OUTGOING
unfolding no_outgoing
returns-then-i-ge-OUTGOING c =
    let a = c.args in
    sym (rows_past slot_from 26 32 a.pool.now a.i no_outgoing c.if-i-ge-OUTGOING.true)

pub returns : goal.returns
returns c =
    let a = c.args in
    let e : c.copy.new.to ≡ row_at 26 a.pool.now a.i = c.copy.ensures ∙ paste_over (replicate 26 0) (drop (a.i * 26) a.pool.now) 26 refl in
    c.slot_from.ensures ∙ ap slot_from e ∙ sym (rows_at slot_from 26 32 a.pool.now a.i no_outgoing c.if-i-ge-OUTGOING.false)
