-- `lay_slot` meets its contract: a block's bytes go to the second store, another's to its cell.
use mathlib.Core.Path.{sym, ◌∙◌}
use native.Mathlib.Omega.{arith}
use Rattle.snapshot_parts.proofs.StoredLaws.{block_inside, cell_inside, lay_block, lay_cell}
use Rattle.snapshot_parts.proofs.stored.lay_slot.Goals as goal

pub returns-then-is_block : goal.returns-then-is_block
returns-then-is_block c =
    let a = c.args in
    let n = c.stored_length-n.ensures in
    let e = sym c.is_block.ensures ∙ c.if-is_block.true in
    lay_block a.slot c.stored_length-n.result a.s a.at n a.store.now a.second.now a.bytes.now _ e
    (omega (arith, n, c.requires.s_lt_incoming.2, block_inside c.args.slot c.args.s e))
    (omega (arith, n, c.requires.slot_in_bounds))
    c.copy.ensures

pub returns : goal.returns
returns c =
    let a = c.args in
    let n = c.stored_length-n.ensures in
    let e = sym c.is_block.ensures ∙ c.if-is_block.false in
    lay_cell a.slot c.stored_length-n.result a.s a.at n a.store.now a.second.now a.bytes.now _ e
    (omega (arith, n, c.requires.s_lt_incoming.1, cell_inside c.args.slot c.args.s e c.requires.s_lt_incoming.0))
    (omega (arith, n, c.requires.slot_in_bounds))
    c.copy-2.ensures
