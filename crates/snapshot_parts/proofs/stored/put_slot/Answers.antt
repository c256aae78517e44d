-- `put_slot` meets its contract: a block's bytes are of the second store, another's of its cell.
use mathlib.Core.Path.{sym, ◌∙◌}
use native.Mathlib.Omega.{arith}
use Rattle.snapshot_parts.proofs.StoredLaws.{block_inside, cell_inside, put_block, put_cell}
use Rattle.snapshot_parts.proofs.stored.put_slot.Goals as goal

pub returns-then-is_block : goal.returns-then-is_block
returns-then-is_block c =
    let a = c.args in
    let n = c.stored_length-n.ensures in
    let e = sym c.is_block.ensures ∙ c.if-is_block.true in
    put_block a.slot c.stored_length-n.result a.s a.at n a.store.now a.second.now a.buffer.now _ e
    (omega (arith, n, c.requires.slot_in_bounds))
    (omega (arith, n, c.requires.s_lt_incoming.2, block_inside c.args.slot c.args.s e))
    c.copy.ensures

pub returns : goal.returns
returns c =
    let a = c.args in
    let n = c.stored_length-n.ensures in
    let e = sym c.is_block.ensures ∙ c.if-is_block.false in
    put_cell a.slot c.stored_length-n.result a.s a.at n a.store.now a.second.now a.buffer.now _ e
    (omega (arith, n, c.requires.slot_in_bounds))
    (omega (arith, n, c.requires.s_lt_incoming.1, cell_inside c.args.slot c.args.s e c.requires.s_lt_incoming.0))
    c.copy-2.ensures
