-- `is_unfinished` asks for a block, for pieces that remain, for the number: the answers pick the rule's case.
use borrow.Author.Tests.{not-true, not-false, eq-eqb, ne_eqb}
use Rattle.arrive_fragment.proofs.searching.is_unfinished.Goals as goal

pub returns-then-not-is_block : goal.returns-then-not-is_block
returns-then-not-is_block c = rw (← c.is_block.ensures, not-true c.is_block.result c.if-not-is_block.true-raw)

pub returns-then-slot-eq0 : goal.returns-then-slot-eq0
returns-then-slot-eq0 c =
    let block = c.is_block in
    rw (← block.ensures, not-false block.result c.if-not-is_block.false-raw, eq-eqb _ 0 c.if-slot-eq0.true)

pub returns : goal.returns
returns c =
    let block = c.is_block in
    rw (← block.ensures, not-false block.result c.if-not-is_block.false-raw, ne_eqb _ 0 c.if-slot-eq0.false)
