-- `block_fit` asks one rule after the other. What remains and what is marked make the count: asked as a difference, which is one where no more remains than the count.
use Rattle.std.proofs.Common.{◌+◌, ◌∙◌, arith, eq-eqb, ne_eqb, le-leb}
use borrow.Author.Tests.{lt-leb}
use Rattle.record.specs.Marks.{marked_count}
use Rattle.numbers.proofs.BoolLaws.{both_with_false}
use Rattle.blocks.proofs.block_fit.Goals as goal

pub returns-then-slot-gt-PIECES : goal.returns-then-slot-gt-PIECES
returns-then-slot-gt-PIECES c = simp (lt-leb _ _ c.if-slot-gt-PIECES.true)

pub returns-then-slot-lt1 : goal.returns-then-slot-lt1
returns-then-slot-lt1 c = simp (lt-leb _ _ c.if-slot-lt1.true, both_with_false)

pub returns-then-slot-gt-BYTES : goal.returns-then-slot-gt-BYTES
returns-then-slot-gt-BYTES c = simp (lt-leb _ _ c.if-slot-gt-BYTES.true, both_with_false)

pub returns-then-slot : goal.returns-then-slot
returns-then-slot c =
    let a = c.args in
    let more = c.if-slot.true in
    simp (ne_eqb (a.slot.remaining + marked_count a.m) a.slot.fragments (λ e. omega arith), both_with_false)

pub returns-then-marked_count-slot : goal.returns-then-marked_count-slot
returns-then-marked_count-slot c =
    let a = c.args in
    let other = c.if-marked_count-slot.true in
    let count = c.marked_count.ensures in
    simp (ne_eqb (a.slot.remaining + marked_count a.m) a.slot.fragments (λ e. other (omega arith)), both_with_false)

pub returns : goal.returns
returns c =
    let a = c.args in
    let same = c.if-marked_count-slot.false in
    let count = c.marked_count.ensures in
    let no_more = c.if-slot.false in
    c.none_from.ensures
    ∙ simp (
      le-leb _ _ c.if-slot-gt-PIECES.false,
      le-leb _ _ c.if-slot-lt1.false,
      le-leb _ _ c.if-slot-gt-BYTES.false,
      eq-eqb (a.slot.remaining + marked_count a.m) a.slot.fragments (omega arith),
    )
