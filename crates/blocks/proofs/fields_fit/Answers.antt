-- `fields_fit` asks one rule after the other: where one is broken the answer is false whatever the others say, and behind all of them it is the last.
use Rattle.std.proofs.Common.{◌≡◌, ℕ, ◌-◌, ◌<◌, ◌≤◌, leb, le-ltb, lt-ltb, le-leb}
use borrow.Author.Tests.{lt-leb}
use Rattle.command.specs.declared.fields.Fragment.{Fragment}
use Rattle.record.specs.Marks.{most_pieces}
use Rattle.record.specs.Blocks.{most_bytes}
use Rattle.blocks.specs.Blocks.{fields_fit}
use Rattle.numbers.proofs.BoolLaws.{both_with_false}
use Rattle.blocks.proofs.fields_fit.Goals as goal

-- stated on variables: at the code's own terms the simplifier stops at its limit
last_rule : (packet : ℕ) (f : Fragment) → 1 ≤ f.count → f.count ≤ most_pieces → f.number < f.count → f.total ≤ most_bytes → f.total ≤ packet
    → f.offset < f.total → leb f.length (f.total - f.offset) ≡ fields_fit packet f
last_rule packet f a b c d e g =
    simp (le-leb _ _ a, le-leb _ _ b, lt-ltb _ _ c, le-leb _ _ d, le-leb _ _ e, lt-ltb _ _ g)

pub returns-then-f-lt1 : goal.returns-then-f-lt1
returns-then-f-lt1 c = simp (lt-leb _ _ c.if-f-lt1.true)

pub returns-then-f-gt-PIECES : goal.returns-then-f-gt-PIECES
returns-then-f-gt-PIECES c = simp (lt-leb _ _ c.if-f-gt-PIECES.true, both_with_false)

pub returns-then-f : goal.returns-then-f
returns-then-f c = simp (le-ltb _ _ c.if-f.true, both_with_false)

pub returns-then-f-gt-BYTES : goal.returns-then-f-gt-BYTES
returns-then-f-gt-BYTES c = simp (lt-leb _ _ c.if-f-gt-BYTES.true, both_with_false)

pub returns-then-packet-f : goal.returns-then-packet-f
returns-then-packet-f c = simp (lt-leb _ _ c.if-packet-f.true, both_with_false)

pub returns-then-f-2 : goal.returns-then-f-2
returns-then-f-2 c = simp (le-ltb _ _ c.if-f-2.true, both_with_false)

pub returns : goal.returns
returns c =
    let a = c.args in
    last_rule a.packet a.f c.if-f-lt1.false c.if-f-gt-PIECES.false c.if-f.false c.if-f-gt-BYTES.false c.if-packet-f.false c.if-f-2.false
