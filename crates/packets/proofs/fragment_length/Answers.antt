-- `fragment_length` meets its contract: its test picks what is taken off.
use native.Mathlib.Nat.{sub-zero}
use Rattle.packets.proofs.fragment_length.Goals as goal

pub returns-then-checksum : goal.returns-then-checksum
returns-then-checksum c = rw (c.if-checksum.true, c.minus-then-checksum.ensures, c.minus.ensures)

pub returns : goal.returns
returns c = rw (c.if-checksum.false, c.minus-2.ensures, sub-zero)
