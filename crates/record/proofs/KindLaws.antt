-- An incoming slot that fits its kind is at most 32,768 bytes long; a packet that came whole at most 4,096, whatever the marks.
-- The argument: the kind picks the rule's case.
use Prim.Native.Nat.{◌-◌, ◌≤◌}
use mathlib.Core.Path.{◌≡◌, ap, sym, ◌∙◌}
use mathlib.Core.Bool.{Bool, true, false}
use native.Mathlib.Omega.{arith}
use lib.Dec.{leb}
use borrow.Author.Tests.{leb-true}
use Rattle.numbers.specs.Pick.{pick, both}
use Rattle.numbers.proofs.BoolLaws.{both_left, both_right}
use Rattle.record.specs.Sizes.{cell}
use Rattle.record.specs.Marks.{most_pieces}
use Rattle.record.specs.Blocks.{most_bytes, is_block, block_fit}
use Rattle.record.specs.Damage.{kind_fit}
use Rattle.record.specs.declared.groups.Incoming.{Incoming}
use Rattle.record.specs.declared.groups.Marks.{Marks}

block_low : (m : Marks) (i : Incoming) → block_fit m i ≡ true → i.length ≤ most_bytes
block_low m i e =
    let few = leb i.fragments most_pieces in
    let some = leb 1 i.length in
    let short = leb i.length most_bytes in
    leb-true i.length most_bytes (both_right some short (both_right few (both some short) (both_left (both few (both some short)) _ e)))

pub kind_low : (m : Marks) (i : Incoming) → kind_fit m i ≡ true → i.length ≤ most_bytes
kind_low m i = go (is_block i)
  where
    go : (b : Bool) → pick b (block_fit m i) (leb i.length cell) ≡ true → i.length ≤ most_bytes
    go true e = block_low m i e
    go false e = omega (arith, leb-true i.length cell e)

-- a packet fits whatever the marks are
pub packet_fit : (m o : Marks) (i : Incoming) → is_block i ≡ false → kind_fit m i ≡ true → kind_fit o i ≡ true
packet_fit m o i e f = ap (λ (b : Bool). pick b (block_fit o i) (leb i.length cell)) e ∙ sym (ap (λ (b : Bool). pick b (block_fit m i) (leb i.length cell)) e) ∙ f
