-- What the reader's answer says of what it found: where, which and with what row; a refusal says that nothing is readable.
-- The argument: equal answers have equal numbers and equal values.
use mathlib.Core.Path.{◌≡◌, refl, ap, sym, ◌∙◌}
use mathlib.Core.Bool.{Bool, true, false}
use mathlib.Core.List.{List, ◌∷◌}
use Prim.Native.Nat.{ℕ, ◌+◌, ◌-◌, ◌≤◌}
use native.Mathlib.Omega.{arith}
use lib.Dec.{leb}
use lib.ListN.{get_or, drop}
use borrow.Author.Tests.{leb-true}
use Rattle.std.specs.Prelude.{Option, Some, None}
use Rattle.numbers.specs.Answers.{Answer}
use Rattle.numbers.proofs.Settled.{done_apart}
use Rattle.command.specs.Layout.{layout, total, size_of}
use Rattle.command.specs.Bytes.{row_at, pad}
use Rattle.command.specs.Rows.{kind_of, row_of}
use Rattle.wire.specs.Reading.{answer_of, kind_at, readable, read_at}
use Rattle.wire.specs.declared.reader.Reading.{Reading}
use Rattle.command.proofs.LayoutLaws.{each_layout}
use Rattle.exports.specs.Buffers.{read_numbers}

-- the longest command has 48 bytes
pub size_small : (k : ℕ) → size_of k ≤ 48
unfolding layout total
size_small k = leb-true (size_of k) 48 (each_layout (λ ws. leb (total ws) 48) refl refl k)

module _ (s : List ℕ) (i : ℕ) (o : Option Reading) (e : answer_of o ≡ read_at s i) where
  pub nothing : o ≡ None → readable s i ≡ false
  nothing n = go (readable s i) refl
    where
      go : (b : Bool) → readable s i ≡ b → b ≡ false
      go true t = absurd (omega (arith, ap (λ (a : Answer). a.number) (simp t at (sym (ap answer_of n) ∙ e))))
      go false t = refl

  module _ (r : Reading) (f : o ≡ Some r) where
    found : answer_of (Some r) ≡ read_at s i
    found = sym (ap answer_of f) ∙ e

    pub something : readable s i ≡ true
    something = go (readable s i) refl
      where
        go : (b : Bool) → readable s i ≡ b → b ≡ true
        go true t = refl
        go false t = absurd (omega (arith, ap (λ (a : Answer). a.number) (simp t at found)))

    values : r.next ∷ kind_of r.command.fields ∷ row_of r.command ≡ (i + size_of (kind_at s i)) ∷ kind_at s i ∷ row_at s i (layout (kind_at s i))
    values = done_apart _ _ (simp something at found)

    pub next_is : r.next ≡ i + size_of (kind_at s i)
    next_is = ap (λ (l : List ℕ). get_or l 0 0) values

    pub numbers_are : (r.next - i) ∷ kind_of r.command.fields ∷ pad 16 (row_of r.command) ≡ read_numbers s i
    numbers_are =
        let size : r.next - i ≡ size_of (kind_at s i) = omega (arith, next_is) in
        ap (λ (n : ℕ). n ∷ kind_of r.command.fields ∷ pad 16 (row_of r.command)) size
        ∙ ap (λ (l : List ℕ). size_of (kind_at s i) ∷ get_or l 1 0 ∷ pad 16 (drop 2 l)) values
