-- How many numbers a command's row has: a kind's layout is as long as the row, and its widths end where the first is 0.
-- The argument: `row_of-length`; induction on the widths.
use Prim.Native.Nat.{ℕ, zero, suc, ◌≤◌, ◌<◌}
use mathlib.Core.Path.{◌≡◌}
use mathlib.Core.List.{List, [], ◌∷◌}
use mathlib.Core.Bool.{true}
use native.Mathlib.Omega.{arith}
use lib.Dec.{leb}
use lib.ListN.{length, take, get_or}
use borrow.Author.Tests.{leb-true}
use Rattle.numbers.specs.Pick.{both}
use Rattle.numbers.proofs.BoolLaws.{both_left, both_right}
use Rattle.command.specs.Layout.{layout, width_of}
use Rattle.command.specs.Bytes.{pad}
use Rattle.command.proofs.LayoutLaws.{narrow, layout-narrow, layout-length}
use Rattle.command.proofs.RowLaws.{take-pad}
use Rattle.command.specs.Rows.{kind_of, row_of}
use Rattle.command.proofs.RowLengths.{row_of-length}
use Rattle.command.specs.declared.fields.Command.{Command}

-- so many numbers of the row with zeros at its end are the row
pub row_whole : (c : Command) (k : ℕ) (row : List ℕ) → k ≡ kind_of c.fields → row ≡ pad 16 (row_of c) → take (length (layout k)) row ≡ row_of c
row_whole c k row p q =
    let e = row_of-length c in
    rw (p, q, e) (take-pad 16 (row_of c) (omega (arith, layout-length (kind_of c.fields))))

-- a place that has a width, and one that has none
width_in : (ws : List ℕ) (j : ℕ) → 0 < get_or ws j 0 → j < length ws
width_in [] j h = absurd (omega arith)
width_in (w ∷ ws) zero h = omega arith
width_in (w ∷ ws) (suc j) h = omega (arith, width_in ws j h)

width_out : (ws : List ℕ) (j : ℕ) → narrow ws ≡ true → get_or ws j 0 ≤ 0 → length ws ≤ j
unfolding narrow
width_out [] j n h = omega arith
width_out (w ∷ ws) zero n h = absurd (omega (arith, leb-true 1 w (both_left (leb 1 w) (leb w 4) (both_left (both (leb 1 w) (leb w 4)) (narrow ws) n))))
width_out (w ∷ ws) (suc j) n h = omega (arith, width_out ws j (both_right (both (leb 1 w) (leb w 4)) (narrow ws) n) h)

pub has_number : (k j w : ℕ) → w ≡ width_of k j → 0 < w → j < length (layout k)
has_number k j w e h = width_in (layout k) j (omega arith)

pub has_none : (k j w : ℕ) → w ≡ width_of k j → w ≤ 0 → length (layout k) ≤ j
has_none k j w e h = width_out (layout k) j (layout-narrow k) (omega arith)
