-- Which kind stands whole at a place, test by test, and what the reader makes of a built command.
-- The argument: a row that was read from bytes fits its layout, so it is built as it stands.
use mathlib.Core.Path.{◌≡◌, refl, ap, ◌∙◌, sym}
use mathlib.Core.Bool.{Bool, true, false}
use mathlib.Core.List.{List, ◌∷◌}
use Prim.Native.Nat.{ℕ, ◌+◌, ◌≤◌}
use native.Mathlib.Omega.{arith}
use lib.Dec.{leb}
use lib.ListN.{length, take}
use borrow.Author.Tests.{le-leb, leb-true}
use Rattle.std.specs.Prelude.{Some, None}
use Rattle.numbers.specs.Pick.{pick, both}
use Rattle.numbers.specs.Answers.{done, refused}
use Rattle.numbers.specs.declared.refusals.Refusal.TheVariants.{BadCommand}
use Rattle.command.specs.Layout.{known, layout, size_of}
use Rattle.command.specs.Bytes.{row_at, pad, fits, Bytes}
use Rattle.wire.specs.Built.{built_from}
use Rattle.wire.specs.Reading.{kind_at, readable, read_at}
use Rattle.wire.specs.Steps.{whole_kind, placed}
use Rattle.numbers.proofs.BoolLaws.{both_left, both_right, both_true}
use Rattle.command.proofs.LayoutLaws.{layout-length}
use Rattle.command.proofs.RowLaws.{row_length, take-pad, fits_read}

module _ (s : List ℕ) (i : ℕ) where
  abbrev pub whole : List ℕ
  whole = kind_at s i ∷ row_at s i (layout (kind_at s i))

  pub chosen : (b : Bool) → readable s i ≡ b → read_at s i ≡ pick b (done ((i + size_of (kind_at s i)) ∷ whole)) (refused BadCommand)
  chosen b e = ap (λ (t : Bool). pick t (done ((i + size_of (kind_at s i)) ∷ whole)) (refused BadCommand)) e

  unread : readable s i ≡ false → None ≡ whole_kind s i
  unread e = sym (ap (λ (b : Bool). pick b (Some (kind_at s i)) None) e)

  pub kind_unknown : known (kind_at s i) ≡ false → None ≡ whole_kind s i
  kind_unknown e = unread (ap (λ (b : Bool). both b (leb (i + size_of (kind_at s i)) (length s))) e)

  pub kind_whole : known (kind_at s i) ≡ true → i + size_of (kind_at s i) ≤ length s → Some (kind_at s i) ≡ whole_kind s i
  kind_whole e h =
      let f : readable s i ≡ true =
      both_true (known (kind_at s i)) (leb (i + size_of (kind_at s i)) (length s)) e (le-leb (i + size_of (kind_at s i)) (length s) h)
      in
      sym (ap (λ (b : Bool). pick b (Some (kind_at s i)) None) f)

  -- a kind that stands there is the first byte's, and the command is whole
  pub whole_some : (k : ℕ) → whole_kind s i ≡ Some k → (readable s i ≡ true) × (k ≡ kind_at s i)
  whole_some k z = go (readable s i) z
    where
      go : (b : Bool) → pick b (Some (kind_at s i)) None ≡ Some k → (b ≡ true) × (k ≡ kind_at s i)
      go true e = (refl, cc)
      go false e = absurd (let o : ◌≡◌ {A = ℕ} 0 1 = cc in omega arith)

  pub whole_room : readable s i ≡ true → i + size_of (kind_at s i) ≤ length s
  whole_room e =
      leb-true (i + size_of (kind_at s i)) (length s) (both_right (known (kind_at s i)) (leb (i + size_of (kind_at s i)) (length s)) e)

  pub read_built :
      Bytes s → known (kind_at s i) ≡ true → built_from (kind_at s i) (pad 16 (row_at s i (layout (kind_at s i)))) ≡ done whole
  read_built b e =
      let k = kind_at s i in
      let xs = row_at s i (layout k) in
      let n : length xs ≡ length (layout k) = row_length s (layout k) i in
      let f : both (known k) (fits (layout k) (pad 16 xs)) ≡ true =
      both_true (known k) (fits (layout k) (pad 16 xs)) e (fits_read s (layout k) i 16 b (layout-length k))
      in
      let t : take (length (layout k)) (pad 16 xs) ≡ xs =
      ap (λ (m : ℕ). take m (pad 16 xs)) (sym n) ∙ take-pad 16 xs (omega (arith, layout-length k))
      in
      ap (λ (c : Bool). pick c (done (k ∷ take (length (layout k)) (pad 16 xs))) (refused BadCommand)) f
      ∙ ap (λ (l : List ℕ). done (k ∷ l)) t

  pub read_found :
      (n : ℕ) → Bytes s → readable s i ≡ true → n ≡ i + size_of (kind_at s i)
      → placed n (built_from (kind_at s i) (pad 16 (row_at s i (layout (kind_at s i))))) ≡ read_at s i
  read_found n b e m =
      ap (placed n) (read_built b (both_left (known (kind_at s i)) (leb (i + size_of (kind_at s i)) (length s)) e))
      ∙ ap (λ (x : ℕ). done (x ∷ whole)) m ∙ sym (chosen true e)

  -- so what is built of the row that stands there is what the reader answers
  pub read_built_at :
      (k n : ℕ) (row : List ℕ) → Bytes s → whole_kind s i ≡ Some k → row ≡ pad 16 (row_at s i (layout k)) → n ≡ i + size_of k
      → placed n (built_from k row) ≡ read_at s i
  read_built_at k n row b e r m =
      let t = whole_some k e in
      let q : k ≡ kind_at s i = t.1 in
      ap (λ (l : List ℕ). placed n (built_from k l)) r
      ∙ ap (λ (x : ℕ). placed n (built_from x (pad 16 (row_at s i (layout x))))) q
      ∙ read_found n b t.0 (m ∙ ap (λ (x : ℕ). i + size_of x) q)
