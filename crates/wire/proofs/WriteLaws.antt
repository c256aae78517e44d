-- What the writer answers and leaves in the buffer, where its tests fail and where they hold.
-- The argument: a layout is as long as its command's row, so the zeros past the row are never put.
use mathlib.Core.Path.{◌≡◌, ap, ◌∙◌, sym}
use mathlib.Core.Bool.{Bool, true, false}
use mathlib.Core.List.{List, [], ◌∷◌}
use Prim.Native.Nat.{ℕ, ◌+◌, ◌%◌, ◌≤◌, ◌<◌}
use native.Mathlib.Omega.{arith}
use lib.Dec.{leb}
use lib.ListN.{length}
use borrow.Author.Tests.{lt-leb, le-leb, eqb-true}
use Rattle.numbers.specs.Pick.{pick, both}
use Rattle.numbers.specs.Answers.{done, refused}
use Rattle.numbers.specs.declared.refusals.Refusal.TheVariants.{BadCommand}
use Rattle.command.specs.Layout.{layout, size_of}
use Rattle.command.specs.Bytes.{put_row, pad}
use Rattle.command.specs.Rows.{kind_of, row_of, names_fields}
use Rattle.wire.specs.Writing.{writable, write_answer, write_bytes, Written}
use Rattle.command.specs.declared.fields.Command.{Command}
use Rattle.std.specs.Prelude.{Some, None}
use Rattle.numbers.proofs.BoolLaws.{both_true, both_false}
use Rattle.command.proofs.LayoutLaws.{layout-length}
use Rattle.command.proofs.RowLaws.{put_pad}
use Rattle.command.proofs.RowLengths.{row_of-length}

module _ (s : List ℕ) (i : ℕ) (c : Command) where
  abbrev kind : ℕ
  kind = kind_of c.fields

  pub answered : (b : Bool) → writable s i c ≡ b → write_answer s i c ≡ pick b (done ((i + size_of kind) ∷ [])) (refused BadCommand)
  answered b e = ap (λ (t : Bool). pick t (done ((i + size_of kind) ∷ [])) (refused BadCommand)) e

  pub bytes_are : (b : Bool) → writable s i c ≡ b → write_bytes s i c ≡ pick b (put_row s i (layout kind) (row_of c)) s
  bytes_are b e = ap (λ (t : Bool). pick t (put_row s i (layout kind) (row_of c)) s) e

  none : writable s i c ≡ false → Written s i c None s
  none e = record { answer = sym (answered false e); buffer = sym (bytes_are false e) }

  pub write_unnamed : names_fields c ≡ false → Written s i c None s
  write_unnamed e = none (ap (λ (b : Bool). both b (leb (i + size_of kind) (length s))) e)

  pub write_short : length s < i + size_of kind → Written s i c None s
  write_short h =
      none (both_false (names_fields c) (leb (i + size_of kind) (length s)) (lt-leb (i + size_of kind) (length s) h))

  pub named_kind : names_fields c ≡ true → c.byte % 16 ≡ kind
  named_kind e = eqb-true (c.byte % 16) kind e

  pub write_done :
      (n : ℕ) (t : List ℕ) → names_fields c ≡ true → i + size_of kind ≤ length s → n ≡ size_of (c.byte % 16)
      → t ≡ put_row s i (layout (c.byte % 16)) (pad 16 (row_of c)) → Written s i c (Some (i + n)) t
  write_done n t named room m e =
      let k = named_kind named in
      let w = both_true (names_fields c) (leb (i + size_of kind) (length s)) named (le-leb (i + size_of kind) (length s) room) in
      let p : put_row s i (layout kind) (pad 16 (row_of c)) ≡ put_row s i (layout kind) (row_of c) =
      put_pad s (layout kind) (row_of c) i 16 (omega (arith, row_of-length c)) (layout-length kind)
      in
      record {
        answer = ap (λ (x : ℕ). done ((i + x) ∷ [])) (m ∙ ap size_of k) ∙ sym (answered true w);
        buffer = e ∙ ap (λ (x : ℕ). put_row s i (layout x) (pad 16 (row_of c))) k ∙ p ∙ sym (bytes_are true w);
      }
