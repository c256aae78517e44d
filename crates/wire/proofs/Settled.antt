-- Any two results that the contract of the reader allows are equal, and so of the writer, with the buffer.
-- The argument: the answers tell the cases apart, and a command is made again of its kind and its row.
use mathlib.Core.Path.{◌≡◌, refl, ap, ◌∙◌, sym}
use mathlib.Core.List.{List, ◌∷◌}
use Prim.Native.Nat.{ℕ}
use lib.ListN.{get_or, drop}
use Rattle.numbers.specs.Answers.{Answer, numbers_of}
use Rattle.numbers.proofs.Settled.{done_apart}
use Rattle.command.specs.Rows.{kind_of, row_of}
use Rattle.command.proofs.Settled.{command_from, command_back, apart}
use Rattle.command.specs.declared.fields.Command.{Command}
use Rattle.wire.specs.Reading as reading
use Rattle.wire.specs.Writing as writing
use Rattle.wire.specs.declared.reader.Reading.{Reading}
use Rattle.std.specs.Prelude.{Option, Some, None}

-- the reading of a command, and the place after it
abbrev pub found : Command → ℕ → Reading
found c n = record { command = c; next = n }

pub readings_apart : (a b : Option Reading) → reading.answer_of a ≡ reading.answer_of b → a ≡ b
readings_apart (Some a) (Some b) e =
    let c = a.command in
    let d = b.command in
    ap (λ (x : Command). Some (found x a.next)) (sym (command_back c))
    ∙ ap (λ (l : List ℕ). Some (found (command_from (drop 1 l)) (get_or l 0 0)))
    (done_apart (a.next ∷ kind_of c.fields ∷ row_of c) (b.next ∷ kind_of d.fields ∷ row_of d) e)
    ∙ ap (λ (x : Command). Some (found x b.next)) (command_back d)
readings_apart (Some a) None e = absurd (apart _ _ e refl refl)
readings_apart None (Some b) e = absurd (apart _ _ (sym e) refl refl)
readings_apart None None e = refl

pub writings_apart : (a b : Option ℕ) → writing.answer_of a ≡ writing.answer_of b → a ≡ b
writings_apart (Some n) (Some m) e = ap (λ (a : Answer). Some (get_or (numbers_of a) 0 0)) e
writings_apart (Some n) None e = absurd (apart _ _ e refl refl)
writings_apart None (Some m) e = absurd (apart _ _ (sym e) refl refl)
writings_apart None None e = refl

pub read_settled : (s : List ℕ) (i : ℕ) (a b : Option Reading) → reading.answer_of a ≡ reading.read_at s i → reading.answer_of b ≡ reading.read_at s i → a ≡ b
read_settled s i a b p q = readings_apart a b (p ∙ sym q)

pub write_settled :
    (s : List ℕ) (i : ℕ) (c : Command) (a b : Option ℕ) (x y : List ℕ) → writing.Written s i c a x → writing.Written s i c b y → (a ≡ b) × (x ≡ y)
write_settled s i c a b x y p q = (writings_apart a b (p.answer ∙ sym q.answer), p.buffer ∙ sym q.buffer)
