-- A command is settled by its kind and its row, so any two results whose contract gives these are equal.
-- The argument: a command is made again of its kind and its row.
use mathlib.Core.Path.{◌≡◌, refl, ap, ◌∙◌, sym}
use mathlib.Core.List.{List, ◌∷◌}
use Prim.Native.Nat.{ℕ}
use native.Mathlib.Omega.{arith}
use lib.ListN.{get_or, drop}
use Rattle.numbers.specs.Answers.{Answer}
use Rattle.command.specs.Rows.{kind_of, fields_row, row_of}
use Rattle.command.specs.Shapes.{shaped_by, connect_by, fragment_by}
use Rattle.command.specs.declared.fields.Command.{Command}
use Rattle.command.specs.declared.fields.Fields.{Fields}
use Rattle.command.specs.declared.fields.Fields.TheVariants as vr

abbrev pub same : ℕ → ℕ
same x = x

fields_back : (f : Fields) (a b n : ℕ) → shaped_by same same (kind_of f) (a ∷ b ∷ n ∷ fields_row f) ≡ f
unfolding shaped_by connect_by fragment_by
fields_back (vr.Acknowledge m t) a b n = refl
fields_back (vr.Connect c d) a b n = refl
fields_back (vr.VerifyConnect c) a b n = refl
fields_back (vr.Disconnect d) a b n = refl
fields_back vr.Ping a b n = refl
fields_back (vr.SendReliable l) a b n = refl
fields_back (vr.SendUnreliable m l) a b n = refl
fields_back (vr.SendFragment m g) a b n = refl
fields_back (vr.SendUnsequenced g l) a b n = refl
fields_back (vr.BandwidthLimit i o) a b n = refl
fields_back (vr.ThrottleConfigure i x d) a b n = refl
fields_back (vr.SendUnreliableFragment m g) a b n = refl

-- the command of a kind and a row, one after the other
abbrev pub command_from : List ℕ → Command
command_from ys =
    record {
      byte = get_or ys 1 0;
      channel = get_or ys 2 0;
      number = record { 0 = get_or ys 3 0 };
      fields = shaped_by same same (get_or ys 0 0) (drop 1 ys);
    }

pub command_back : (c : Command) → command_from (kind_of c.fields ∷ row_of c) ≡ c
command_back c =
    ap (λ (f : Fields). record { byte = c.byte; channel = c.channel; number = c.number; fields = f })
    (fields_back c.fields c.byte c.channel c.number.0)

pub commands_apart : (c d : Command) → kind_of c.fields ∷ row_of c ≡ kind_of d.fields ∷ row_of d → c ≡ d
commands_apart c d e = sym (command_back c) ∙ ap command_from e ∙ command_back d

-- 0 and 9 are told apart
pub apart : (a b : Answer) → a ≡ b → a.number ≡ 0 → b.number ≡ 9 → ⊥
apart a b e p q = let z : a.number ≡ b.number = ap (λ (x : Answer). x.number) e in omega arith
