-- Any two results that the contract of `build` allows are equal.
-- The argument: the answers tell the cases apart, and a command is settled by its kind and its row.
use mathlib.Core.Path.{◌≡◌, refl, ap, ◌∙◌, sym}
use mathlib.Core.List.{List}
use Prim.Native.Nat.{ℕ}
use Rattle.numbers.proofs.Settled.{done_apart}
use Rattle.command.proofs.Settled.{commands_apart, apart}
use Rattle.wire.specs.Built.{answer_of, built_from}
use Rattle.command.specs.declared.fields.Command.{Command}
use Rattle.std.specs.Prelude.{Option, Some, None}

pub built_apart : (a b : Option Command) → answer_of a ≡ answer_of b → a ≡ b
built_apart (Some c) (Some d) e = ap Some (commands_apart c d (done_apart _ _ e))
built_apart (Some c) None e = absurd (apart _ _ e refl refl)
built_apart None (Some d) e = absurd (apart _ _ (sym e) refl refl)
built_apart None None e = refl

pub build_settled : (kind : ℕ) (row : List ℕ) (a b : Option Command) → answer_of a ≡ built_from kind row → answer_of b ≡ built_from kind row → a ≡ b
build_settled kind row a b p q = built_apart a b (p ∙ sym q)
