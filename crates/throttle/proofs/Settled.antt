-- Any two results that the contract of `roll` allows are equal.
-- The argument: `answer_of` tells the turns apart, by cases, and the throttle is given.
use Rattle.std.proofs.Common.{◌≡◌, ℕ, ℤ, pos, negsuc, sym, refl, ap, ◌∙◌, arith}
use Rattle.throttle.specs.Throttling.{answer_of, Rolls}
use Rattle.throttle.specs.declared.Rolled.{Rolled}
use Rattle.throttle.specs.declared.Throttle.{Throttle}
use Rattle.throttle.specs.declared.Turn.{Turn}
use Rattle.throttle.specs.declared.Turn.TheVariants.{Held, Raised, Lowered}

-- a turn's answer as a counting number, −1 as 2
abbrev pub which : ℤ → ℕ
which (pos n) = n
which (negsuc n) = 2

pub turns_apart : (a b : Turn) → answer_of a ≡ answer_of b → a ≡ b
turns_apart Held Held e = refl
turns_apart Held Raised e = absurd (omega (arith, ap which e))
turns_apart Held Lowered e = absurd (omega (arith, ap which e))
turns_apart Raised Held e = absurd (omega (arith, ap which e))
turns_apart Raised Raised e = refl
turns_apart Raised Lowered e = absurd (omega (arith, ap which e))
turns_apart Lowered Held e = absurd (omega (arith, ap which e))
turns_apart Lowered Raised e = absurd (omega (arith, ap which e))
turns_apart Lowered Lowered e = refl

pub roll_settled : (t : Throttle) (sample : ℕ) (a b : Rolled) → Rolls t sample a → Rolls t sample b → a ≡ b
roll_settled t sample a b p q =
    ap (λ (x : Throttle). record { throttle = x; turn = a.turn }) (p.throttle ∙ sym q.throttle)
    ∙ ap (λ (x : Turn). record { throttle = b.throttle; turn = x }) (turns_apart a.turn b.turn (p.answer ∙ sym q.answer))
