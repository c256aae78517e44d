-- Times on a clock of 32 bits.
use Rattle.std.specs.Prelude.{ℕ, ◌+◌, ◌-◌, ◌%◌, [], ◌∷◌, nat_le, nat_lt, Option, Some, None}
use Rattle.numbers.specs.Pick.{pick, both}
use Rattle.numbers.specs.Modulo.{minus}
use Rattle.numbers.specs.Answers.{Answer, done}

-- "The distance of two times is a - b modulo 2^32; if that is 86,400,000 or more, b - a modulo 2^32."
abbrev pub distance : ℕ → ℕ → ℕ
distance a b = pick (nat_le 86400000 (minus 32 a b)) (minus 32 b a) (minus 32 a b)

-- the clock with the sent time for its low half, 65,536 less where only the sent time is in the half's upper part
abbrev pub completed : ℕ → ℕ → ℕ
completed clock sent =
    pick (both (nat_le 32768 sent) (nat_lt (clock % 65536) 32768))
    (minus 32 (clock - clock % 65536 + sent) 65536)
    (clock - clock % 65536 + sent)

-- "a clock minus it of 86,400,000 or more (modulo 2^32) passes over, unchanged. Sample: that difference, at least 1."
abbrev pub gap : ℕ → ℕ → ℕ
gap clock sent = minus 32 clock (completed clock sent)

abbrev pub trip_of : ℕ → ℕ → Option ℕ
trip_of clock sent =
    pick (nat_le 86400000 (gap clock sent)) None (Some (pick (nat_lt (gap clock sent) 1) 1 (gap clock sent)))

-- 0 and which: passed over, or the sample
abbrev pub answer_of : Option ℕ → Answer
answer_of None = done (0 ∷ [])
answer_of (Some s) = done (1 ∷ s ∷ [])

abbrev pub sampled : ℕ → ℕ → Answer
sampled clock sent = answer_of (trip_of clock sent)
