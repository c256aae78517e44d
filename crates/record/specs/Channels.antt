-- Which channel a command may be on: "(but for 255), channel not below count", turned round.
use Rattle.std.specs.Prelude.{ℕ, Bool, true, ltb, eqb}
use Rattle.numbers.specs.Pick.{pick}
use Rattle.record.specs.Sizes.{itself}

-- "channel 255 is the peer itself"
abbrev pub is_itself : ℕ → Bool
is_itself channel = eqb channel itself

abbrev pub on_channel : ℕ → ℕ → Bool
on_channel channel count = pick (ltb channel count) true (is_itself channel)
