-- "Each counts on past 65,535 to 0, on purpose."
use Rattle.std.specs.Prelude.{ℕ}
use Rattle.numbers.specs.Modulo.{sum}

abbrev pub step : ℕ → ℕ
step n = sum 16 n 1
