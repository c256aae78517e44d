-- "Throttle: the source's tests in its order, sums modulo 2^32."
use Rattle.std.specs.Prelude.{◌≡◌, ℕ, ◌-◌, ℤ, pos, negsuc, nat_le, nat_lt}
use Rattle.numbers.specs.Pick.{pick}
use Rattle.numbers.specs.Modulo.{sum}
use Rattle.throttle.specs.declared.Throttle.{Throttle}
use Rattle.throttle.specs.declared.Turn.{Turn}
use Rattle.throttle.specs.declared.Turn.TheVariants.{Held, Raised, Lowered}
use Rattle.throttle.specs.declared.Rolled.{Rolled}

-- the three tests: the last round trip not above its variance; the sample not above it; the sample above it and two variances
abbrev pub by_tests : {A : Type 0} → Throttle → ℕ → A → A → A → A → A
by_tests t sample steady quick slow between =
    pick (nat_le t.last t.variance) steady
    (pick (nat_le sample t.last) quick
    (pick (nat_lt (sum 32 t.last (sum 32 t.variance t.variance)) sample) slow between))

-- raised by the acceleration, up to the limit
abbrev pub raised : Throttle → ℕ
raised t = pick (nat_lt t.limit (sum 32 t.value t.acceleration)) t.limit (sum 32 t.value t.acceleration)

-- lowered by the deceleration, down to 0
abbrev pub lowered : Throttle → ℕ
lowered t = pick (nat_lt t.deceleration t.value) (t.value - t.deceleration) 0

abbrev pub value_after : Throttle → ℕ → ℕ
value_after t sample = by_tests t sample t.limit (raised t) (lowered t) t.value

-- only the value changes
abbrev pub throttle_after : Throttle → ℕ → Throttle
throttle_after t sample =
    record {
      value = value_after t sample;
      limit = t.limit;
      acceleration = t.acceleration;
      deceleration = t.deceleration;
      last = t.last;
      variance = t.variance;
    }

-- document 01's values: held 0, raised 1, lowered −1
abbrev pub answer_of : Turn → ℤ
answer_of Held = pos 0
answer_of Raised = pos 1
answer_of Lowered = negsuc 0

abbrev pub answer_after : Throttle → ℕ → ℤ
answer_after t sample = by_tests t sample (pos 0) (pos 1) (negsuc 0) (pos 0)

pub record Rolls (t : Throttle) (sample : ℕ) (r : Rolled) : Type 0 where
  pub throttle : r.throttle ≡ throttle_after t sample
  pub answer : answer_of r.turn ≡ answer_after t sample
