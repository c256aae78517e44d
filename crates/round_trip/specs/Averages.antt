-- The averages, on the six round-trip numbers alone: "All else follows exactly as the source orders it" (protocol.rs 1241–1274). The first sample sets
-- the round trip and the variance; a later one moves both, the variance less a quarter of itself, plus a quarter of the difference, the round trip by an
-- eighth of it, up or down; then come the lowest round trip and the highest variance.
use Rattle.std.specs.Prelude.{ℕ, ◌-◌, ◌/◌, Bool, nat_le, nat_lt}
use Rattle.numbers.specs.Pick.{pick}
use Rattle.numbers.specs.Modulo.{sum}
use Rattle.record.specs.Updates.{with_trip, with_extremes}
use Rattle.record.specs.declared.groups.Trips.{Trips}

-- the first sample: its variance is half of it
abbrev pub first_trip : ℕ → Trips → Trips
first_trip sample t = with_trip t sample (sum 32 sample 1 / 2)

-- the difference of two numbers, the smaller taken from the larger
abbrev pub difference : ℕ → ℕ → ℕ
difference a b = pick (nat_le b a) (a - b) (b - a)

-- a later sample, beside the round trip and the variance so far
abbrev pub variance_by : ℕ → ℕ → ℕ → ℕ
variance_by sample now variance = sum 32 (variance - variance / 4) (difference sample now / 4)

abbrev pub trip_by : ℕ → ℕ → ℕ
trip_by sample now =
    let eighth = difference sample now / 8 in pick (nat_le now sample) (sum 32 now eighth) (now - eighth)

abbrev pub later_trip : ℕ → Trips → Trips
later_trip sample t = with_trip t (trip_by sample t.mean) (variance_by sample t.mean t.variance)

-- the lowest and the highest, with what they now are
abbrev pub extremes : Trips → Trips
extremes t =
    with_extremes t
    (pick (nat_lt t.mean t.lowest) t.mean t.lowest)
    (pick (nat_lt t.highest_variance t.variance) t.variance t.highest_variance)

abbrev pub averaged : Bool → ℕ → Trips → Trips
averaged is_first sample t = extremes (pick is_first (first_trip sample t) (later_trip sample t))
