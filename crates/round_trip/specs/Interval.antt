-- The throttle's interval is over where its epoch is 0, or the distance from it at or above the interval (protocol.rs 1275–1294); and the throttle on
-- the record's own numbers: a later sample rolls it before the averages.
use Rattle.std.specs.Prelude.{ℕ, Bool, true, ◌==◌, nat_le, nat_lt}
use Rattle.numbers.specs.Pick.{pick}
use Rattle.numbers.specs.Clock.{distance}
use Rattle.throttle.specs.Throttling.{value_after}
use Rattle.throttle.specs.declared.Throttle.{Throttle}
use Rattle.record.specs.Updates.{with_value, with_epoch}
use Rattle.record.specs.declared.groups.Throttling.{Throttling}
use Rattle.record.specs.declared.groups.Trips.{Trips}
use Rattle.round_trip.specs.Averages.{averaged}
use Rattle.round_trip.specs.declared.averages.Measured.{Measured}

abbrev pub is_over : ℕ → Throttling → Bool
is_over clock th = pick (th.epoch == 0) true (nat_le th.interval (distance clock th.epoch))

-- the interval's lowest round trip and highest variance, at least 1, are the last; the next interval begins with what is now
abbrev pub last_trips : Trips → Trips
last_trips t =
    record {
      last = t.lowest;
      lowest = t.mean;
      last_variance = pick (nat_lt 1 t.highest_variance) t.highest_variance 1;
      highest_variance = t.variance;
      mean = t.mean;
      variance = t.variance;
    }

abbrev pub rolled : ℕ → Throttling → Trips → Measured
rolled clock th t =
    pick (is_over clock th)
    (record { throttling = with_epoch th clock; trips = last_trips t })
    (record { throttling = th; trips = t })

-- the numbers that the throttle reads
abbrev pub throttle_of : Throttling → Trips → Throttle
throttle_of th t =
    record {
      value = th.value;
      limit = th.limit;
      acceleration = th.acceleration;
      deceleration = th.deceleration;
      last = t.last;
      variance = t.last_variance;
    }

-- only its value changes
abbrev pub throttled : ℕ → Throttling → Trips → Throttling
throttled sample th t = with_value th (value_after (throttle_of th t) sample)

-- a later sample rolls it first
abbrev pub before_averages : Bool → ℕ → Throttling → Trips → Throttling
before_averages is_first sample th t = pick is_first th (throttled sample th t)

-- a sample: the throttle, then the averages, then the interval
abbrev pub measured : Bool → ℕ → ℕ → Throttling → Trips → Measured
measured is_first sample clock th t = rolled clock (before_averages is_first sample th t) (averaged is_first sample t)
