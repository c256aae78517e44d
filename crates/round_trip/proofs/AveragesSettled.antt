-- Any two results that the contract of `throttle` allows are equal: the group is given, and the turns' answers tell the turns apart.
use Rattle.std.proofs.Common.{◌≡◌, ℕ, sym, ap, ◌∙◌}
use Rattle.throttle.specs.Throttling.{answer_of, answer_after}
use Rattle.throttle.specs.declared.Turn.{Turn}
use Rattle.throttle.proofs.Settled.{turns_apart}
use Rattle.record.specs.declared.groups.Throttling.{Throttling}
use Rattle.record.specs.declared.groups.Trips.{Trips}
use Rattle.round_trip.specs.Interval.{throttle_of, throttled}
use Rattle.round_trip.specs.declared.averages.Throttled.{Throttled}

pub throttle_settled : (th : Throttling) (t : Trips) (sample : ℕ) (a b : Throttled)
    → a.throttling ≡ throttled sample th t → answer_of a.turn ≡ answer_after (throttle_of th t) sample
    → b.throttling ≡ throttled sample th t → answer_of b.turn ≡ answer_after (throttle_of th t) sample
    → a ≡ b
throttle_settled th t sample a b x p y q =
    ap (λ (g : Throttling). record { throttling = g; turn = a.turn }) (x ∙ sym y)
    ∙ ap (λ (u : Turn). record { throttling = b.throttling; turn = u }) (turns_apart a.turn b.turn (p ∙ sym q))
