-- The throttle on the record's own numbers: "the source's tests in its order, sums modulo 2^32"; 0 held, 1 raised, −1 lowered.
use Rattle.std.specs.Prelude.{ℕ, [], ◌∷◌, negsuc, Result, Ok, Err}
use Rattle.numbers.specs.Answers.{Answer, says, done, refused}
use Rattle.numbers.specs.declared.refusals.Refusal.{Refusal}
use Rattle.throttle.specs.Throttling.{by_tests}
use Rattle.throttle.specs.declared.Turn.{Turn}
use Rattle.throttle.specs.declared.Turn.TheVariants as turn
use Rattle.peer.specs.Outcome.{Outcome}
use Rattle.peer.specs.Gate.{on_record}
use Rattle.peer.specs.Updates.{with_throttling}
use Rattle.peer.specs.declared.settings.Settings.{Settings}
use Rattle.peer.specs.declared.Peer.{Peer}
use Rattle.round_trip.specs.Interval.{throttle_of, throttled}

abbrev pub answer_of : Result Turn Refusal → Answer
answer_of (Ok turn.Held) = done (0 ∷ [])
answer_of (Ok turn.Raised) = done (1 ∷ [])
answer_of (Ok turn.Lowered) = says (negsuc 0 ∷ [])
answer_of (Err why) = refused why

abbrev pub throttles_sound : ℕ → Peer → Outcome Peer
throttles_sound sample p =
    record {
      answer = answer_of (Ok (by_tests (throttle_of p.throttling p.trips) sample turn.Held turn.Raised turn.Lowered turn.Held));
      after = with_throttling p (throttled sample p.throttling p.trips);
    }

abbrev pub throttles : Settings → ℕ → Peer → Outcome Peer
throttles s sample p = on_record s p (throttles_sound sample p)
