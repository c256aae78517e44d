-- A turn whose answer is the rule's is the rule's, and the call answers what the throttle itself does. The argument: the answers tell the
-- turns apart, so the turn is the one that the tests pick, and a function of what they pick is what they pick of the function's values.
use Rattle.std.specs.Prelude.{Ok}
use Rattle.std.proofs.Common.{◌≡◌, ℕ, Bool, true, false, ltb, leb, [], ◌∷◌, ℤ, pos, negsuc, sym, refl, ap, ◌∙◌}
use Rattle.numbers.specs.Pick.{pick}
use Rattle.numbers.specs.Modulo.{sum}
use Rattle.numbers.specs.Answers.{says}
use Rattle.throttle.specs.Throttling.{by_tests, answer_of, answer_after}
use Rattle.throttle.specs.declared.Throttle.{Throttle}
use Rattle.throttle.specs.declared.Turn.{Turn}
use Rattle.throttle.specs.declared.Turn.TheVariants as turn
use Rattle.throttle.proofs.Settled.{turns_apart}
use Rattle.round_trip.specs.Interval.{throttle_of, throttled}
use Rattle.record.specs.declared.groups.Throttling.{Throttling}
use Rattle.record.specs.declared.groups.Trips.{Trips}
use Rattle.peer.specs.Outcome.{Came}
use Rattle.peer.specs.Updates.{with_throttling}
use Rattle.peer.specs.declared.Peer.{Peer}
use Rattle.round_trip.specs.Calls as calls
use Rattle.round_trip.specs.Calls.{throttles_sound}

module _ (t : Throttle) (sample : ℕ) where
  tests_of : {A B : Type 0} (f : A → B) (steady quick slow between : A)
      → f (by_tests t sample steady quick slow between) ≡ by_tests t sample (f steady) (f quick) (f slow) (f between)
  tests_of f steady quick slow between =
      go (leb t.last t.variance) (leb sample t.last) (ltb (sum 32 t.last (sum 32 t.variance t.variance)) sample)
    where
      go : (a b c : Bool) → f (pick a steady (pick b quick (pick c slow between))) ≡ pick a (f steady) (pick b (f quick) (pick c (f slow) (f between)))
      go true b c = refl
      go false true c = refl
      go false false true = refl
      go false false false = refl

  -- the turn that the tests pick
  abbrev turned : Turn
  turned = by_tests t sample turn.Held turn.Raised turn.Lowered turn.Held

  pub turn_is : (u : Turn) → answer_of u ≡ answer_after t sample → u ≡ turned
  turn_is u e = turns_apart u turned (e ∙ sym (tests_of answer_of turn.Held turn.Raised turn.Lowered turn.Held))

  -- `answer_of` is on both sides of the call's contract: this holds it to the throttle's own 0, 1 and −1
  pub answers_as_throttle : calls.answer_of (Ok turned) ≡ says (answer_after t sample ∷ [])
  answers_as_throttle =
      tests_of (λ (u : Turn). calls.answer_of (Ok u)) turn.Held turn.Raised turn.Lowered turn.Held
      ∙ sym (tests_of (λ (z : ℤ). says (z ∷ [])) (pos 0) (pos 1) (negsuc 0) (pos 0))

-- what the call on the lent record comes to behind its gate, of the groups that it read and wrote
pub throttles_by : (sample : ℕ) (p : Peer) (th : Throttling) (t : Trips) → th ≡ p.throttling → t ≡ p.trips → (new : Throttling) → new ≡ throttled sample th t
    → (u : Turn) → answer_of u ≡ answer_after (throttle_of th t) sample → (z : Peer) → z ≡ with_throttling p new → Came calls.answer_of (throttles_sound sample p) (Ok u) z
throttles_by sample p th t a b new n u e z w =
    let here : new ≡ throttled sample p.throttling p.trips = rw (a, b) at n in
    let told : answer_of u ≡ answer_after (throttle_of p.throttling p.trips) sample =
    e ∙ ap (λ (x : Throttling). answer_after (throttle_of x t) sample) a ∙ ap (λ (y : Trips). answer_after (throttle_of p.throttling y) sample) b in
    record {
      answer = ap (λ (v : Turn). calls.answer_of (Ok v)) (turn_is (throttle_of p.throttling p.trips) sample u told);
      after = w ∙ ap (with_throttling p) here;
    }
