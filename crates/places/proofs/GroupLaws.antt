-- Each group of the record: what its numbers are, and the record after they were written.
-- The argument: the parts computed; a write is `numbers_put`, a line a group.
use Prim.Native.Nat.{ℕ, ◌%◌, ◌<◌}
use mathlib.Core.Path.{◌≡◌, refl, ◌∙◌}
use mathlib.Core.List.{List, [], ◌∷◌}
use native.Mathlib.Omega.{arith}
use lib.ListN.{length, get_or}
use lib.Seq.{sets}
use Rattle.numbers.specs.declared.counters.Group.{Group}
use Rattle.lists.specs.Rows.{section}
use Rattle.record.specs.declared.groups.Flow.{Flow}
use Rattle.record.specs.declared.groups.Loss.{Loss}
use Rattle.record.specs.declared.groups.Marks.{Marks}
use Rattle.record.specs.declared.groups.Standing.{Standing}
use Rattle.record.specs.declared.groups.Throttling.{Throttling}
use Rattle.record.specs.declared.groups.Times.{Times}
use Rattle.record.specs.declared.groups.Totals.{Totals}
use Rattle.record.specs.declared.groups.Trips.{Trips}
use Rattle.record.specs.declared.groups.Waiting.{Waiting}
use Rattle.record.specs.Updates.{with_flags, with_outgoing_group}
use Rattle.peer.specs.Updates.{with_standing, with_totals, with_times, with_loss, with_throttling, with_flow, with_unsequenced, with_waiting, with_marks}
use Rattle.places.specs.Whole.{sizes, numbers, parts, made, whole}
use Rattle.places.specs.Updates.{with_trips}
use Rattle.places.proofs.Written.{place, numbers_put}

-- a number that fits is read as it is
pub low : (x y : ℕ) → x ≡ y → y < 65536 → x % 65536 ≡ y
low x y e h = omega arith

module _ (ws : List ℕ) where
  pub standing_is : (whole ws).standing ≡ record { state = get_or ws 5 0; channels = get_or ws 6 0 }
  unfolding made parts numbers sizes
  standing_is = refl

  pub totals_is : (whole ws).totals ≡ record { incoming = get_or ws 11 0; outgoing = get_or ws 12 0 }
  unfolding made parts numbers sizes
  totals_is = refl

  pub times_is : (whole ws).times ≡ record { last_send = get_or ws 13 0; last_receive = get_or ws 14 0; next_timeout = get_or ws 15 0; earliest_timeout = get_or ws 16 0 }
  unfolding made parts numbers sizes
  times_is = refl

  pub loss_is : (whole ws).loss ≡ record { epoch = get_or ws 17 0; sent = get_or ws 18 0; lost = get_or ws 19 0; loss = get_or ws 20 0; variance = get_or ws 21 0 }
  unfolding made parts numbers sizes
  loss_is = refl

  pub throttling_is : (whole ws).throttling ≡ record { value = get_or ws 22 0; limit = get_or ws 23 0; counter = get_or ws 24 0; epoch = get_or ws 25 0; acceleration = get_or ws 26 0; deceleration = get_or ws 27 0; interval = get_or ws 28 0 }
  unfolding made parts numbers sizes
  throttling_is = refl

  pub limits_is : (whole ws).limits ≡ record { ping = get_or ws 29 0; timeout = get_or ws 30 0; minimum = get_or ws 31 0; maximum = get_or ws 32 0 }
  unfolding made parts numbers sizes
  limits_is = refl

  pub trips_is : (whole ws).trips ≡ record { last = get_or ws 33 0; lowest = get_or ws 34 0; last_variance = get_or ws 35 0; highest_variance = get_or ws 36 0; mean = get_or ws 37 0; variance = get_or ws 38 0 }
  unfolding made parts numbers sizes
  trips_is = refl

  pub marks_is : (whole ws).marks ≡ record { low = get_or ws 1234 0; high = get_or ws 1235 0 }
  unfolding made parts numbers sizes
  marks_is = refl

  pub waiting_is : (whole ws).waiting ≡ record { event = get_or ws 191 0; total = get_or ws 192 0; queued = get_or ws 193 0 }
  unfolding made parts numbers sizes
  waiting_is = refl

  pub flow_is : (r : ℕ) → r ≡ get_or ws 42 0 % 65536 → (whole ws).flow ≡ record { mtu = get_or ws 39 0; window = get_or ws 40 0; transit = get_or ws 41 0; own_number = record { 0 = r } }
  unfolding made parts numbers sizes
  flow_is r e = rw e

  pub flags_is : (whole ws).unsequenced.flags ≡ get_or ws 155 0 % 65536
  unfolding made parts numbers sizes
  flags_is = refl

  pub outgoing_group_is : (r : ℕ) → r ≡ get_or ws 158 0 % 65536 → (whole ws).unsequenced.outgoing ≡ record { 0 = r }
  unfolding made parts numbers sizes
  outgoing_group_is r e = rw e

  pub unsequenced_is : (f v i o : ℕ) (w : List ℕ) → f ≡ get_or ws 155 0 % 65536 → v ≡ get_or ws 156 0 % 65536 → i ≡ get_or ws 157 0 % 65536 → o ≡ get_or ws 158 0 % 65536 → w ≡ section 159 32 ws
      → (whole ws).unsequenced ≡ record { flags = f; reserved = v; incoming = record { 0 = i }; outgoing = record { 0 = o }; words = w }
  unfolding made parts numbers sizes
  unsequenced_is f v i o w ef ev ei eo ew = rw (ef, ev, ei, eo, ew)

  module _ (l : length ws ≡ 1236) where
    pub put_standing_lem : (x : Standing) → whole (sets ws 5 (x.state ∷ x.channels ∷ [])) ≡ with_standing (whole ws) x
    unfolding made parts numbers sizes place
    put_standing_lem x = numbers_put ws 0 43 5 5 (x.state ∷ x.channels ∷ []) l (omega arith) refl refl (omega arith) (omega arith)

    pub put_totals_lem : (x : Totals) → whole (sets ws 11 (x.incoming ∷ x.outgoing ∷ [])) ≡ with_totals (whole ws) x
    unfolding made parts numbers sizes place
    put_totals_lem x = numbers_put ws 0 43 11 11 (x.incoming ∷ x.outgoing ∷ []) l (omega arith) refl refl (omega arith) (omega arith)

    pub put_times_lem : (x : Times) → whole (sets ws 13 (x.last_send ∷ x.last_receive ∷ x.next_timeout ∷ x.earliest_timeout ∷ [])) ≡ with_times (whole ws) x
    unfolding made parts numbers sizes place
    put_times_lem x = numbers_put ws 0 43 13 13 (x.last_send ∷ x.last_receive ∷ x.next_timeout ∷ x.earliest_timeout ∷ []) l (omega arith) refl refl (omega arith) (omega arith)

    pub put_loss_lem : (x : Loss) → whole (sets ws 17 (x.epoch ∷ x.sent ∷ x.lost ∷ x.loss ∷ x.variance ∷ [])) ≡ with_loss (whole ws) x
    unfolding made parts numbers sizes place
    put_loss_lem x = numbers_put ws 0 43 17 17 (x.epoch ∷ x.sent ∷ x.lost ∷ x.loss ∷ x.variance ∷ []) l (omega arith) refl refl (omega arith) (omega arith)

    pub put_throttling_lem : (x : Throttling) → whole (sets ws 22 (x.value ∷ x.limit ∷ x.counter ∷ x.epoch ∷ x.acceleration ∷ x.deceleration ∷ x.interval ∷ [])) ≡ with_throttling (whole ws) x
    unfolding made parts numbers sizes place
    put_throttling_lem x = numbers_put ws 0 43 22 22 (x.value ∷ x.limit ∷ x.counter ∷ x.epoch ∷ x.acceleration ∷ x.deceleration ∷ x.interval ∷ []) l (omega arith) refl refl (omega arith) (omega arith)

    pub put_trips_lem : (x : Trips) → whole (sets ws 33 (x.last ∷ x.lowest ∷ x.last_variance ∷ x.highest_variance ∷ x.mean ∷ x.variance ∷ [])) ≡ with_trips (whole ws) x
    unfolding made parts numbers sizes place
    put_trips_lem x = numbers_put ws 0 43 33 33 (x.last ∷ x.lowest ∷ x.last_variance ∷ x.highest_variance ∷ x.mean ∷ x.variance ∷ []) l (omega arith) refl refl (omega arith) (omega arith)

    pub put_waiting_lem : (x : Waiting) → whole (sets ws 191 (x.event ∷ x.total ∷ x.queued ∷ [])) ≡ with_waiting (whole ws) x
    unfolding made parts numbers sizes place
    put_waiting_lem x = numbers_put ws 7 3 0 191 (x.event ∷ x.total ∷ x.queued ∷ []) l (omega arith) refl refl (omega arith) (omega arith)

    pub put_marks_lem : (x : Marks) → whole (sets ws 1234 (x.low ∷ x.high ∷ [])) ≡ with_marks (whole ws) x
    unfolding made parts numbers sizes place
    put_marks_lem x = numbers_put ws 11 2 0 1234 (x.low ∷ x.high ∷ []) l (omega arith) refl refl (omega arith) (omega arith)

    pub put_flow_lem : (x : Flow) (r : ℕ) → r ≡ x.own_number.0 → x.own_number.0 < 65536 → whole (sets ws 39 (x.mtu ∷ x.window ∷ x.transit ∷ r ∷ [])) ≡ with_flow (whole ws) x
    unfolding made parts numbers sizes place
    put_flow_lem x r e h = numbers_put ws 0 43 39 39 (x.mtu ∷ x.window ∷ x.transit ∷ r ∷ []) l (omega arith) refl refl (omega arith) (omega arith) ∙ rw (low r x.own_number.0 e h)

    pub put_flags_lem : (x r : ℕ) → r ≡ x → x < 65536 → whole (sets ws 155 (r ∷ [])) ≡ with_unsequenced (whole ws) (with_flags (whole ws).unsequenced x)
    unfolding made parts numbers sizes place
    put_flags_lem x r e h = numbers_put ws 5 4 0 155 (r ∷ []) l (omega arith) refl refl (omega arith) (omega arith) ∙ rw (low r x e h)

    pub put_outgoing_group_lem : (x : Group) (r : ℕ) → r ≡ x.0 → x.0 < 65536 → whole (sets ws 158 (r ∷ [])) ≡ with_unsequenced (whole ws) (with_outgoing_group (whole ws).unsequenced x)
    unfolding made parts numbers sizes place
    put_outgoing_group_lem x r e h = numbers_put ws 5 4 3 158 (r ∷ []) l (omega arith) refl refl (omega arith) (omega arith) ∙ rw (low r x.0 e h)
