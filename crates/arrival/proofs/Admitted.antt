-- What an open gate says: the channel is below the count, the payload fits a cell and stands in the datagram, the store has its length.
-- The argument: by cases on the tests, in their order.
use Rattle.std.specs.Prelude.{Ok, Err}
use Rattle.std.proofs.Common.{◌≡◌, ℕ, ◌+◌, ◌<◌, ◌≤◌, Bool, true, false, eqb, ltb, leb, get_or, refl, ap, arith, ltb-true, eqb-true, leb-true}
use Rattle.numbers.specs.Pick.{pick, both}
use Rattle.numbers.specs.Answers.{Answer, refused, numbers_of}
use Rattle.numbers.specs.declared.refusals.Refusal.{Refusal}
use Rattle.numbers.specs.declared.refusals.Refusal.TheVariants.{NotReceiving, LengthTooLarge, BadCommand}
use Rattle.numbers.proofs.Settled.{refused_not_done}
use Rattle.numbers.proofs.BoolLaws.{both_left, both_right}
use Rattle.record.specs.Sizes.{cell, store_length}
use Rattle.record.specs.declared.groups.Standing.{Standing}
use Rattle.peer.specs.Gate.{fits, gate_of, then}
use Rattle.peer.specs.Settings.{fit_settings}
use Rattle.peer.specs.declared.settings.Settings.{Settings}
use Rattle.peer.specs.declared.gate.Lent.TheVariants.{Store}
use Rattle.peer.proofs.Gates.{openness}
use Rattle.arrival.specs.Arrivals.{passed_over, stored, names, is_receiving, is_whole, arrival_gate}
use Rattle.arrival.specs.declared.Arrival.{Arrival}

pub record Admitted (a : Arrival) (standing : Standing) (end : ℕ) : Type 0 where
  pub on : a.channel < standing.channels
  pub short : a.length ≤ cell
  pub inside : a.place + a.length ≤ end

pub admitted : (command : ℕ) (a : Arrival) (s : Settings) (standing : Standing) (end : ℕ) → arrival_gate command a s standing end ≡ Ok tt
    → Admitted a standing end
admitted command a s standing end e = go (names a.byte command) (is_receiving a.channel standing) refl (is_whole a s end) refl e
  where
    go : (b c : Bool) → is_receiving a.channel standing ≡ c → (d : Bool) → is_whole a s end ≡ d
        → then (pick b (Ok tt) (Err BadCommand)) (then (pick c (Ok tt) (Err NotReceiving)) (pick d (Ok tt) (Err LengthTooLarge))) ≡ Ok tt
        → Admitted a standing end
    go true true r true w e =
        let fits = leb a.length cell in
        let there = leb (a.place + a.length) end in
        let both_of = both_right (leb a.length s.packet) (both fits there) w in
        record {
          on = ltb-true a.channel standing.channels (both_left (ltb a.channel standing.channels) _ r);
          short = leb-true a.length cell (both_left fits there both_of);
          inside = leb-true (a.place + a.length) end (both_right fits there both_of);
        }
    go true true r false w e = absurd (omega (arith, ap openness e))
    go true false r d w e = absurd (omega (arith, ap openness e))
    go false c r d w e = absurd (omega (arith, ap openness e))

-- "stored" is neither passed over nor a refusal
pub not_passed : passed_over ≡ stored → ⊥
not_passed e = omega (arith, ap (λ (a : Answer). get_or (numbers_of a) 0 0) e)

pub not_refused : (why : Refusal) → refused why ≡ stored → ⊥
not_refused why e = refused_not_done why (ap (λ (a : Answer). a.number) e)

-- a store that the gate lets through has its length
pub lent_whole : (s : Settings) (n : ℕ) (good : Bool) → gate_of (fits s (Store n)) good ≡ Ok tt → n ≡ store_length
lent_whole s n good e = eqb-true n store_length (both_right (fit_settings s) (eqb n store_length) (go (fits s (Store n)) good e))
  where
    go : (f w : Bool) → gate_of f w ≡ Ok tt → f ≡ true
    go true w e = refl
    go false w e = absurd (omega (arith, ap openness e))
