-- An arrival that fits (`Fits`) on a sound record finds both gates open, and room: its slot is the lowest free one. The argument: each premise opens one test.
use Rattle.std.specs.Prelude.{None, Option, Some}
use Prim.Native.Nat.{ℕ}
use mathlib.Core.Path.{◌≡◌, refl}
use mathlib.Core.Bool.{true}
use mathlib.Core.List.{List}
use native.Mathlib.Omega.{arith}
use lib.ListN.{length}
use borrow.Author.Tests.{eq-eqb, ne_eqb, lt-ltb, lt-leb}
use Rattle.std.specs.Prelude.{Ok}
use Rattle.record.specs.Sizes.{store_length}
use Rattle.peer.specs.Damage.{sound}
use Rattle.peer.specs.Gate.{fits, gate_of}
use Rattle.peer.specs.States.{connected, disconnect_later}
use Rattle.peer.specs.Outcome.{State}
use Rattle.peer.specs.declared.settings.Settings.{Settings}
use Rattle.peer.specs.declared.gate.Lent.TheVariants.{Store}
use Rattle.arrival.specs.Storing.{free_slot}
use Rattle.arrival.specs.Arrivals.{arrival_gate, room_for, room_of}
use Rattle.arrival.specs.declared.Arrival.{Arrival}
use Rattle.arrival.specs.declared.Fate.TheVariants as fate
use Rattle.promises.specs.Next.{Fits}

module _ (command : ℕ) (s : Settings) (a : Arrival) (datagram : List ℕ) (x : State) (f : Fits command s a datagram x) where
  pub fits_open : sound x.peer ≡ true → gate_of (fits s (Store (length x.store))) (sound x.peer) ≡ Ok tt
  fits_open good = rw (f.settings, eq-eqb (length x.store) store_length f.store, good)

  pub fits_admitted : arrival_gate command a s x.peer.standing (length datagram) ≡ Ok tt
  fits_admitted =
      let here = lt-ltb a.channel x.peer.standing.channels f.on in
      let five = eq-eqb x.peer.standing.state connected f.state in
      rw (f.byte, here, five, f.whole)

  -- its slot is the lowest free one
  pub fits_room : (n : ℕ) × (room_of s x.peer ≡ fate.Stored n)
  fits_room = go (free_slot x.peer.lists x.peer.channels x.peer.standing.channels) refl
    where
      go : (free : Option ℕ) → free_slot x.peer.lists x.peer.channels x.peer.standing.channels ≡ free
          → (n : ℕ) × (room_for s x.peer.standing.state x.peer.waiting.total free ≡ fate.Stored n)
      go None e = absurd (f.slot e)
      go (Some n) e =
          let five = f.state in
          let later = ne_eqb x.peer.standing.state disconnect_later (λ six. omega (arith, five, six)) in
          (n, rw (later, lt-leb s.waiting x.peer.waiting.total f.below))
