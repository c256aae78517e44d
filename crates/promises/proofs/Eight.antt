-- What 8 and 10 leave (`eight_leaves`, `eight_first`, `eight_moves`, `ten_keeps`), and that a reliable number which is passed over changes nothing.
-- The argument: no gate answers 8 or 10; behind it 8 is an arrival without room, which leaves the window's move and nothing else, and 10 an
-- acknowledgement whose round trip was taken.
use Rattle.std.specs.Prelude.{None, Option, Some}
use Prim.Native.Nat.{ℕ}
use mathlib.Core.Path.{◌≡◌, refl, ap, sym}
use mathlib.Core.Bool.{Bool, true, false}
use mathlib.Core.List.{List}
use native.Mathlib.Omega.{arith}
use lib.Dec.{eqb}
use lib.ListN.{length}
use borrow.Author.Tests.{eqb-true}
use Rattle.std.specs.Prelude.{⊤, Result, Ok, Err}
use Rattle.numbers.specs.Pick.{pick}
use Rattle.numbers.specs.Answers.{number_of}
use Rattle.numbers.specs.Clock.{trip_of}
use Rattle.numbers.specs.declared.counters.Group.{Group}
use Rattle.numbers.specs.declared.refusals.Refusal.{Refusal}
use Rattle.numbers.specs.declared.refusals.Refusal.TheVariants.{NotReceiving, LengthTooLarge, BadCommand}
use Rattle.window.specs.Window.{first, cleared}
use Rattle.record.specs.Updates.{with_window}
use Rattle.record.specs.declared.groups.Standing.{Standing}
use Rattle.record.specs.declared.groups.Unsequenced.{Unsequenced}
use Rattle.peer.specs.Damage.{sound}
use Rattle.peer.specs.Outcome.{State, Outcome}
use Rattle.peer.specs.Gate.{fits, gate_of, then, behind}
use Rattle.peer.specs.States.{disconnected, zombie}
use Rattle.peer.specs.declared.settings.Settings.{Settings}
use Rattle.peer.specs.declared.gate.Lent.TheVariants.{Nothing, Store, Both}
use Rattle.acknowledge.specs.Calls.{acknowledges_by, acknowledges_sound}
use Rattle.arrival.specs.Arrivals.{answer_of, names, is_receiving, is_whole, arrival_gate, room_of, reply_of}
use Rattle.arrival.specs.Window.{taken_at, passed_by}
use Rattle.arrival.specs.declared.Arrival.{Arrival}
use Rattle.arrival.specs.declared.Fate.{Fate}
use Rattle.arrival.specs.declared.Fate.TheVariants as fate
use Rattle.arrival.specs.declared.Judged.{Judged}
use Rattle.arrive_reliable.specs.Holding.{is_passed}
use Rattle.arrive_unsequenced.specs.Calls.{send_unsequenced, regrouped, judged_on, unsequenced_after, unsequenced_sound}
use Rattle.arrive_reliable.specs.Calls.{channel_of, fate_of, arrives_reliable}
use Rattle.arrive_fragment.specs.Pieces as pieces
use Rattle.arrive_fragment.specs.Pieces.{unfinished_on}
use Rattle.arrive_fragment.specs.Calls.{send_fragment, arrival_of, fragment_sound}
use Rattle.arrive_fragment.specs.declared.Fate.{Fate as Coming}
use Rattle.laws.proofs.Reliable.{reliable_has}
use Rattle.promises.specs.Refusals.{EightLeaves, moved_for, EightMoves, Heard, TenKeeps}
use Rattle.promises.specs.Blocks.{EightFirst}
use Rattle.promises.proofs.Picks.{tested}
use Rattle.promises.proofs.Pieces.{outcome_by}
use Rattle.promises.proofs.BlockPromises.{Goes, passed, unfit, full, first_piece, later_piece, goes}

-- ---- 8 of a reliable arrival, and one that is passed over
pub eight_leaves : EightLeaves
eight_leaves s a datagram x =
    reliable_has s a datagram x (λ (o : Outcome State). o.answer.number ≡ 8 → o.after ≡ x)
    (λ why e. refl) (λ good e z. refl) (λ n good long may e z. absurd (omega (arith, z)))

-- what is passed over is not stored
passed_fate : (b : Bool) (room : Fate) (n : ℕ) → b ≡ true → fate_of b room ≡ fate.Stored n → ⊥
passed_fate true room n b e = let z : ◌≡◌ {A = ℕ} 0 1 = cc in omega arith
passed_fate false room n b e = let z : ◌≡◌ {A = ℕ} 0 1 = cc in omega arith

pub passed_quiet : (s : Settings) (a : Arrival) (datagram : List ℕ) (x : State)
    → is_passed x.peer.incoming (channel_of a x.peer) a.number.0 ≡ true → (arrives_reliable s a datagram x).after ≡ x
passed_quiet s a datagram x p =
    reliable_has s a datagram x (λ (o : Outcome State). o.after ≡ x)
    (λ why. refl) (λ good e. refl)
    (λ n good long may e. absurd (passed_fate (is_passed x.peer.incoming (channel_of a x.peer) a.number.0) (room_of s x.peer) n p e))

-- ---- a number that no gate answers is answered behind it
abbrev Spares : ℕ → Result ⊤ Refusal → Type 0
Spares n (Ok _) = Unit {0}
Spares n (Err why) = number_of why ≡ n → ⊥

behind_answers : {A : Type 0} (n : ℕ) (x : A) (P : A → Type 0) (rest : Outcome A) (g : Result ⊤ Refusal) → Spares n g
    → (rest.answer.number ≡ n → P rest.after) → (behind g x rest).answer.number ≡ n → P (behind g x rest).after
behind_answers n x P rest (Ok _) m h e = h e
behind_answers n x P rest (Err why) m h e = absurd (m e)

gate_spares : (n : ℕ) → (11 ≡ n → ⊥) → (13 ≡ n → ⊥) → (fit good : Bool) → Spares n (gate_of fit good)
gate_spares n a b true true = tt
gate_spares n a b true false = b
gate_spares n a b false good = a

arrival_spares : (command : ℕ) (a : Arrival) (s : Settings) (standing : Standing) (end : ℕ) → Spares 8 (arrival_gate command a s standing end)
arrival_spares command a s standing end = go (names a.byte command) (is_receiving a.channel standing) (is_whole a s end)
  where
    go : (b c d : Bool)
        → Spares 8 (then (pick b (Ok tt) (Err BadCommand)) (then (pick c (Ok tt) (Err NotReceiving)) (pick d (Ok tt) (Err LengthTooLarge))))
    go true true true = tt
    go true true false = λ e. omega (arith, e)
    go true false d = λ e. omega (arith, e)
    go false c d = λ e. omega (arith, e)

-- ---- 8 of a piece
pub eight_first : EightFirst
eight_first s a datagram x z =
    let o =
    behind_answers 8 x (λ (y : State). (unfinished_on a x.peer ≡ None) × (y ≡ x)) (fragment_sound s a datagram x)
    (gate_of (fits s (Both (length x.store) (length x.second))) (sound x.peer))
    (gate_spares 8 (λ e. omega (arith, e)) (λ e. omega (arith, e)) (fits s (Both (length x.store) (length x.second))) (sound x.peer))
    (behind_answers 8 x (λ (y : State). (unfinished_on a x.peer ≡ None) × (y ≡ x)) (outcome_by s a datagram x (pieces.fate_on s a x.peer))
    (arrival_gate send_fragment (arrival_of a) s x.peer.standing (length datagram)) (arrival_spares send_fragment (arrival_of a) s x.peer.standing (length datagram))
    (by (pieces.fate_on s a x.peer) (goes s a x.peer))) z in
    record { first = o.0; after = o.1 }
  where
    by : (f : Coming) → Goes s a x.peer f → let o = outcome_by s a datagram x f in
        o.answer.number ≡ 8 → (unfinished_on a x.peer ≡ None) × (o.after ≡ x)
    by f passed z = absurd (omega (arith, z))
    by f unfit z = absurd (omega (arith, z))
    by f (full e) z = (e, refl)
    by f (first_piece n e) z = absurd (omega (arith, z))
    by f (later_piece n e) z = absurd (omega (arith, z))

-- ---- 8 of an unsequenced arrival
module _ (s : Settings) (a : Arrival) (g : Group) (datagram : List ℕ) (x : State) where
  abbrev gs : Unsequenced
  gs = x.peer.unsequenced

  -- what becomes of the group, where that answers 8
  abbrev Moves : Judged → Type 0
  Moves j = (answer_of (reply_of j.fate)).number ≡ 8 → unsequenced_after j.fate j.unsequenced a datagram x ≡ moved_for g x

  taken_moves : (room : Fate) (base : Group) (words : List ℕ) → regrouped x (with_window gs base words) ≡ moved_for g x
      → Moves (taken_at room gs g base words)
  taken_moves fate.Passed base words h e = absurd (omega (arith, e))
  taken_moves fate.NoRoom base words h e = h
  taken_moves (fate.Stored n) base words h e = absurd (omega (arith, e))

  at_base : eqb (first g.0) gs.incoming.0 ≡ true → regrouped x (with_window gs gs.incoming gs.words) ≡ moved_for g x
  at_base w =
      rw w
      (ap (λ (n : ℕ). regrouped x (with_window gs (record { 0 = n }) gs.words)) (sym (eqb-true (first g.0) gs.incoming.0 w)))

  elsewhere : eqb (first g.0) gs.incoming.0 ≡ false → regrouped x (with_window gs (record { 0 = first g.0 }) cleared) ≡ moved_for g x
  elsewhere w = rw w refl

  by_window : (unsequenced_sound s a g datagram x).answer.number ≡ 8 → (unsequenced_sound s a g datagram x).after ≡ moved_for g x
  by_window =
      let j = judged_on s g x.peer in
      behind_answers 8 x (λ (y : State). y ≡ moved_for g x)
      (record { answer = answer_of (reply_of j.fate); after = unsequenced_after j.fate j.unsequenced a datagram x })
      (arrival_gate send_unsequenced a s x.peer.standing (length datagram)) (arrival_spares send_unsequenced a s x.peer.standing (length datagram))
      (tested gs.incoming.0 gs.words g.0 Moves (passed_by gs) (taken_at (room_of s x.peer) gs g (record { 0 = first g.0 }) cleared)
      (passed_by gs) (taken_at (room_of s x.peer) gs g gs.incoming gs.words)
      (λ e. absurd (omega (arith, e)))
      (λ near w. taken_moves (room_of s x.peer) (record { 0 = first g.0 }) cleared (elsewhere w))
      (λ e. absurd (omega (arith, e)))
      (λ near w free. taken_moves (room_of s x.peer) gs.incoming gs.words (at_base w)))

pub eight_moves : EightMoves
eight_moves s a g datagram x =
    behind_answers 8 x (λ (y : State). y ≡ moved_for g x) (unsequenced_sound s a g datagram x)
    (gate_of (fits s (Store (length x.store))) (sound x.peer))
    (gate_spares 8 (λ e. omega (arith, e)) (λ e. omega (arith, e)) (fits s (Store (length x.store))) (sound x.peer))
    (by_window s a g datagram x)

-- ---- 10 of an acknowledgement
pub ten_keeps : TenKeeps
ten_keeps s channel number sent clock p =
    behind_answers 10 p (Heard channel number sent clock p) (acknowledges_sound channel number sent clock p)
    (gate_of (fits s Nothing) (sound p))
    (gate_spares 10 (λ e. omega (arith, e)) (λ e. omega (arith, e)) (fits s Nothing) (sound p))
    (by_state (pick (eqb p.standing.state disconnected) true (eqb p.standing.state zombie)))
  where
    by_trip : (t : Option ℕ) → trip_of clock sent ≡ t → let o = acknowledges_by t channel number clock p in
        o.answer.number ≡ 10 → Heard channel number sent clock p o.after
    by_trip None e z = absurd (omega (arith, z))
    by_trip (Some sample) e z = record { sample = sample; trip = e; is = refl }

    by_state : (b : Bool) → let o = acknowledges_by (pick b None (trip_of clock sent)) channel number clock p in
        o.answer.number ≡ 10 → Heard channel number sent clock p o.after
    by_state true z = absurd (omega (arith, z))
    by_state false z = by_trip (trip_of clock sent) refl z
