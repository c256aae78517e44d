-- The fragment arrival comes out as the rule says: refused by either gate, or left by its fate. The argument: each part that the code makes is given by its
-- equation, so the state made of them is the rule's; past 6 the channel exists.
use Rattle.std.specs.Prelude.{Option}
use Prim.Native.Nat.{ℕ, ◌<◌}
use mathlib.Core.Path.{◌≡◌, refl, ap, sym, ◌∙◌}
use mathlib.Core.Bool.{Bool}
use mathlib.Core.List.{List}
use native.Mathlib.Omega.{arith}
use lib.ListN.{length}
use borrow.Author.Tests.{eq-eqb, ne_eqb}
use Rattle.std.specs.Prelude.{⊤, Result, Ok, Err}
use Rattle.numbers.specs.Pick.{pick}
use Rattle.numbers.specs.declared.refusals.Refusal.{Refusal}
use Rattle.record.specs.Sizes.{channels}
use Rattle.record.specs.declared.groups.Standing.{Standing}
use Rattle.record.specs.declared.groups.Waiting.{Waiting}
use Rattle.peer.specs.Outcome.{State, Outcome, Came}
use Rattle.peer.specs.Gate.{behind}
use Rattle.peer.specs.States.{disconnect_later}
use Rattle.peer.specs.declared.settings.Settings.{Settings}
use Rattle.peer.specs.declared.Peer.{Peer}
use Rattle.peer.specs.declared.gate.Lent.TheVariants.{Both}
use Rattle.peer.proofs.Gates.{open_sound, came_shut, came_open, AtGate}
use Rattle.peer.proofs.Ranges.{count_high}
use Rattle.arrival.specs.Storing.{free_slot}
use Rattle.arrival.specs.Arrivals.{answer_of, arrival_gate, room_for, room_of}
use Rattle.arrival.specs.declared.Arrival.{Arrival}
use Rattle.arrival.specs.declared.Arrived.{Arrived}
use Rattle.arrival.specs.declared.Fate.{Fate as Room}
use Rattle.arrival.proofs.Admitted.{admitted}
use Rattle.arrive_fragment.specs.Pieces.{unfinished_on, any_block, opens, fate_by, fate_on, reply_of}
use Rattle.arrive_fragment.specs.Calls.{send_fragment, arrival_of, opened_on, piece_on, with_bytes, cleared, fragment_after, fragment_sound, arrives_fragment}
use Rattle.arrive_fragment.specs.declared.Piece.{Piece}
use Rattle.arrive_fragment.specs.declared.Fate.{Fate}
use Rattle.arrive_fragment.specs.declared.Fate.TheVariants as fate

-- what becomes of a first piece that fits, by what was read of the record
pub opened_by : (s : Settings) (p : Peer) (standing : Standing) (waiting : Waiting) (free : Option ℕ) (room : Room) (any : Bool) (f : Fate)
    → standing ≡ p.standing → waiting ≡ p.waiting → free ≡ free_slot p.lists p.channels p.standing.channels
    → room ≡ room_for s standing.state waiting.total free → any ≡ any_block p → f ≡ opens any room → f ≡ opens (any_block p) (room_of s p)
opened_by s p standing waiting free room any f es ew ef er ea e =
    e
    ∙ ap (λ (b : Bool). opens b room) ea
    ∙ ap (opens (any_block p))
    (er
    ∙ ap (λ (x : Standing). room_for s x.state waiting.total free) es
    ∙ ap (λ (x : Waiting). room_for s p.standing.state x.total free) ew
    ∙ ap (room_for s p.standing.state p.waiting.total) ef)

-- and of any piece: the state, then whose it is
module _ (s : Settings) (a : Piece) (p : Peer) (standing : Standing) (st : standing ≡ p.standing) where
  state_is : standing.state ≡ p.standing.state
  state_is = ap (λ (x : Standing). x.state) st

  pub fate_passed : standing.state ≡ disconnect_later → fate.Passed ≡ fate_on s a p
  fate_passed e = sym (ap (λ (b : Bool). pick b fate.Passed (fate_by (unfinished_on a p) s a p)) (eq-eqb p.standing.state disconnect_later (sym state_is ∙ e)))

  pub fate_by_lem : (standing.state ≡ disconnect_later → ⊥) → (b v : Option ℕ) → b ≡ unfinished_on a p → b ≡ v → (f : Fate) → f ≡ fate_by v s a p → f ≡ fate_on s a p
  fate_by_lem e b v is known f q =
      q
      ∙ ap (λ (x : Option ℕ). fate_by x s a p) (sym known ∙ is)
      ∙ sym (ap (λ (x : Bool). pick x fate.Passed (fate_by (unfinished_on a p) s a p)) (ne_eqb p.standing.state disconnect_later (λ z. e (state_is ∙ z))))

-- what a fate leaves: q is the record and z the second store that the code made
module _ (a : Piece) (datagram : List ℕ) (p q : Peer) (store second z : List ℕ) (f : Fate) (n : ℕ) where
  abbrev left : Type 0
  left = fragment_after f a datagram (record { peer = p; store = store; second = second }) ≡ record { peer = q; store = store; second = z }

  pub kept_first : f ≡ fate.First n → q ≡ piece_on n a (opened_on n a p) → z ≡ with_bytes a datagram (cleared second) → left
  kept_first e eq ez = rw (e, eq, ez)

  pub kept_later : f ≡ fate.Later n → q ≡ piece_on n a p → z ≡ with_bytes a datagram second → left
  kept_later e eq ez = rw (e, eq, ez)

-- g is what the gate answered
module _ (s : Settings) (a : Piece) (datagram : List ℕ) (p : Peer) (store second : List ℕ) (g : AtGate s (Both (length store) (length second)) p) where
  abbrev found : State
  found = record { peer = p; store = store; second = second }

  abbrev outcome : Outcome State
  outcome = arrives_fragment s a datagram found

  -- what comes of it by its fate
  abbrev by : Fate → Outcome State
  by f = record { answer = answer_of (reply_of f); after = fragment_after f a datagram found }

  pub arrive_shut : (why : Refusal) → g.gate ≡ Err why → Came answer_of outcome (Err why) found
  arrive_shut why q = came_shut g found (fragment_sound s a datagram found) answer_of (Err why) why refl q

  -- w is the piece as an arrival, m what the second gate answered
  module _ (opens : g.gate ≡ Ok tt) (standing : Standing) (st : standing ≡ p.standing) (w : Arrival) (ar : w ≡ arrival_of a)
      (m : Result ⊤ Refusal) (is : m ≡ arrival_gate send_fragment w s standing (length datagram)) where
    same : m ≡ arrival_gate send_fragment (arrival_of a) s p.standing (length datagram)
    same =
        is
        ∙ ap (λ (x : Standing). arrival_gate send_fragment w s x (length datagram)) st
        ∙ ap (λ (x : Arrival). arrival_gate send_fragment x s p.standing (length datagram)) ar

    came : (r : Result Arrived Refusal) (y : State) → Came answer_of (behind m found (by (fate_on s a p))) r y → Came answer_of outcome r y
    came r y c = came_open g found (fragment_sound s a datagram found) answer_of r y opens (rw same at c)

    pub arrive_refused : (why : Refusal) → m ≡ Err why → Came answer_of outcome (Err why) found
    arrive_refused why q = came (Err why) found (rw q (record { answer = refl; after = refl }))

    module _ (may : m ≡ Ok tt) where
      pub channel_exists : a.channel < channels
      channel_exists =
          let below = (admitted send_fragment (arrival_of a) s p.standing (length datagram) (sym same ∙ may)).on in
          omega (arith, below, count_high p (open_sound g opens))

      -- f is what becomes of it, y what it leaves, r the reply
      pub arrive_left : (f : Fate) → f ≡ fate_on s a p → (r : Result Arrived Refusal) → r ≡ reply_of f → (y : State) → fragment_after f a datagram found ≡ y
          → Came answer_of outcome r y
      arrive_left f e r q y left =
          came r y (rw may (rw e at came_by))
        where
          came_by : Came answer_of (by f) r y
          came_by = record { answer = ap answer_of q; after = sym left }
