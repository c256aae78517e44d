-- A property of what a fragment arrival comes to (`fragment_by`), and one of the record that opening a block, marking a piece and a dispatch keep (`fragment_keeps`).
-- The argument: refused by either gate nothing changed; else the fate says which of the three were made.
use Prim.Native.Nat.{ℕ}
use mathlib.Core.Bool.{Bool, true, false}
use mathlib.Core.List.{List}
use lib.Dec.{eqb}
use lib.ListN.{length, get_or}
use Rattle.numbers.specs.Pick.{pick}
use Rattle.numbers.specs.declared.refusals.Refusal.{Refusal}
use Rattle.record.specs.Fresh.{no_incoming}
use Rattle.peer.specs.Damage.{sound}
use Rattle.peer.specs.Gate.{fits, gate_of}
use Rattle.peer.specs.Outcome.{State, Outcome, unchanged}
use Rattle.peer.specs.declared.settings.Settings.{Settings}
use Rattle.peer.specs.declared.Peer.{Peer}
use Rattle.peer.specs.declared.gate.Lent.TheVariants.{Both}
use Rattle.peer.proofs.Gates.{behind_has}
use Rattle.dispatch.specs.Calls.{dispatched_on}
use Rattle.arrival.specs.Arrivals.{answer_of, arrival_gate}
use Rattle.arrive_fragment.specs.Pieces.{fate_on, reply_of}
use Rattle.arrive_fragment.specs.Calls.{send_fragment, arrival_of, opened_on, pieced_on, piece_on, fragment_after, fragment_sound, arrives_fragment}
use Rattle.arrive_fragment.specs.declared.Piece.{Piece}
use Rattle.arrive_fragment.specs.declared.Fate.{Fate}
use Rattle.arrive_fragment.specs.declared.Fate.TheVariants as fate

module _ (s : Settings) (a : Piece) (datagram : List ℕ) (x : State) where
  abbrev pub outcome_by : Fate → Outcome State
  outcome_by f = record { answer = answer_of (reply_of f); after = fragment_after f a datagram x }

  pub fragment_by : (P : Outcome State → Type 0) → ((why : Refusal) → P (unchanged why x)) → P (outcome_by (fate_on s a x.peer))
      → P (arrives_fragment s a datagram x)
  fragment_by P shut rest =
      behind_has (gate_of (fits s (Both (length x.store) (length x.second))) (sound x.peer)) x (fragment_sound s a datagram x) P shut
      (λ e. behind_has (arrival_gate send_fragment (arrival_of a) s x.peer.standing (length datagram)) x (outcome_by (fate_on s a x.peer)) P shut
      (λ own. rest))

  -- a record that the three changes keep
  module _ (Q : Peer → Type 0) (opening : (n : ℕ) (q : Peer) → Q q → Q (opened_on n a q)) (marking : (n : ℕ) (q : Peer) → Q q → Q (pieced_on n a q))
      (dispatching : (q : Peer) → Q q → Q (dispatched_on a.channel q)) where
    piece_keeps : (n : ℕ) (q : Peer) → Q q → Q (piece_on n a q)
    piece_keeps n q k = go (eqb (get_or (pieced_on n a q).incoming n no_incoming).remaining 0)
      where
        go : (b : Bool) → Q (pick b (dispatched_on a.channel (pieced_on n a q)) (pieced_on n a q))
        go true = dispatching (pieced_on n a q) (marking n q k)
        go false = marking n q k

    pub fragment_keeps : Q x.peer → Q (arrives_fragment s a datagram x).after.peer
    fragment_keeps k = fragment_by (λ (o : Outcome State). Q o.after.peer) (λ why. k) (go (fate_on s a x.peer))
      where
        go : (f : Fate) → Q (fragment_after f a datagram x).peer
        go fate.Passed = k
        go fate.Unfit = k
        go fate.NoRoom = k
        go (fate.First n) = piece_keeps n (opened_on n a x.peer) (opening n x.peer k)
        go (fate.Later n) = piece_keeps n x.peer k
