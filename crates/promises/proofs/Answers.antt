-- What answers say: an arrival's is "stored" exactly where its number is 0 and its first value 1; a receive's hands out a packet by 1, a block by 2.
-- The argument: an answer is a reply's, and replies are told apart by number and first value.
use Rattle.std.specs.Prelude.{None, Option, Some}
use Prim.Native.Nat.{ℕ}
use mathlib.Core.Path.{◌≡◌, refl, ap, ◌∙◌}
use mathlib.Core.Bool.{Bool, true, false}
use mathlib.Core.List.{List}
use mathlib.Core.Logic.{inl, inr}
use lib.Dec.{eqb}
use lib.ListN.{length, get_or}
use borrow.Author.Tests.{ne_eqb}
use Rattle.std.specs.Prelude.{Result, Ok, Err, Some}
use Rattle.numbers.specs.Pick.{pick, both}
use Rattle.numbers.specs.Answers.{Answer, number_of, refused, numbers_of}
use Rattle.numbers.specs.declared.counters.Group.{Group}
use Rattle.numbers.proofs.Settled.{refused_not_done}
use Rattle.numbers.specs.declared.refusals.Refusal.{Refusal}
use Rattle.record.specs.Lists.{in_items}
use Rattle.record.specs.Fresh.{no_incoming}
use Rattle.record.specs.Blocks.{is_block}
use Rattle.record.specs.declared.groups.Incoming.{Incoming}
use Rattle.cells.specs.Runs.{first}
use Rattle.peer.specs.Damage.{sound}
use Rattle.peer.specs.Gate.{fits, gate_of}
use Rattle.peer.specs.Outcome.{State, Outcome}
use Rattle.peer.specs.declared.settings.Settings.{Settings}
use Rattle.peer.specs.declared.Peer.{Peer}
use Rattle.peer.specs.declared.gate.Lent.TheVariants as lent
use Rattle.peer.proofs.Gates.{behind_has}
use Rattle.arrival.specs.Arrivals.{stored, answer_of, arrival_gate, reply_of}
use Rattle.arrival.specs.declared.Arrival.{Arrival}
use Rattle.arrival.specs.declared.Arrived.{Arrived}
use Rattle.arrival.specs.declared.Arrived.TheVariants as arrived
use Rattle.arrive_unsequenced.specs.Calls.{send_unsequenced, judged_on, unsequenced_sound, arrives_unsequenced}
use Rattle.arrive_reliable.specs.Calls.{send_reliable, fate_on, reliable_sound, arrives_reliable}
use Rattle.arrive_fragment.specs.Pieces as pieces
use Rattle.arrive_fragment.specs.Calls.{arrives_fragment}
use Rattle.arrive_fragment.specs.declared.Piece.{Piece}
use Rattle.receive.specs.Calls as receiving
use Rattle.receive.specs.Calls.{receives_from, receives_sound, receives}
use Rattle.receive.specs.declared.Received.TheVariants as vr
use Rattle.laws.specs.Steady.{HandedOut}
use Rattle.link.specs.Runs.{says_one, says_two}
use Rattle.promises.specs.Standing.{hands_out}
use Rattle.promises.proofs.Pieces.{fragment_by}

pub refused_one : (why : Refusal) → says_one (refused why) ≡ false
refused_one why = ap (λ (b : Bool). both b (eqb (get_or (numbers_of (refused why)) 0 0) 1)) (ne_eqb (number_of why) 0 (refused_not_done why))

pub refused_two : (why : Refusal) → says_two (refused why) ≡ false
refused_two why = ap (λ (b : Bool). both b (eqb (get_or (numbers_of (refused why)) 0 0) 2)) (ne_eqb (number_of why) 0 (refused_not_done why))

refused_hands : (why : Refusal) → hands_out (refused why) ≡ false
refused_hands why = ap (λ (b : Bool). pick b true (says_two (refused why))) (refused_one why) ∙ refused_two why

-- the answer is one of a reply's
pub record Says (a : Answer) : Type 0 where
  pub reply : Result Arrived Refusal
  pub is : a ≡ answer_of reply

pub one_stored : (a : Answer) → a ≡ stored → says_one a ≡ true
one_stored a e = ap says_one e

pub one_not : (a : Answer) → Says a → (a ≡ stored → ⊥) → says_one a ≡ false
one_not a s not = go s.reply s.is
  where
    go : (r : Result Arrived Refusal) → a ≡ answer_of r → says_one a ≡ false
    go (Ok arrived.Passed) e = ap says_one e
    go (Ok arrived.Stored) e = absurd (not e)
    go (Err why) e = ap says_one e ∙ refused_one why

module _ (s : Settings) (a : Arrival) (datagram : List ℕ) (x : State) where
  pub unsequenced_says : (group : Group) → Says (arrives_unsequenced s a group datagram x).answer
  unsequenced_says group =
      behind_has (gate_of (fits s (lent.Store (length x.store))) (sound x.peer)) x (unsequenced_sound s a group datagram x)
      (λ (o : Outcome State). Says o.answer) (λ why. record { reply = Err why; is = refl })
      (λ e. behind_has (arrival_gate send_unsequenced a s x.peer.standing (length datagram)) x _ (λ (o : Outcome State). Says o.answer)
      (λ why. record { reply = Err why; is = refl })
      (λ own. record { reply = reply_of (judged_on s group x.peer).fate; is = refl }))

  pub reliable_says : Says (arrives_reliable s a datagram x).answer
  reliable_says =
      behind_has (gate_of (fits s (lent.Store (length x.store))) (sound x.peer)) x (reliable_sound s a datagram x)
      (λ (o : Outcome State). Says o.answer) (λ why. record { reply = Err why; is = refl })
      (λ e. behind_has (arrival_gate send_reliable a s x.peer.standing (length datagram)) x _ (λ (o : Outcome State). Says o.answer)
      (λ why. record { reply = Err why; is = refl })
      (λ own. record { reply = reply_of (fate_on s a x.peer); is = refl }))

pub fragment_says : (s : Settings) (a : Piece) (datagram : List ℕ) (x : State) → Says (arrives_fragment s a datagram x).answer
fragment_says s a datagram x =
    fragment_by s a datagram x (λ (o : Outcome State). Says o.answer) (λ why. record { reply = Err why; is = refl })
    (record { reply = pieces.reply_of (pieces.fate_on s a x.peer); is = refl })

-- a receive that hands nothing out
pub receive_none : (s : Settings) (p : Peer) → ((channel cell long : ℕ) → HandedOut (receives s p).answer channel cell long → ⊥)
    → hands_out (receives s p).answer ≡ false
receive_none s p =
    behind_has (gate_of (fits s lent.Nothing) (sound p)) p (receives_sound p)
    (λ (o : Outcome Peer). ((channel cell long : ℕ) → HandedOut o.answer channel cell long → ⊥) → hands_out o.answer ≡ false)
    (λ why not. refused_hands why) (λ e. go (first (in_items p.lists.dispatched)))
  where
    told : (i : Incoming) (n : ℕ) (b : Bool)
        → HandedOut (receiving.answer_of (Ok (Some (pick b (vr.Block i.channel n i.length) (vr.Packet i.channel n i.length))))) i.channel n i.length
    told i n true = inr refl
    told i n false = inl refl

    go : (f : Option ℕ) → ((channel cell long : ℕ) → HandedOut (receives_from f p).answer channel cell long → ⊥) → hands_out (receives_from f p).answer ≡ false
    go None not = refl
    go (Some n) not = let i = get_or p.incoming n no_incoming in absurd (not i.channel n i.length (told i n (is_block i)))
