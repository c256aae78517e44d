-- The calls that queue: setup, ping and send set up pieces in turn that all go to one list, or change nothing.
-- The argument: what is behind their gates is fit to be set up, and there is room for it.
use Prim.Native.Nat.{ℕ}
use mathlib.Core.Path.{◌≡◌, refl, ap, subst, ◌∙◌}
use mathlib.Core.Bool.{Bool, true}
use mathlib.Core.List.{List, [], ◌∷◌}
use lib.ListN.{length}
use borrow.Author.Tests.{leb-true}
use Rattle.std.specs.Prelude.{⊤, Result}
use Rattle.numbers.proofs.BoolLaws.{both_true}
use Rattle.numbers.specs.declared.refusals.Refusal.{Refusal}
use Rattle.command.specs.Rows.{names_fields}
use Rattle.record.specs.Channels.{on_channel}
use Rattle.record.proofs.ChannelLaws.{itself_on}
use Rattle.peer.specs.Damage.{sound}
use Rattle.peer.specs.Gate.{fits, gate_of}
use Rattle.peer.specs.Outcome.{Outcome, finished}
use Rattle.peer.specs.Sounds.{Whole}
use Rattle.peer.specs.declared.settings.Settings.{Settings}
use Rattle.peer.specs.declared.Peer.{Peer}
use Rattle.peer.specs.declared.gate.Lent.TheVariants as lent
use Rattle.peer.proofs.Gates.{sound_open, behind_has, behind_open}
use Rattle.outbox.specs.Pieces.{to_reliable}
use Rattle.outbox.specs.declared.pieces.Piece.{Piece}
use Rattle.setup.specs.Queueing.{room, queued, queued_all}
use Rattle.setup.specs.Calls.{setup_gate, sets_up_sound, sets_up}
use Rattle.setup.specs.Taking.{all_fit, Ready, taken}
use Rattle.setup.proofs.Sound.{setup_open}
use Rattle.packets.specs.Refusals.{send_gate, queue_gate}
use Rattle.send.specs.Calls.{fragment, commands, queues_all, sends_sound, sends}
use Rattle.setup.specs.Pings.{ping_piece, ping_gate, pings_sound, pings}
use Rattle.setup.proofs.Pings.{ping_some}
use Rattle.laws.specs.Done.{Sent, reliably}
use Rattle.laws.proofs.Ends.{Ends, all_ends}
use Rattle.laws.proofs.Sends.{send_done}

-- pieces that are set up in turn, and all join one list
pub record Sets (p q : Peer) : Type 0 where
  pub pieces : List Piece
  pub ready : Ready pieces p
  pub to : Bool
  pub ends : Ends to p.lists (queued_all pieces p).lists (taken pieces p)
  pub is : q ≡ queued_all pieces p

pub data Queues (p q : Peer) : Type 0 where
  none : q ≡ p → Queues p q
  some : Sets p q → Queues p q

abbrev gate : Settings → Peer → Result ⊤ Refusal
gate s p = gate_of (fits s lent.Nothing) (sound p)

abbrev After : Peer → Outcome Peer → Type 0
After p o = Queues p o.after

-- ---- one piece
one_fit : (x : Piece) (count : ℕ) → on_channel x.command.channel count ≡ true → names_fields x.command ≡ true → all_fit count (x ∷ []) ≡ true
unfolding all_fit
one_fit x count on names = both_true _ true (both_true (on_channel x.command.channel count) (names_fields x.command) on names) refl

one_sets : (x : Piece) (p : Peer) → Ready (x ∷ []) p → Sets p (queued x p)
unfolding queued_all
one_sets x p r = record { pieces = x ∷ []; ready = r; to = to_reliable x; ends = all_ends (to_reliable x) (x ∷ []) p r (refl, tt); is = refl }

pub setup_queues : (s : Settings) (x : Piece) (p : Peer) → Whole p → Queues p (sets_up s x p).after
setup_queues s x p whole =
    behind_has (gate s p) p (sets_up_sound x p) (After p) (λ why. none refl)
    (λ e. behind_has (setup_gate x p.standing.channels (room p)) p (finished (queued x p)) (After p) (λ why. none refl)
    (λ own.
    let f = setup_open x p own in
    some
    (one_sets x p
    (record {
      whole = whole;
      good = sound_open (fits s lent.Nothing) (sound p) e;
      fit = one_fit x p.standing.channels f.0 f.2;
      few = leb-true 1 (room p) f.1;
    }))))

pub ping_queues : (s : Settings) (p : Peer) → Whole p → Queues p (pings s p).after
ping_queues s p whole =
    behind_has (gate s p) p (pings_sound p) (After p) (λ why. none refl)
    (λ e. behind_has (ping_gate p.standing (room p)) p (finished (queued ping_piece p)) (After p) (λ why. none refl)
    (λ own.
    some
    (one_sets ping_piece p
    (record {
      whole = whole;
      good = sound_open (fits s lent.Nothing) (sound p) e;
      fit = one_fit ping_piece p.standing.channels (itself_on p.standing.channels) refl;
      few = ping_some p own;
    }))))

-- ---- a send
module _ (s : Settings) (channel long flags : ℕ) (p : Peer) (whole : Whole p) where
  abbrev xs : List Piece
  xs = commands (fragment s p) channel long flags p

  sent_sets : sends s channel long flags p ≡ finished (queued_all xs p) → Sets p (queued_all xs p)
  sent_sets e =
      let is : (sends s channel long flags p).after ≡ queued_all xs p = ap (λ (o : Outcome Peer). o.after) e in
      let d : Sent s xs p (queued_all xs p) =
      subst (Sent s xs p) is (send_done s channel long flags p whole (ap (λ (o : Outcome Peer). o.answer.number) e)) in
      record {
        pieces = xs;
        ready = d.ready;
        to = reliably xs;
        ends = record { ends = d.ends; sent = d.sent; other = d.other; dispatched = d.dispatched };
        is = refl;
      }

  pub send_queues : Queues p (sends s channel long flags p).after
  send_queues =
      behind_has (gate s p) p (sends_sound s channel long flags p) (After p) (λ why. none refl)
      (λ a. behind_has (send_gate s channel long p.standing) p (queues_all xs p) (After p) (λ why. none refl)
      (λ b. behind_has (queue_gate (length xs) (room p)) p (finished (queued_all xs p)) (After p) (λ why. none refl)
      (λ c.
      some
      (sent_sets
      (behind_open (gate s p) p (sends_sound s channel long flags p) a
      ∙ behind_open (send_gate s channel long p.standing) p (queues_all xs p) b
      ∙ behind_open (queue_gate (length xs) (room p)) p (finished (queued_all xs p)) c)))))
