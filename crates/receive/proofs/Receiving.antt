-- Receive comes out as the rule says, where the gate is open: the parts that the code makes are the rule's, whatever made them.
-- The argument: each part is given by its equation, so the record made of them is the rule's record; the head exists in a sound record.
use Rattle.std.specs.Prelude.{Result, Ok, Option, None, Some}
use Rattle.std.proofs.Common.{◌≡◌, ℕ, get_or, refl, ap, ◌∙◌}
use Rattle.numbers.specs.declared.refusals.Refusal.{Refusal}
use Rattle.record.specs.Lists.{incoming, in_items}
use Rattle.cells.specs.Runs.{first}
use Rattle.record.specs.Fresh.{no_incoming}
use Rattle.record.specs.declared.groups.Waiting.{Waiting}
use Rattle.record.specs.declared.groups.Incoming.{Incoming}
use Rattle.record.specs.declared.groups.Marks.{Marks}
use Rattle.record.specs.Updates.{in_shorter}
use Rattle.peer.specs.Outcome.{Came}
use Rattle.peer.specs.Updates.{with_lists, with_waiting, with_marks}
use Rattle.peer.specs.declared.settings.Settings.{Settings}
use Rattle.peer.specs.declared.Peer.{Peer}
use Rattle.peer.specs.declared.gate.Lent.TheVariants as lent
use Rattle.peer.proofs.Gates.{came_open, AtGate}
use Rattle.queues.specs.Queues.{put_dispatched}
use Rattle.receive.specs.Calls.{answer_of, without_first, lowered, cleared_by, received_of, receives_from, receives_sound, receives}
use Rattle.receive.specs.declared.Received.{Received}

-- ws, g and f are what the code answered
module _ (s : Settings) (p : Peer)
    (g : AtGate s lent.Nothing p) (opens : g.gate ≡ Ok tt)
    (f : Option ℕ) (is : f ≡ first (in_items p.lists.dispatched)) where
  came : (r : Result (Option Received) Refusal) (y : Peer) → Came answer_of (receives_from f p) r y → Came answer_of (receives s p) r y
  came r y c = came_open g p (receives_sound p) answer_of r y opens (rw is at c)

  pub receive_empty : f ≡ None → Came answer_of (receives s p) (Ok None) p
  receive_empty z = came (Ok None) p (rw z (record { answer = refl; after = refl }))

  module _ (n : ℕ) (z : f ≡ Some n) where
    -- on the lent record: dispatched loses its head (q), then the waiting total is written (r), then the marks (u)
    pub receive_lent : (q r u : Peer) (slot : Incoming) (w x : Waiting) (m o : Marks) (y : Received)
        → slot ≡ get_or p.incoming n no_incoming → q ≡ put_dispatched p (in_shorter p.lists.dispatched) → w ≡ q.waiting → x ≡ lowered w slot.length
        → r ≡ with_waiting q x → m ≡ r.marks → o ≡ cleared_by slot m → u ≡ with_marks r o → y ≡ received_of slot n
        → Came answer_of (receives s p) (Ok (Some y)) u
    receive_lent q r u slot w x m o y i a b d k e t h v =
        came (Ok (Some y)) u
        (rw z (record {
          answer = ap (λ (b : Received). answer_of (Ok (Some b))) (v ∙ ap (λ (j : Incoming). received_of j n) i);
          after =
              h
              ∙ ap (with_marks r) (t ∙ ap (cleared_by slot) e)
              ∙ ap (λ (j : Peer). with_marks j (cleared_by slot j.marks))
              (k
              ∙ ap (with_waiting q) (d ∙ ap (λ (j : Waiting). lowered j slot.length) b)
              ∙ ap (λ (j : Peer). with_waiting j (lowered j.waiting slot.length)) a)
              ∙ ap (λ (j : Incoming). with_marks (with_waiting (with_lists p (without_first p.lists)) (lowered p.waiting j.length)) (cleared_by j p.marks)) i;
        }))
