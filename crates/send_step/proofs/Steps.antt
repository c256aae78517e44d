-- A step comes out as the rule says, where the gate is open: the parts that the code makes are the rule's, whatever made them.
-- The argument: each part is given by its equation, so the record made of them is the rule's record.
use Rattle.std.specs.Prelude.{Result, Ok, Option, Some, None}
use Rattle.std.proofs.Common.{◌≡◌, ℕ, set, sym, refl, ap, ◌∙◌}
use Rattle.numbers.specs.declared.refusals.Refusal.{Refusal}
use Rattle.record.specs.Lists.{outgoing, out_items}
use Rattle.cells.specs.Runs.{first}
use Rattle.record.specs.declared.groups.Times.{Times}
use Rattle.record.specs.declared.groups.Loss.{Loss}
use Rattle.record.specs.declared.groups.Flow.{Flow}
use Rattle.record.specs.declared.groups.Lists.{Lists}
use Rattle.record.specs.declared.groups.Outgoing.{Outgoing}
use Rattle.peer.specs.Outcome.{Came}
use Rattle.peer.specs.Updates.{renewed}
use Rattle.peer.specs.declared.settings.Settings.{Settings}
use Rattle.peer.specs.declared.Peer.{Peer}
use Rattle.peer.specs.declared.gate.Lent.TheVariants as lent
use Rattle.peer.proofs.Gates.{came_open, open_sound, AtGate}
use Rattle.send_step.specs.Steps.{list_of, lists_sent, packet_sent, flow_sent, times_sent, head, sent_as}
use Rattle.send_step.specs.Calls.{answer_of, sent, steps, steps_from, steps_sound, Named}
use Rattle.send_step.specs.declared.heads.Queue.{Queue}
use Rattle.send_step.proofs.Named.{head_named}

-- ws, g and f are what the code answered
module _ (s : Settings) (q : Queue) (time : ℕ) (p : Peer)
    (g : AtGate s lent.Nothing p) (opens : g.gate ≡ Ok tt)
    (f : Option ℕ) (is : f ≡ first (out_items (list_of q p.lists))) where
  came : (r : Result (Option Outgoing) Refusal) (y : Peer) → Came answer_of (steps_from f q time p) r y → Came answer_of (steps s q time p) r y
  came r y c = came_open g p (steps_sound q time p) answer_of r y opens (rw is at c)

  pub step_empty : f ≡ None → Came answer_of (steps s q time p) (Ok None) p
  step_empty z = came (Ok None) p (rw z (record { answer = refl; after = refl }))

  module _ (n : ℕ) (z : f ≡ Some n) where
    module _ (o : Outgoing) (a : o ≡ head p n time) where
      pub step_named : Named (Ok (Some o))
      step_named = rw a (head_named p (open_sound g opens) q n (sym is ∙ z) time)

      pub step_slot : (times : Times) (loss : Loss) (flow : Flow) (lists : Lists)
          → times ≡ times_sent p.times (out_items p.lists.sent) o → loss ≡ packet_sent p.loss → flow ≡ flow_sent p.flow o
          → lists ≡ lists_sent q p.lists n o
          → Came answer_of (steps s q time p) (Ok (Some o))
          (renewed p p.standing p.totals times loss flow lists p.unsequenced p.waiting p.channels (set p.outgoing n o))
      unfolding sent_as
      step_slot times loss flow lists t c w l = came (Ok (Some o)) _ (rw z (record { answer = ap sent a; after = rw (t, c, w, l, a) }))
