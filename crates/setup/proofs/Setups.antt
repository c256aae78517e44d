-- A setup or a ping comes out as its rule says: the parts that the code makes are the rule's, whatever made them.
-- The argument: each part is given by its equation; behind both gates the record made of them is the one that Stored speaks of.
use Prim.Native.Nat.{ℕ, ◌≤◌}
use mathlib.Core.Path.{◌≡◌, refl, sym, ◌∙◌}
use mathlib.Core.List.{List}
use lib.ListN.{set}
use borrow.Author.Tests.{leb-true}
use Rattle.std.specs.Prelude.{⊤, Result, Ok, Err}
use Rattle.numbers.specs.declared.refusals.Refusal.{Refusal}
use Rattle.record.specs.Lists.{outgoing}
use Rattle.record.specs.Updates.{with_outgoing_total, with_reliable, with_outgoing_group, with_queued}
use Rattle.record.specs.declared.groups.Channel.{Channel}
use Rattle.record.specs.declared.groups.Outgoing.{Outgoing}
use Rattle.peer.specs.Outcome.{Outcome, Came, finished}
use Rattle.peer.specs.Gate.{behind, on_record}
use Rattle.peer.specs.Calls.{answer_of}
use Rattle.peer.specs.Updates.{renewed}
use Rattle.peer.specs.declared.settings.Settings.{Settings}
use Rattle.peer.specs.declared.Peer.{Peer}
use Rattle.peer.specs.declared.gate.Lent.TheVariants.{Nothing}
use Rattle.peer.proofs.Gates.{behind_shut, behind_open, came_open, AtGate}
use Rattle.outbox.specs.Counting.{numbered}
use Rattle.outbox.specs.CodeOutboxes.{queueing, outbox_of}
use Rattle.outbox.specs.declared.pieces.Piece.{Piece}
use Rattle.outbox.specs.CodeOutboxes.{Outbox}
use Rattle.outbox.specs.CodeOutboxes.{Queued}
use Rattle.setup.specs.Queueing.{room, queued}
use Rattle.setup.specs.Calls.{setup_gate}
use Rattle.setup.proofs.Sound.{setup_open}
use Rattle.setup.proofs.Stored.{one_stored}

-- the record as a call leaves it: an outbox's numbers, lists and channels, and the pool with another slot
abbrev pub leaves : Peer → Outbox → List Channel → ℕ → Outgoing → Peer
leaves p o cs at slot =
    renewed p p.standing (with_outgoing_total p.totals o.total) p.times p.loss (with_reliable p.flow o.counters.own) o.lists
    (with_outgoing_group p.unsequenced o.counters.group) (with_queued p.waiting o.queued) cs (set p.outgoing at slot)

-- a call that queues one piece behind a gate of its own: g, may, o and q are what the code answered, in this order
module _ (s : Settings) (x : Piece) (p : Peer) (g : AtGate s Nothing p) (passed : g.gate ≡ Ok tt) (rule may : Result ⊤ Refusal) (me : may ≡ rule) where
  abbrev rest : Outcome Peer
  rest = behind rule p (finished (queued x p))

  pub one_shut : (why : Refusal) → may ≡ Err why → Came answer_of (on_record s p rest) (Err why) p
  one_shut why q =
      came_open g p rest answer_of (Err why) p passed
      (rw (behind_shut rule p (finished (queued x p)) why (sym me ∙ q)) (record { answer = refl; after = refl }))

  module _ (some : rule ≡ Ok tt → 1 ≤ room p) (opened : may ≡ Ok tt) (o : Outbox)
      (oe : o ≡ outbox_of p.totals p.waiting p.flow p.unsequenced p.channels x.command.channel p.lists) (q : Queued) (qe : q ≡ queueing o x) where
    pub one_left : (cs : List Channel) → cs ≡ numbered p.channels x.command.channel q.outbox.counters
        → Came answer_of (on_record s p rest) (Ok tt) (leaves p q.outbox cs q.at q.slot)
    one_left cs ce =
        came_open g p rest answer_of (Ok tt) _ passed
        (rw (behind_open rule p (finished (queued x p)) (sym me ∙ opened))
        (record { answer = refl; after = rw ce (sym (one_stored x p (some (sym me ∙ opened)) o oe q qe)) }))

-- setup's own gate is open only where a slot is free
pub setup_some : (x : Piece) (p : Peer) → setup_gate x p.standing.channels (room p) ≡ Ok tt → 1 ≤ room p
setup_some x p e = leb-true 1 (room p) (setup_open x p e).1
