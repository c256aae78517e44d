-- A setup or a ping on the lent record comes out as its rule says: what it leaves there is what the outbox with its lists makes.
-- The argument: the outbox and the record that the code answered, the lists put to it, are those of Setups; each is given by its equation.
use Prim.Native.Nat.{ℕ, ◌≤◌}
use mathlib.Core.Path.{◌≡◌, refl, ap, sym, subst, ◌∙◌}
use mathlib.Core.List.{List}
use Rattle.std.specs.Prelude.{⊤, Result, Ok}
use Rattle.numbers.specs.declared.refusals.Refusal.{Refusal}
use Rattle.peer.specs.Outcome.{Came, finished}
use Rattle.peer.specs.Gate.{behind, on_record}
use Rattle.peer.specs.Calls.{answer_of}
use Rattle.peer.specs.declared.settings.Settings.{Settings}
use Rattle.peer.specs.declared.Peer.{Peer}
use Rattle.peer.specs.declared.gate.Lent.TheVariants.{Nothing}
use Rattle.peer.proofs.Gates.{AtGate}
use Rattle.outbox.specs.Counting.{numbered}
use Rattle.outbox.specs.CodeOutboxes.{queueing, outbox_of}
use Rattle.outbox.specs.CodePlaces.{in_lists, queued_by, closed}
use Rattle.outbox.specs.declared.pieces.Piece.{Piece}
use Rattle.outbox.specs.CodeOutboxes.{Outbox}
use Rattle.outbox.specs.CodeOutboxes.{Queued}
use Rattle.outbox.specs.declared.Outbox as lent
use Rattle.outbox.proofs.PlaceLaws.{Sets}
use Rattle.setup.specs.Queueing.{room, queued}
use Rattle.setup.proofs.Setups.{leaves, one_left}

-- a piece set up, then the outbox's numbers back
pub left_is : (p y z : Peer) (channel : ℕ) (r : lent.Outbox) (after : List ℕ) (q : Queued) → in_lists r after q.outbox.lists ≡ q.outbox → y ≡ queued_by p q
    → z ≡ closed y channel r → z ≡ leaves p q.outbox (numbered p.channels channel q.outbox.counters) q.at q.slot
left_is p y z channel r after q re ye ze =
    ze
    ∙ ap (λ (y : Peer). closed y channel r) ye
    ∙ ap (λ (o : Outbox). leaves p o (numbered p.channels channel o.counters) q.at q.slot) re

-- a call that queues one piece behind a gate of its own, which may answers: o with its marks is what the code opened, y the record with the piece,
-- z with the numbers back
pub lent_left : (s : Settings) (x : Piece) (p : Peer) (g : AtGate s Nothing p) → g.gate ≡ Ok tt → (rule may : Result ⊤ Refusal) → may ≡ rule → (rule ≡ Ok tt → 1 ≤ room p)
    → may ≡ Ok tt → (o : lent.Outbox) (marks : List ℕ)
    → in_lists o marks p.lists ≡ outbox_of p.totals p.waiting p.flow p.unsequenced p.channels x.command.channel p.lists
    → (r : lent.Outbox) (after : List ℕ) (y z : Peer) → Sets p o marks x r after y → z ≡ closed y x.command.channel r
    → Came answer_of (on_record s p (behind rule p (finished (queued x p)))) (Ok tt) z
lent_left s x p g passed rule may me some opened o marks oe r after y z made ze =
    let q = queueing (in_lists o marks p.lists) x in
    subst (λ (z : Peer). Came answer_of (on_record s p (behind rule p (finished (queued x p)))) (Ok tt) z)
    (sym (left_is p y z x.command.channel r after q made.0 made.1 ze))
    (one_left s x p g passed rule may me some opened (in_lists o marks p.lists) oe q refl
    (numbered p.channels x.command.channel q.outbox.counters) refl)
