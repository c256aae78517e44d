-- An acknowledgement comes out as the rule says, where the gate is open: the parts that the code makes are the rule's, whatever made them.
-- The argument: in a sound record the searches by looks are the rule's, and what is read at an index is what the slot holds; so each part is
-- given by its equation, and the record made of them is the rule's record.
use Rattle.std.specs.Prelude.{None, Result, Ok, Some}
use Rattle.std.proofs.Common.{◌≡◌, ℕ, true, false, Option, List, map, length, sym, refl, ap, ◌∙◌}
use lib.ListN.{length-map}
use Rattle.numbers.specs.declared.refusals.Refusal.{Refusal}
use Rattle.cells.specs.Free.{exist}
use Rattle.record.specs.Lists.{outgoing}
use Rattle.record.specs.Damage.{used_out}
use Rattle.peer.specs.Outcome.{Came}
use Rattle.peer.specs.declared.settings.Settings.{Settings}
use Rattle.peer.specs.declared.Peer.{Peer}
use Rattle.peer.specs.declared.gate.Lent.TheVariants as lent
use Rattle.peer.proofs.Clauses.{sound_clauses}
use Rattle.peer.proofs.Gates.{came_open, open_sound, AtGate}
use Rattle.acknowledge.specs.Removal.{spot_by, spot_of}
use Rattle.acknowledge.specs.CodeSearches.{look_of, at}
use Rattle.acknowledge.specs.declared.removal.Seen.{Seen}
use Rattle.acknowledge.specs.declared.removal.Spot.{Spot}
use Rattle.acknowledge.proofs.RemovalLaws.{Placed, spot_by_lem, spot_placed}
use Rattle.acknowledge.specs.Calls.{answer_of, heard_in, heard_at, acknowledges_by, acknowledges_sound, acknowledges}
use Rattle.acknowledge.specs.declared.Event.{Event}
use Rattle.acknowledge.specs.declared.Event.TheVariants as vr

-- ws, g and t are what the code answered
module _ (s : Settings) (channel number sent clock : ℕ) (p : Peer)
    (g : AtGate s lent.Nothing p) (opens : g.gate ≡ Ok tt)
    (t : Option ℕ) (is : t ≡ heard_in p.standing.state clock sent) where
  came : (r : Result Event Refusal) (y : Peer) → Came answer_of (acknowledges_by t channel number clock p) r y → Came answer_of (acknowledges s channel number sent clock p) r y
  came r y c = came_open g p (acknowledges_sound channel number sent clock p) answer_of r y opens (rw is at c)

  pub passed_over : t ≡ None → Came answer_of (acknowledges s channel number sent clock p) (Ok vr.Passed) p
  passed_over z = came (Ok vr.Passed) p (rw z (record { answer = refl; after = refl }))

  named : exist outgoing (used_out p.lists) ≡ true
  named = (sound_clauses p (open_sound g opens)).exists

  -- the searches, by the looks at the whole pool
  module _ (sample : ℕ) (z : t ≡ Some sample) (looked queued : List Seen) (n : length looked ≡ outgoing) (w : Option Spot)
      (lq : looked ≡ map (look_of true number channel) p.outgoing) (qq : queued ≡ map (look_of false number channel) p.outgoing)
      (wq : w ≡ spot_by (at looked) (at queued) p.lists) where
    spot_is : w ≡ spot_of p.outgoing number channel p.lists
    spot_is =
        let size : length p.outgoing ≡ outgoing = sym (length-map p.outgoing (look_of true number channel)) ∙ ap length (sym lq) ∙ n in
        wq ∙ spot_by_lem p.lists named p.outgoing number channel size looked queued lq qq

    placed : Placed w p.lists
    placed = rw wq (spot_placed (at looked) (at queued) p.lists)

    -- what it comes to at that spot
    pub heard_by : (reply : Result Event Refusal) (y : Peer) → Came answer_of (heard_at w sample clock p) reply y → Came answer_of (acknowledges s channel number sent clock p) reply y
    heard_by reply y c = came reply y (rw z (rw spot_is at c))
