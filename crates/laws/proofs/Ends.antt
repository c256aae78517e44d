-- Pieces that go to one list stand at its end in the order in which they were set up, and the other lists stay.
-- The argument: one piece at a time; a sound record with a free slot has no full list, so the push goes through.
use Rattle.std.specs.Prelude.{Option}
use Prim.Native.Nat.{ℕ, ◌+◌, ◌<◌}
use mathlib.Core.Path.{◌≡◌, refl, ap, sym, ◌∙◌}
use mathlib.Core.Bool.{Bool, true, false, not}
use mathlib.Core.List.{List, [], ◌∷◌, ◌++◌, append_assoc, append-nil}
use lib.ListN.{length}
use borrow.Author.Tests.{lt-ltb}
use Rattle.numbers.specs.Pick.{pick}
use Rattle.cells.specs.Runs.{pushed}
use Rattle.record.specs.Lists.{outgoing, out_items}
use Rattle.record.specs.declared.outgoing.OutList.{OutList}
use Rattle.record.proofs.Views.{out_items_keep}
use Rattle.record.specs.Damage.{used_out}
use Rattle.record.specs.Updates.{longer}
use Rattle.record.specs.declared.groups.Lists.{Lists}
use Rattle.peer.specs.declared.Peer.{Peer}
use Rattle.peer.proofs.Clauses.{sound_clauses}
use Rattle.outbox.specs.Pieces.{to_reliable, lists_with}
use Rattle.outbox.specs.declared.pieces.Piece.{Piece}
use Rattle.setup.specs.Queueing.{queued, queued_all}
use Rattle.setup.specs.Taking.{Ready, taken, taken_in}
use Rattle.setup.proofs.Joining.{first_room, last_room, slot_room}
use Rattle.setup.proofs.Taking.{queued-lists}
use Rattle.setup.proofs.Taking.{step as setup}
use Rattle.laws.specs.Done.{joined}

-- all of them go to the one list
abbrev pub AllTo : Bool → List Piece → Type 0
AllTo b [] = Unit {0}
AllTo b (x ∷ xs) = (to_reliable x ≡ b) × AllTo b xs

-- what the lists are then
pub record Ends (b : Bool) (l after : Lists) (slots : List ℕ) : Type 0 where
  pub ends : out_items (joined b after) ≡ out_items (joined b l) ++ slots
  pub sent : after.sent ≡ l.sent
  pub other : joined (not b) after ≡ joined (not b) l
  pub dispatched : after.dispatched ≡ l.dispatched

longer_items : (l : OutList) (s : ℕ) → length (out_items l) < outgoing → out_items (longer l s) ≡ out_items l ++ (s ∷ [])
longer_items l s h = out_items_keep l (pushed outgoing (out_items l) s) ∙ ap (λ (c : Bool). pick c (out_items l ++ (s ∷ [])) (out_items l)) (lt-ltb (length (out_items l)) outgoing h)

one_ends : (b : Bool) (x : Piece) (l : Lists) (s : ℕ) → to_reliable x ≡ b → length (used_out l) < outgoing → Ends b l (lists_with l x s) (s ∷ [])
one_ends true x l s e h =
    rw e (record { ends = longer_items l.send_reliable s (first_room l s x h); sent = refl; other = refl; dispatched = refl })
one_ends false x l s e h =
    rw e (record { ends = longer_items l.outgoing s (last_room l s x h); sent = refl; other = refl; dispatched = refl })

pub all_ends : (b : Bool) (xs : List Piece) (p : Peer) → Ready xs p → AllTo b xs → Ends b p.lists (queued_all xs p).lists (taken xs p)
unfolding queued_all taken
all_ends b [] p r to = record { ends = sym (append-nil (out_items (joined b p.lists))); sent = refl; other = refl; dispatched = refl }
all_ends b (x ∷ xs) p r to =
    let t = setup x xs p r in
    let s = t.slot in
    let q = queued x p in
    let one : Ends b p.lists q.lists (s ∷ []) =
    rw (queued-lists x p s t.low) (one_ends b x p.lists s to.0 (slot_room x p s t.low (sound_clauses p r.good))) in
    let rest = all_ends b xs q t.next to.1 in
    rw (ap (λ (f : Option ℕ). taken_in f (taken xs q)) t.low)
    (record {
      ends =
          rest.ends
          ∙ ap (λ (l : List ℕ). l ++ taken xs q) one.ends
          ∙ append_assoc (out_items (joined b p.lists)) (s ∷ []) (taken xs q);
      sent = rest.sent ∙ one.sent;
      other = rest.other ∙ one.other;
      dispatched = rest.dispatched ∙ one.dispatched;
    })
