-- The laws of the removal. The turns of the two loops: what each search makes of every slot, and where it finds the command.
-- Then what the owner needs: the searches by looks are the rule's, and the slot found, and sent's head then, exist.
-- The argument: what is left of a list is the slot at place k and what is left after it; what the search makes of it picks the rule's case.
-- A search finds a place of its list, and the lists of a sound record name slots that exist: there the looks are the rule's.
use Rattle.std.proofs.Common.{◌≡◌, ℕ, ◌+◌, ◌<◌, ◌≤◌, Bool, true, false, Option, Some, None, ltb, List, [], ◌∷◌, ◌++◌, map, length, get_or, take, drop, sym, refl, ◌∙◌, arith, ltb-true}
use lib.ListN.{length-map, get_or-map}
use Rattle.numbers.proofs.BoolLaws.{both_left, both_right}
use Rattle.cells.specs.Free.{exist}
use Rattle.cells.proofs.Views.{at_any, part_step, part_end}
use Rattle.record.specs.Lists.{outgoing, out_items}
use Rattle.record.proofs.Keeps.{exist_append}
use Rattle.record.specs.Fresh.{no_outgoing}
use Rattle.record.specs.Damage.{used_out}
use Rattle.record.specs.declared.groups.Lists.{Lists}
use Rattle.record.specs.declared.groups.Outgoing.{Outgoing}
use Rattle.queues.specs.Queues.{out_of}
use Rattle.queues.specs.declared.Out.{Out}
use Rattle.queues.specs.declared.Out.TheVariants as out
use Rattle.acknowledge.specs.Removal.{found_by, seek, or_else, spot_by, spot_of}
use Rattle.acknowledge.specs.CodeSearches.{look_of, at}
use Rattle.acknowledge.specs.declared.removal.Seen.{Seen}
use Rattle.acknowledge.specs.declared.removal.Seen.TheVariants as seen
use Rattle.acknowledge.specs.declared.removal.Spot.{Spot}

-- ---- the loops
-- whatever f made of every slot
module _ (f : Outgoing → Seen) (slots : List Outgoing) (m : ℕ) (h : m < length slots) where
  pub made_at : at (map f slots) m ≡ f (get_or slots m no_outgoing)
  made_at =
      let l = length-map slots f in
      at_any (map f slots) m seen.GoesOn (f no_outgoing) (omega arith) ∙ get_or-map f slots m no_outgoing

-- v is what the search makes of the slot at place k
module _ (f : ℕ → Seen) (xs : List ℕ) (n k : ℕ) (e : n ≤ length xs) (h : k < n) (v : Seen) (is : v ≡ f (get_or xs k 0)) where
  seek_step : seek f k (drop k (take n xs)) ≡ found_by v k (seek f (k + 1) (drop (k + 1) (take n xs)))
  unfolding seek
  seek_step = rw (part_step xs k n 0 h (omega arith), is)

  pub seek_found : v ≡ seen.Found → seek f k (drop k (take n xs)) ≡ Some k
  seek_found q = seek_step ∙ rw q

  pub seek_ends : v ≡ seen.Ends → seek f k (drop k (take n xs)) ≡ None
  seek_ends q = seek_step ∙ rw q

  pub seek_goes_on : v ≡ seen.GoesOn → seek f k (drop k (take n xs)) ≡ seek f (k + 1) (drop (k + 1) (take n xs))
  seek_goes_on q = seek_step ∙ rw q

pub seek_end : (f : ℕ → Seen) (xs : List ℕ) (n k : ℕ) → n ≤ k → seek f k (drop k (take n xs)) ≡ None
unfolding seek
seek_end f xs n k h = rw (part_end xs k n h)

-- ---- the searches by looks
seek_same : (f g : ℕ → Seen) (n : ℕ) → ((s : ℕ) → s < n → f s ≡ g s) → (xs : List ℕ) → exist n xs ≡ true → (k : ℕ) → seek f k xs ≡ seek g k xs
unfolding seek exist
seek_same f g n same [] e k = refl
seek_same f g n same (x ∷ xs) e k =
    rw (
      same x (ltb-true x n (both_left (ltb x n) (exist n xs) e)),
      seek_same f g n same xs (both_right (ltb x n) (exist n xs) e) (k + 1),
    )

-- either search by looks is the search by the rule
searched : (slots : List Outgoing) (number channel : ℕ) → length slots ≡ outgoing → (sent : Bool) (xs : List ℕ) → exist outgoing xs ≡ true
    → seek (at (map (look_of sent number channel) slots)) 0 xs ≡ seek (λ (s : ℕ). look_of sent number channel (get_or slots s no_outgoing)) 0 xs
searched slots number channel n sent xs e =
    let f = look_of sent number channel in
    seek_same (at (map f slots)) (λ (s : ℕ). f (get_or slots s no_outgoing)) outgoing (λ s h. made_at f slots s (omega arith)) xs e 0

-- a search finds a place of its list
seek_within : (f : ℕ → Seen) (xs : List ℕ) (k i : ℕ) → seek f k xs ≡ Some i → i < k + length xs
unfolding seek
seek_within f [] k i e = let z : ◌≡◌ {A = ℕ} 0 1 = cc in absurd (omega arith)
seek_within f (x ∷ xs) k i e = go (f x) e (seek_within f xs (k + 1) i)
  where
    go : (v : Seen) → found_by v k (seek f (k + 1) xs) ≡ Some i → (seek f (k + 1) xs ≡ Some i → i < k + 1 + length xs) → i < k + length (x ∷ xs)
    go seen.GoesOn e rest = omega (arith, rest e)
    go seen.Found e rest =
        let z : k ≡ i = cc in
        omega arith
    go seen.Ends e rest =
        let z : ◌≡◌ {A = ℕ} 0 1 = cc in
        absurd (omega arith)

-- place k of a list
abbrev pub spot_at : Out → ℕ → Option Spot
spot_at list k = Some (record { list = list; place = k })

-- its list has the place
abbrev pub Placed : Option Spot → Lists → Type 0
Placed (Some s) l = s.place < length (out_items (out_of s.list l))
Placed None l = Unit {0}

pub spot_placed : (f g : ℕ → Seen) (l : Lists) → Placed (spot_by f g l) l
spot_placed f g l = go (seek f 0 sent) refl (seek g 0 queued) refl (seek g 0 reliable) refl
  where
    sent : List ℕ
    sent = out_items l.sent

    queued : List ℕ
    queued = out_items l.outgoing

    reliable : List ℕ
    reliable = out_items l.send_reliable

    go : (a : Option ℕ) → seek f 0 sent ≡ a → (b : Option ℕ) → seek g 0 queued ≡ b → (c : Option ℕ) → seek g 0 reliable ≡ c
        → Placed (or_else a out.Sent (or_else b out.Outgoing (or_else c out.Reliable None))) l
    go (Some k) p b q c r = omega (arith, seek_within f sent 0 k p)
    go None p (Some k) q c r = omega (arith, seek_within g queued 0 k q)
    go None p None q (Some k) r = omega (arith, seek_within g reliable 0 k r)
    go None p None q None r = tt

-- the three lists name slots that exist
module _ (l : Lists) (e : exist outgoing (used_out l) ≡ true) where
  queued : exist outgoing (out_items l.send_reliable ++ out_items l.outgoing) ≡ true
  queued = both_right (exist outgoing (out_items l.sent)) _ (sym (exist_append outgoing (out_items l.sent) _) ∙ e)

  sent-exist : exist outgoing (out_items l.sent) ≡ true
  sent-exist = both_left (exist outgoing (out_items l.sent)) _ (sym (exist_append outgoing (out_items l.sent) _) ∙ e)

  reliable_exist : exist outgoing (out_items l.send_reliable) ≡ true
  reliable_exist = both_left (exist outgoing (out_items l.send_reliable)) _ (sym (exist_append outgoing (out_items l.send_reliable) _) ∙ queued)

  outgoing-exist : exist outgoing (out_items l.outgoing) ≡ true
  outgoing-exist = both_right (exist outgoing (out_items l.send_reliable)) _ (sym (exist_append outgoing (out_items l.send_reliable) _) ∙ queued)

  -- so the searches by looks are the rule's
  pub spot_by_lem : (slots : List Outgoing) (number channel : ℕ) → length slots ≡ outgoing → (sent queued : List Seen)
      → sent ≡ map (look_of true number channel) slots → queued ≡ map (look_of false number channel) slots
      → spot_by (at sent) (at queued) l ≡ spot_of slots number channel l
  spot_by_lem slots number channel n sent queued p q =
      rw (
        p,
        q,
        searched slots number channel n true (out_items l.sent) sent-exist,
        searched slots number channel n false (out_items l.outgoing) outgoing-exist,
        searched slots number channel n false (out_items l.send_reliable) reliable_exist,
      )
