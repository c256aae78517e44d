-- Pieces that are set up in turn: what joins outgoing and send-reliable is what each setup made, in order, and the three lists then name it besides
-- what they named. The argument: the slots taken were free, so every slot named before holds what it held.
use Prim.Native.Nat.{ℕ, suc, ◌+◌, ◌<◌}
use mathlib.Core.Path.{◌≡◌, refl, ap, ap₂, sym, ◌∙◌}
use mathlib.Core.Bool.{Bool, true, false}
use mathlib.Core.List.{List, [], ◌∷◌, ◌++◌, map, append-nil}
use native.Mathlib.Omega.{arith}
use lib.ListN.{length, drop, get_or, length-map, get_or-map}
use lib.Seq.{drop-length, drop-append_seam, ext_get_or}
use Rattle.cells.specs.Runs.{has}
use Rattle.cells.proofs.Views.{at_any}
use Rattle.record.specs.Lists.{out_items}
use Rattle.record.specs.declared.outgoing.OutList.{OutList}
use Rattle.record.proofs.Keeps.{times, none_times, once_at_most}
use Rattle.record.specs.Damage.{used_out}
use Rattle.record.specs.Fresh.{no_outgoing}
use Rattle.peer.specs.declared.Peer.{Peer}
use Rattle.peer.proofs.Clauses.{sound_clauses}
use Rattle.outbox.specs.declared.pieces.Piece.{Piece}
use Rattle.setup.specs.Queueing.{queued, queued_all}
use Rattle.setup.specs.Taking.{Ready, taken, filled}
use Rattle.setup.proofs.Sound.{queued_all-sound}
use Rattle.setup.proofs.Taking.{taken_step, taken-filled, taken_others}
use Rattle.setup.proofs.Taking.{step as setup}
use Rattle.laws.proofs.Ends.{Ends}
use Rattle.promises.specs.Counts.{count}
use Rattle.promises.specs.Outbook.{Item, item_of, items_at, waiting, joined_out}
use Rattle.promises.proofs.OutCounts.{map_same, Sums, sums_used, times_sums, counts_sums}

-- a slot each, and what it made
taken-length : (xs : List Piece) (p : Peer) → Ready xs p → length (taken xs p) ≡ length xs
unfolding taken
taken-length [] p r = refl
taken-length (x ∷ xs) p r =
    let t = setup x xs p r in
    ap length (taken_step x xs p t.slot t.low) ∙ ap suc (taken-length xs (queued x p) t.next)

filled-length : (xs : List Piece) (p : Peer) → length (filled xs p) ≡ length xs
unfolding filled
filled-length [] p = refl
filled-length (x ∷ xs) p = ap suc (filled-length xs (queued x p))

module _ (xs : List Piece) (p : Peer) (r : Ready xs p) where
  abbrev q : Peer
  q = queued_all xs p

  -- what the setups made
  abbrev pub news : List Item
  news = map item_of (filled xs p)

  abbrev at : ℕ → Item
  at s = item_of (get_or q.outgoing s no_outgoing)

  taken_items : items_at q (taken xs p) ≡ news
  taken_items =
      let many = taken-length xs p r in
      let long = length-map (taken xs p) at in
      ext_get_or (item_of no_outgoing) (map at (taken xs p)) news (long ∙ many ∙ sym (length-map (filled xs p) item_of ∙ filled-length xs p))
      (λ i h.
      at_any (map at (taken xs p)) i (item_of no_outgoing) (at 0) h
      ∙ get_or-map at (taken xs p) i 0
      ∙ ap item_of (taken-filled xs p i r (omega (arith, h, many, long)))
      ∙ sym (get_or-map item_of (filled xs p) i no_outgoing))

  module _ (b : Bool) (e : Ends b p.lists q.lists (taken xs p)) where
    -- the list that they joined grew by them, and the other stayed
    grew : (ys zs ss : List ℕ) → zs ≡ ys ++ ss → drop (length ys) zs ≡ ss
    grew ys zs ss e = ap (drop (length ys)) e ∙ drop-append_seam ys ss

    stayed : (l m : OutList) → m ≡ l → drop (length (out_items l)) (out_items m) ≡ []
    stayed l m e = ap (λ (n : OutList). drop (length (out_items l)) (out_items n)) e ∙ drop-length (out_items l)

    joined_taken : joined_out p q ≡ items_at q (taken xs p)
    joined_taken = go b e
      where
        go : (c : Bool) → Ends c p.lists q.lists (taken xs p) → joined_out p q ≡ items_at q (taken xs p)
        go true e =
            ap₂ (λ (ys zs : List ℕ). items_at q ys ++ items_at q zs) (stayed p.lists.outgoing q.lists.outgoing e.other)
            (grew (out_items p.lists.send_reliable) (out_items q.lists.send_reliable) (taken xs p) e.ends)
        go false e =
            ap₂ (λ (ys zs : List ℕ). items_at q ys ++ items_at q zs)
            (grew (out_items p.lists.outgoing) (out_items q.lists.outgoing) (taken xs p) e.ends)
            (stayed p.lists.send_reliable q.lists.send_reliable e.other)
            ∙ append-nil (items_at q (taken xs p))

    pub joined_news : joined_out p q ≡ news
    joined_news = joined_taken ∙ taken_items

    -- all three together
    used_grew : (f : List ℕ → ℕ) → Sums f → f (used_out q.lists) ≡ f (taken xs p) + f (used_out p.lists)
    used_grew f adds = go b e
      where
        go : (c : Bool) → Ends c p.lists q.lists (taken xs p) → f (used_out q.lists) ≡ f (taken xs p) + f (used_out p.lists)
        go true e =
            omega (
              arith,
              sums_used f adds q.lists,
              sums_used f adds p.lists,
              ap (λ (l : OutList). f (out_items l)) e.sent,
              ap (λ (l : OutList). f (out_items l)) e.other,
              ap f e.ends ∙ adds (out_items p.lists.send_reliable) (taken xs p),
            )
        go false e =
            omega (
              arith,
              sums_used f adds q.lists,
              sums_used f adds p.lists,
              ap (λ (l : OutList). f (out_items l)) e.sent,
              ap (λ (l : OutList). f (out_items l)) e.other,
              ap f e.ends ∙ adds (out_items p.lists.outgoing) (taken xs p),
            )

    -- what was named holds what it held
    was_free : (s : ℕ) → 0 < times (used_out p.lists) s → has (taken xs p) s ≡ false
    was_free s h =
        let good = queued_all-sound xs p r.whole r.good r.fit in
        none_times (taken xs p) s
        (omega (arith, h, used_grew (λ (ss : List ℕ). times ss s) (times_sums s), once_at_most (used_out q.lists) (sound_clauses q good).single s))

    kept_items : items_at q (used_out p.lists) ≡ waiting p
    kept_items =
        map_same at (λ (s : ℕ). item_of (get_or p.outgoing s no_outgoing)) (used_out p.lists)
        (λ s h. ap item_of (taken_others xs p s (was_free s h)))

    pub queues_once : (f : Item → Bool) → count f news + count f (waiting p) ≡ count f (waiting q)
    queues_once f =
        omega (
          arith,
          used_grew (λ (ss : List ℕ). count f (items_at q ss)) (counts_sums f at),
          ap (count f) taken_items,
          ap (count f) kept_items,
        )
