-- The channels' lists, channel by channel: a turn of the loop over them, and the incoming half by its lists one after the other.
-- The argument: what is left of the channels is the channel at k and what is left after it; then the rule's tests in the order in which they are asked.
use Prim.Native.Nat.{ℕ, ◌+◌, ◌≤◌, ◌<◌}
use mathlib.Core.Path.{◌≡◌, refl, ap, sym, ◌∙◌}
use mathlib.Core.Bool.{Bool, true, false}
use mathlib.Core.List.{List, [], ◌∷◌}
use native.Mathlib.Omega.{arith}
use lib.Dec.{leb, eqb}
use lib.ListN.{length, take, drop, get_or, replicate}
use Rattle.numbers.specs.Pick.{both}
use Rattle.numbers.proofs.BoolLaws.{both_assoc}
use Rattle.cells.specs.Free.{marked_all}
use Rattle.cells.proofs.Views.{part_step, part_end}
use Rattle.lists.specs.Rows.{items_of}
use Rattle.record.specs.Lists.{incoming, in_items}
use Rattle.record.specs.declared.incoming.InList.{InList}
use Rattle.record.specs.declared.groups.Channel.{Channel}
use Rattle.record.specs.declared.groups.Incoming.{Incoming}
use Rattle.record.specs.declared.groups.Marks.{Marks}
use Rattle.record.specs.Fresh.{no_channel}
use Rattle.record.specs.Damage.{held, held_fit, lengths, blocks, one_block}
use Rattle.damage.specs.CodeInWalks.{passes, in_passes, held_pass}
use Rattle.damage.proofs.WalkLaws.{middle}
use Rattle.damage.proofs.HeldLaws.{held_sum, held-blocks}
use Rattle.damage.proofs.InLaws.{in_is}
use Rattle.peer.specs.declared.Peer.{Peer}
use Rattle.places.specs.Whole.{in_list_from}
use Rattle.gate.specs.CodeHalves.{Passes, Sums, list_bytes, held_sound, in_side}

-- channel k, whose list is in a row, and what the walk over it found
pub record HeldTurn (marks : Marks) (slots : List Incoming) (count : ℕ) (cs : List Channel) (n k : ℕ) (row m : List ℕ) (ok : Bool) (after : List ℕ) : Type 0 where
  pub long : n ≤ length cs
  pub here : k < n
  pub is : (get_or cs k no_channel).held ≡ in_list_from row
  pub walk : Passes (in_passes marks slots count true k) 12 m row ok after

module _ {marks : Marks} {slots : List Incoming} {count : ℕ} {cs : List Channel} {n k : ℕ} {row m : List ℕ} {ok : Bool} {after : List ℕ}
    (t : HeldTurn marks slots count cs n k row m ok after) where
  next : held_sound marks slots count k m (drop k (take n cs)) ≡ both ok (held_sound marks slots count (k + 1) (marked_all m (items_of row)) (drop (k + 1) (take n cs)))
  unfolding held_sound
  next =
      rw (part_step cs k n no_channel t.here (omega (arith, t.long, t.here)))
      (ap (λ (l : InList). both (both (leb l.len 12) (passes (in_passes marks slots count true k) m (in_items l))) (held_sound marks slots count (k + 1) (marked_all m (in_items l)) (drop (k + 1) (take n cs)))) t.is
      ∙ ap (λ (b : Bool). both b (held_sound marks slots count (k + 1) (marked_all m (items_of row)) (drop (k + 1) (take n cs)))) (sym t.walk.is))

  pub held_stop : ok ≡ false → held_sound marks slots count k m (drop k (take n cs)) ≡ false
  held_stop e = next ∙ ap (λ (b : Bool). both b (held_sound marks slots count (k + 1) (marked_all m (items_of row)) (drop (k + 1) (take n cs)))) e

  pub held_turn : ok ≡ true → held_sound marks slots count k m (drop k (take n cs)) ≡ held_sound marks slots count (k + 1) after (drop (k + 1) (take n cs))
  held_turn e =
      next
      ∙ ap (λ (b : Bool). both b (held_sound marks slots count (k + 1) (marked_all m (items_of row)) (drop (k + 1) (take n cs)))) e
      ∙ ap (λ (x : List ℕ). held_sound marks slots count (k + 1) x (drop (k + 1) (take n cs))) (sym (t.walk.marks e))

  pub held_sums : (v u : ℕ) → Sums (lengths slots) list_bytes (items_of row) v u
      → v + lengths slots (held (drop k (take n cs))) ≡ u + lengths slots (held (drop (k + 1) (take n cs)))
  held_sums v u s =
      held_sum slots cs n k no_channel v u t.long t.here (s.is ∙ ap (λ (l : InList). v + lengths slots (in_items l)) (sym t.is))

  pub held_counts : (v u : ℕ) → Sums (blocks slots) incoming (items_of row) v u
      → v + blocks slots (held (drop k (take n cs))) ≡ u + blocks slots (held (drop (k + 1) (take n cs)))
  held_counts v u s =
      held-blocks slots cs n k no_channel v u t.long t.here (s.is ∙ ap (λ (l : InList). v + blocks slots (in_items l)) (sym t.is))

pub held_end : (marks : Marks) (slots : List Incoming) (count : ℕ) (cs : List Channel) (n k : ℕ) (m : List ℕ) → n ≤ k → held_sound marks slots count k m (drop k (take n cs)) ≡ true
unfolding held_sound
held_end marks slots count cs n k m h = rw (part_end cs k n h)

-- the lengths, then the walks
held_both : (marks : Marks) (slots : List Incoming) (count k : ℕ) (m : List ℕ) (cs : List Channel) → held_sound marks slots count k m cs ≡ both (held_fit cs) (held_pass marks slots count k m cs)
unfolding held_sound held_fit held_pass
held_both marks slots count k m [] = refl
held_both marks slots count k m (c ∷ cs) =
    let l = c.held in
    let rest = marked_all m (in_items l) in
    ap (λ (b : Bool). both (both (leb l.len 12) (passes (in_passes marks slots count true k) m (in_items l))) b) (held_both marks slots count (k + 1) rest cs)
    ∙ middle (leb l.len 12) (passes (in_passes marks slots count true k) m (in_items l)) (held_fit cs) (held_pass marks slots count (k + 1) rest cs)

paired : (d h p g e : Bool) → both (both d h) (both p (both g e)) ≡ both (both d p) (both (both h g) e)
paired d h p g e = middle d h p (both g e) ∙ ap (λ (b : Bool). both (both d p) b) (sym (both_assoc h g e))

-- the dispatched list, then the rest
module _ (count : ℕ) (p : Peer) where
  abbrev marks : Marks
  marks = p.marks

  abbrev slots : List Incoming
  slots = p.incoming

  abbrev cs : List Channel
  cs = take count p.channels

  abbrev none : List ℕ
  none = replicate 12 0

  abbrev rest : List ℕ → ℕ → ℕ → Bool
  rest m t b =
      both (held_sound marks slots count 0 m cs) (both (eqb p.waiting.total (t + lengths slots (held cs))) (one_block marks (b + blocks slots (held cs))))

  abbrev by_list : InList → Bool
  by_list l = both (both (leb l.len 12) (passes (in_passes marks slots count false 0) none (in_items l))) (rest (marked_all none (in_items l)) (lengths slots (in_items l)) (blocks slots (in_items l)))

  side_by_list : in_side count p ≡ by_list p.lists.dispatched
  side_by_list =
      let l = p.lists.dispatched in
      let d = leb l.len 12 in
      let first = passes (in_passes marks slots count false 0) none (in_items l) in
      let m = marked_all none (in_items l) in
      let e = both (eqb p.waiting.total (lengths slots (in_items l) + lengths slots (held cs))) (one_block marks (blocks slots (in_items l) + blocks slots (held cs))) in
      ap (λ (b : Bool). both (both d (held_fit cs)) b) (in_is marks slots p.lists cs count p.waiting.total)
      ∙ paired d (held_fit cs) first (held_pass marks slots count 0 m cs) e
      ∙ ap (λ (b : Bool). both (both d first) (both b e)) (sym (held_both marks slots count 0 m cs))

  -- in its row
  module _ (row : List ℕ) (is : p.lists.dispatched ≡ in_list_from row) (ok : Bool) (after : List ℕ)
      (w : Passes (in_passes marks slots count false 0) 12 none row ok after) where
    side_is : in_side count p ≡ both ok (rest (marked_all none (items_of row)) (lengths slots (items_of row)) (blocks slots (items_of row)))
    side_is =
        side_by_list ∙ ap by_list is
        ∙ ap (λ (b : Bool). both b (rest (marked_all none (items_of row)) (lengths slots (items_of row)) (blocks slots (items_of row)))) (sym w.is)

    pub dispatched_no : ok ≡ false → false ≡ in_side count p
    dispatched_no e = sym (side_is ∙ ap (λ (b : Bool). both b (rest (marked_all none (items_of row)) (lengths slots (items_of row)) (blocks slots (items_of row)))) e)

    -- what the function that asks the rest answers
    pub rest_says : ok ≡ true → (t b : ℕ) → Sums (lengths slots) list_bytes (items_of row) 0 t → Sums (blocks slots) incoming (items_of row) 0 b
        → (r : Bool) → r ≡ rest after t b → r ≡ in_side count p
    rest_says e t b s z r q =
        let sum : t ≡ lengths slots (items_of row) = omega (arith, s.is) in
        let count : b ≡ blocks slots (items_of row) = omega (arith, z.is) in
        q
        ∙ sym (
        side_is
        ∙ ap (λ (b : Bool). both b (rest (marked_all none (items_of row)) (lengths slots (items_of row)) (blocks slots (items_of row)))) e
        ∙ ap (λ (x : List ℕ). rest x (lengths slots (items_of row)) (blocks slots (items_of row))) (sym (w.marks e))
        ∙ ap (λ (x : ℕ). rest after x (blocks slots (items_of row))) (sym sum)
        ∙ ap (rest after t) (sym count)
        )
