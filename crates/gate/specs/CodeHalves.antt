-- For functions inside the house alone: the damage test in the order in which the code asks, a list at a time, the outgoing half, then the incoming one.
-- Nothing here need be believed: the contract of `sound` is the rule's own.
use Rattle.std.specs.Prelude.{ℕ, ◌+◌, ◌*◌, ◌≤◌, ◌≡◌, Option, is_some, unwrap_or, Bool, true, List, [], ◌∷◌, map, leb, replicate}
use Rattle.numbers.specs.Pick.{both}
use Rattle.cells.specs.Free.{marked_all}
use Rattle.lists.specs.Rows.{len_of, items_of}
use Rattle.record.specs.Lists.{outgoing, incoming, in_items}
use Rattle.record.specs.declared.groups.Lists.{Lists}
use Rattle.record.specs.declared.groups.Channel.{Channel}
use Rattle.record.specs.declared.groups.Incoming.{Incoming}
use Rattle.record.specs.declared.groups.Marks.{Marks}
use Rattle.record.specs.Blocks.{most_bytes}
use Rattle.record.specs.Damage.{below, held_fit, in_sound}
use Rattle.damage.specs.CodeInWalks.{passes, in_passes}
use Rattle.damage.specs.CodeOutWalks.{out_pass, slot_grade, grade_passes}
use Rattle.peer.specs.declared.Peer.{Peer}

-- a list in its row, of a pool of n: it is not longer than its pool, and the walk over it from marks m gets to its end; the marks then
pub record Passes (f : ℕ → Bool) (n : ℕ) (m row : List ℕ) (ok : Bool) (after : List ℕ) : Type 0 where
  pub is : ok ≡ both (leb (len_of row) n) (passes f m (items_of row))
  pub marks : ok ≡ true → after ≡ marked_all m (items_of row)

abbrev pub out_fits : Lists → Bool
out_fits l = both (leb l.sent.len outgoing) (both (leb l.send_reliable.len outgoing) (leb l.outgoing.len outgoing))

-- the outgoing lists, and what they name
abbrev pub out_side : ℕ → Peer → Bool
out_side count p = both (out_fits p.lists) (out_pass (grade_passes (map (slot_grade count) p.outgoing)) p.lists 3 0 (replicate outgoing 0))

-- the bytes that the slots of a list have at most
abbrev pub list_bytes : ℕ
list_bytes = incoming * most_bytes

-- what a walk that got to its end has summed on its way: lengths, or blocks
pub record Sums (f : List ℕ → ℕ) (most : ℕ) (xs : List ℕ) (from total : ℕ) : Type 0 where
  pub is : total ≡ from + f xs
  pub low : total ≤ from + most

-- the rule's tests of a slot; of one of a channel's own list, that it has that channel
abbrev pub slot_passes : Marks → List Incoming → ℕ → Option ℕ → ℕ → Bool
slot_passes marks slots count own = in_passes marks slots count (is_some own) (unwrap_or own 0)

-- the lists of the channels from k on, each from the marks of those before it
unfoldable pub held_sound : Marks → List Incoming → ℕ → ℕ → List ℕ → List Channel → Bool
held_sound marks slots count k m [] = true
held_sound marks slots count k m (c ∷ cs) =
    both (both (leb c.held.len incoming) (passes (in_passes marks slots count true k) m (in_items c.held)))
    (held_sound marks slots count (k + 1) (marked_all m (in_items c.held)) cs)

-- the incoming lists, what they name, and the waiting total
abbrev pub in_side : ℕ → Peer → Bool
in_side count p =
    let now = below p.channels count in
    both (both (leb p.lists.dispatched.len incoming) (held_fit now)) (in_sound p.marks p.incoming p.lists now count p.waiting.total)
