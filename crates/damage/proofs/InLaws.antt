-- The incoming pool is sound when the walks over dispatched and the channels' lists, one after another from no marks, get to their ends.
-- The argument: the walks are one walk over all the slots that the lists name, with the tests of each list beside it.
use Prim.Native.Nat.{ℕ, ◌+◌}
use mathlib.Core.Path.{◌≡◌, ap, sym, ◌∙◌}
use mathlib.Core.List.{List, ◌++◌}
use mathlib.Core.Bool.{Bool, false}
use lib.Dec.{eqb}
use lib.ListN.{replicate}
use Rattle.numbers.proofs.BoolLaws.{both_assoc}
use Rattle.numbers.specs.Pick.{both}
use Rattle.cells.specs.Free.{marked_all}
use Rattle.record.specs.Lists.{incoming, in_items}
use Rattle.record.specs.declared.groups.Lists.{Lists}
use Rattle.record.specs.declared.groups.Channel.{Channel}
use Rattle.record.specs.declared.groups.Incoming.{Incoming}
use Rattle.record.specs.declared.groups.Marks.{Marks}
use Rattle.record.specs.Damage.{all, held, in_fit, own, lengths, blocks, one_block, in_sound}
use Rattle.damage.specs.CodeInWalks.{passes, in_passes, held_pass}
use Rattle.damage.proofs.WalkLaws.{any, middle, pass_append, pass_one, all_append, new_rule}
use Rattle.damage.proofs.HeldLaws.{held_is}
use Rattle.damage.proofs.SumLaws.{sum_append, blocks_append}

line : (a b c d o e : Bool) → both (both a c) (both (both b (both d o)) e) ≡ both (both a b) (both (both c d) (both o e))
line a b c d o e =
    ap (λ (w : Bool). both (both a c) w) (both_assoc b (both d o) e ∙ ap (λ (w : Bool). both b w) (both_assoc d o e))
    ∙ middle a c b (both d (both o e))
    ∙ ap (λ (w : Bool). both (both a b) w) (sym (both_assoc c d (both o e)))

-- a list, then the channels' lists
pub in_is : (marks : Marks) (slots : List Incoming) (l : Lists) (cs : List Channel) (count total : ℕ)
    → in_sound marks slots l cs count total
    ≡ both (passes (in_passes marks slots count false 0) (replicate incoming 0) (in_items l.dispatched))
    (both (held_pass marks slots count 0 (marked_all (replicate incoming 0) (in_items l.dispatched)) cs)
    (both (eqb total (lengths slots (in_items l.dispatched) + lengths slots (held cs)))
    (one_block marks (blocks slots (in_items l.dispatched) + blocks slots (held cs)))))
in_is marks slots l cs count total =
    let xs = in_items l.dispatched in
    let m : List ℕ = replicate incoming 0 in
    let f = in_fit marks slots count in
    let e = both (eqb total (lengths slots xs + lengths slots (held cs))) (one_block marks (blocks slots xs + blocks slots (held cs))) in
    rw (
      pass_one f m xs,
      held_is marks slots count 0 (marked_all m xs) cs,
      ← new_rule incoming (xs ++ held cs),
      pass_append any m xs (held cs),
      all_append f xs (held cs),
      sum_append slots xs (held cs),
      blocks_append slots xs (held cs),
    )
    (sym (line (passes any m xs) (passes any (marked_all m xs) (held cs)) (all f xs) (all f (held cs)) (own slots 0 cs) e))
