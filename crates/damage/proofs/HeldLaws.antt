-- The channels' lists, channel by channel: a turn of each loop over them, and what the walks over all of them say by the rule.
-- The argument: what is left of the channels is the channel at k and what is left after it.
use Prim.Native.Nat.{ℕ, ◌+◌, ◌≤◌, ◌<◌}
use mathlib.Core.Path.{◌≡◌, refl, ◌∙◌}
use mathlib.Core.List.{List, [], ◌∷◌}
use mathlib.Core.Bool.{Bool}
use native.Mathlib.Omega.{arith}
use lib.Dec.{eqb}
use lib.ListN.{length, take, drop, get_or}
use Rattle.numbers.specs.Pick.{both}
use Rattle.record.specs.Lists.{in_items}
use Rattle.record.specs.declared.groups.Channel.{Channel}
use Rattle.record.specs.declared.groups.Incoming.{Incoming}
use Rattle.record.specs.declared.groups.Marks.{Marks}
use Rattle.record.specs.Fresh.{no_incoming}
use Rattle.record.specs.Damage.{all, held, in_fit, own, lengths, blocks}
use Rattle.cells.specs.Free.{marked_all}
use Rattle.damage.specs.CodeInWalks.{passes, held_pass}
use Rattle.cells.proofs.Views.{part_step, part_end}
use Rattle.damage.proofs.WalkLaws.{any, middle, pass_append, pass_two, all_append}
use Rattle.damage.proofs.SumLaws.{sum_append, blocks_append}

module _ (slots : List Incoming) (cs : List Channel) (n k : ℕ) where
  pub held_sum : (d : Channel) (t u : ℕ) → n ≤ length cs → k < n → u ≡ t + lengths slots (in_items (get_or cs k d).held)
      → t + lengths slots (held (drop k (take n cs))) ≡ u + lengths slots (held (drop (k + 1) (take n cs)))
  unfolding held
  held_sum d t u e h q =
      rw (part_step cs k n d h (omega arith), sum_append slots (in_items (get_or cs k d).held) (held (drop (k + 1) (take n cs)))) (omega arith)

  pub held_sum_end : n ≤ k → lengths slots (held (drop k (take n cs))) ≡ 0
  unfolding held lengths
  held_sum_end h = rw (part_end cs k n h)

  -- and the blocks among them
  pub held-blocks : (d : Channel) (t u : ℕ) → n ≤ length cs → k < n → u ≡ t + blocks slots (in_items (get_or cs k d).held)
      → t + blocks slots (held (drop k (take n cs))) ≡ u + blocks slots (held (drop (k + 1) (take n cs)))
  unfolding held
  held-blocks d t u e h q =
      rw (part_step cs k n d h (omega arith), blocks_append slots (in_items (get_or cs k d).held) (held (drop (k + 1) (take n cs)))) (omega arith)

  pub held_blocks_end : n ≤ k → blocks slots (held (drop k (take n cs))) ≡ 0
  unfolding held blocks
  held_blocks_end h = rw (part_end cs k n h)

-- the walks over the channels' lists: one walk over what they hold, with the rule of each slot and of its channel
spread : (a b c d e f : Bool) → both (both a (both b c)) (both d (both e f)) ≡ both (both a d) (both (both b e) (both c f))
spread a b c d e f = middle a (both b c) d (both e f) ∙ rw (middle b c e f)

pub held_is : (marks : Marks) (slots : List Incoming) (count k : ℕ) (m : List ℕ) (cs : List Channel)
    → held_pass marks slots count k m cs ≡ both (passes any m (held cs)) (both (all (in_fit marks slots count) (held cs)) (own slots k cs))
unfolding held_pass held own passes all
held_is marks slots count k m [] = refl
held_is marks slots count k m (c ∷ cs) =
    let xs = in_items c.held in
    rw (
      held_is marks slots count (k + 1) (marked_all m xs) cs,
      pass_two (in_fit marks slots count) (λ (s : ℕ). eqb (get_or slots s no_incoming).channel k) m xs,
      pass_append any m xs (held cs),
      all_append (in_fit marks slots count) xs (held cs),
    )
    (spread (passes any m xs) (all (in_fit marks slots count) xs) (all (λ (s : ℕ). eqb (get_or slots s no_incoming).channel k) xs)
    (passes any (marked_all m xs) (held cs)) (all (in_fit marks slots count) (held cs)) (own slots (k + 1) cs))
