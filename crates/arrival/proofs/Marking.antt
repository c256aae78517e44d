-- The loop over the channels: a turn marks what one channel holds, and past the last one nothing is left to mark.
-- The argument: marks of two lists one after the other are those of the two joined.
use Rattle.std.proofs.Common.{◌≡◌, ℕ, ◌+◌, ◌<◌, List, [], length, get_or, take, drop, replicate, sym, refl, ap, ◌∙◌}
use Rattle.cells.specs.Free.{marked_all, is_marked, first_from, lowest}
use Rattle.cells.proofs.Marked.{marked_append, marked_lowest}
use Rattle.cells.proofs.Views.{part_step}
use Rattle.record.specs.Lists.{incoming, in_items}
use Rattle.record.specs.Damage.{held, used_in}
use Rattle.record.specs.declared.groups.Channel.{Channel}
use Rattle.record.specs.declared.groups.Lists.{Lists}

pub marks_turn : (m after : List ℕ) (cs : List Channel) (n k : ℕ) (d : Channel) → k < n → k < length cs → after ≡ marked_all m (in_items (get_or cs k d).held)
    → marked_all m (held (drop k (take n cs))) ≡ marked_all after (held (drop (k + 1) (take n cs)))
unfolding held
marks_turn m after cs n k d p q e =
    rw (part_step cs k n d p q, e) (marked_append m (in_items (get_or cs k d).held) (held (drop (k + 1) (take n cs))))

pub marks_end : (m : List ℕ) (cs : List Channel) → cs ≡ [] → marked_all m (held cs) ≡ m
unfolding held marked_all
marks_end m cs e = rw e

-- where no channel is left, the marks are those of dispatched and the channels joined
pub marks_joined : (first all : List ℕ) (l : Lists) (cs rest : List Channel) → first ≡ marked_all (replicate incoming 0) (in_items l.dispatched)
    → marked_all first (held cs) ≡ marked_all all (held rest)
    → rest ≡ []
    → all ≡ marked_all (replicate incoming 0) (used_in l cs)
marks_joined first all l cs rest e so end =
    sym (marked_append (replicate incoming 0) (in_items l.dispatched) (held cs)
    ∙ ap (λ (m : List ℕ). marked_all m (held cs)) (sym e)
    ∙ so
    ∙ marks_end all rest end)

-- the marks of dispatched, then of the channels: no slot is marked at first
pub marks_of_all : (l : Lists) (cs : List Channel) (first all : List ℕ) → first ≡ marked_all (replicate incoming 0) (in_items l.dispatched) → all ≡ marked_all first (held cs)
    → first_from (is_marked all) incoming 0 ≡ lowest incoming (used_in l cs)
marks_of_all l cs first all e f =
    rw (marks_joined first all l cs [] e (sym f ∙ sym (marks_end all [] refl)) refl) (marked_lowest incoming (used_in l cs))
