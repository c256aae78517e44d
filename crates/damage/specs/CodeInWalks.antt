-- For functions inside the house alone: what each walk over a list answers, that every slot exists, has no mark yet and passes
-- a test, and is marked then. Nothing here need be believed: `in_is` in proofs/InLaws gives the rule back.
use Rattle.std.specs.Prelude.{ℕ, ◌+◌, Bool, true, not, List, [], ◌∷◌, ltb, eqb, length, get_or, set}
use Rattle.numbers.specs.Pick.{pick, both}
use Rattle.cells.specs.Free.{is_marked, marked_all}
use Rattle.record.specs.Lists.{in_items}
use Rattle.record.specs.declared.groups.Channel.{Channel}
use Rattle.record.specs.declared.groups.Incoming.{Incoming}
use Rattle.record.specs.declared.groups.Marks.{Marks}
use Rattle.record.specs.Fresh.{no_incoming}
use Rattle.record.specs.Damage.{in_fit}

-- whether the walk from marks m gets to the end of xs
unfoldable pub passes : (ℕ → Bool) → List ℕ → List ℕ → Bool
passes f m [] = true
passes f m (x ∷ xs) = both (ltb x (length m)) (both (not (is_marked m x)) (both (f x) (passes f (set m x 1) xs)))

-- the rule's tests of one slot, which is a pool by itself here, and of slot s of a pool; one of channel k's own list has that channel
abbrev pub in_test : Marks → ℕ → Bool → ℕ → Incoming → Bool
in_test marks count own k i = both (in_fit marks (i ∷ []) count 0) (pick own (eqb i.channel k) true)

abbrev pub in_passes : Marks → List Incoming → ℕ → Bool → ℕ → ℕ → Bool
in_passes marks slots count own k s = in_test marks count own k (get_or slots s no_incoming)

-- the lists of the channels from k on, each walked from the marks of those before it
unfoldable pub held_pass : Marks → List Incoming → ℕ → ℕ → List ℕ → List Channel → Bool
held_pass marks slots count k m [] = true
held_pass marks slots count k m (c ∷ cs) =
    both (passes (in_passes marks slots count true k) m (in_items c.held))
    (held_pass marks slots count (k + 1) (marked_all m (in_items c.held)) cs)
