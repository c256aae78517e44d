-- The lists of all the channels below the count are those that are left, from the marks, the sum and the count so far, a channel at a time.
use Prim.Native.Nat.{◌+◌, ◌*◌, ◌≤◌}
use mathlib.Core.Path.{◌≡◌}
use lib.ListN.{length, take, drop}
use Rattle.record.specs.Damage.{held, lengths, blocks}
use Rattle.places.specs.Whole.{whole}
use Rattle.gate.specs.CodeHalves.{held_sound}
use Rattle.gate.proofs.incoming.held_sound.Given as goal

abbrev pub invariant-loop-k : goal.invariant-loop-k
invariant-loop-k l =
    (length l.marks ≡ 12)
    × (held_sound (whole l.words).marks (whole l.words).incoming l.count 0 l.initial.marks (take l.count (whole l.words).channels) ≡ held_sound (whole l.words).marks (whole l.words).incoming l.count l.k l.marks (drop l.k (take l.count (whole l.words).channels)))
    × (l.initial.walk.total + lengths (whole l.words).incoming (held (take l.count (whole l.words).channels)) ≡ l.walk.total + lengths (whole l.words).incoming (held (drop l.k (take l.count (whole l.words).channels))))
    × (l.walk.total ≤ 393216 * (l.k + 1))
    × (l.initial.walk.blocks + blocks (whole l.words).incoming (held (take l.count (whole l.words).channels)) ≡ l.walk.blocks + blocks (whole l.words).incoming (held (drop l.k (take l.count (whole l.words).channels))))
    × (l.walk.blocks ≤ 12 * (l.k + 1))
