-- `start_of` meets its contract: the three tests in their order; where one fails, the packet counts by the reliable number.
use Prim.Native.Nat.{ℕ}
use mathlib.Core.Path.{sym, ap, ◌∙◌}
use borrow.Author.Tests.{not-true, not-false, le-leb, lt-leb}
use Rattle.packets.specs.declared.Start.TheVariants as start
use Rattle.packets.proofs.start_of.Goals as goal
use Rattle.packets.proofs.start_of.Goals.{then-is_set+then-not-is_set+else-unreliable-lt-LAST, then-is_set+else-not-is_set, else-is_set}

pub returns-then-unreliable-lt-LAST : goal.returns-then-unreliable-lt-LAST
returns-then-unreliable-lt-LAST c =
    let loose = sym c.is_set.ensures ∙ c.if-is_set.true in
    let quiet = sym c.is_set-then-is_set.ensures ∙ not-true _ c.if-not-is_set.true-raw in
    let fresh = lt-leb _ _ c.if-unreliable-lt-LAST.true in
    rw (loose, quiet, fresh) (ap (λ (n : ℕ). start.Unreliable (record { 0 = n })) c.next.ensures)

pub returns : goal.returns
returns c =
    let set = sym c.is_set.ensures in
    let number = ap (λ (n : ℕ). start.Reliable (record { 0 = n })) c.next-2.ensures in
    elim c.if-is_set.branch [
      | then-is_set+then-not-is_set+else-unreliable-lt-LAST w ↦ rw (
        set ∙ w.if-is_set.true,
        sym w.is_set-then-is_set.ensures ∙ not-true _ w.if-not-is_set.true-raw,
        le-leb _ _ w.if-unreliable-lt-LAST.false,
      ) number
      | then-is_set+else-not-is_set w ↦ rw (set ∙ w.if-is_set.true, sym w.is_set-then-is_set.ensures ∙ not-false _ w.if-not-is_set.false-raw) number
      | else-is_set w ↦ rw (set ∙ w.if-is_set.false) number
    ]
