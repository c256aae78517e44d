-- `gather` meets its contract. The loop's invariant: what bears the mark among the slots passed stands in the run from its first cell on, and m counts it;
-- a turn is one more place, with or without its slot.
use Prim.Native.Nat.{◌≤◌}
use mathlib.Core.Path.{◌≡◌}
use lib.ListN.{length}
use Rattle.record.specs.Lists.{out_items}
use Rattle.places.specs.Whole.{whole}
use Rattle.overdue.proofs.Laws.{Borne}
use Rattle.timeouts.proofs.back.gather.Given as goal

abbrev pub invariant-loop-k : goal.invariant-loop-k
invariant-loop-k l =
    (l.k-end ≤ 32) × (l.m ≤ l.k) × (length l.cells ≡ length l.initial.cells) × Borne l.mark l.marks (out_items (whole l.words).lists.sent) l.initial.cells l.k l.cells l.m
