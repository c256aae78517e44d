-- `mark` meets its contract: the list at its place is the record's.
use Prim.Native.Nat.{ℕ}
use mathlib.Core.Path.{ap, ◌∙◌}
use mathlib.Core.List.{List}
use Rattle.cells.specs.Free.{marked_all}
use Rattle.queues.proofs.QueueLaws.{dispatched_items_lem}
use Rattle.queues.proofs.dispatched.mark.Goals as goal

pub returns : goal.returns
returns c =
    let a = c.args in
    c.mark.ensures ∙ ap (λ (xs : List ℕ). marked_all a.marks.now xs) (dispatched_items_lem a.words.now)
