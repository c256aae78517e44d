-- `mark` meets its contract: the list at its place is the channel's.
use Prim.Native.Nat.{ℕ}
use mathlib.Core.Path.{ap, ◌∙◌}
use mathlib.Core.List.{List}
use Rattle.cells.specs.Free.{marked_all}
use Rattle.queues.proofs.HeldLaws.{held_items}
use Rattle.queues.proofs.held.mark.Goals as goal

pub returns : goal.returns
returns c =
    let a = c.args in
    let at = c.place_of in
    c.mark.ensures
    ∙ ap (λ (xs : List ℕ). marked_all a.marks.now xs) (held_items a.words.now c.told-words a.i c.requires at.result at.ensures)
