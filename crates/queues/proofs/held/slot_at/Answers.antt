-- `slot_at` meets its contract: the list at its place is the channel's.
use Prim.Native.Nat.{ℕ}
use mathlib.Core.Path.{ap, ◌∙◌}
use mathlib.Core.List.{List}
use lib.ListN.{get_or}
use Rattle.queues.proofs.HeldLaws.{held_items}
use Rattle.queues.proofs.held.slot_at.Goals as goal

pub returns : goal.returns
returns c =
    let a = c.args in
    let at = c.place_of in
    c.slot_at.ensures ∙ ap (λ (xs : List ℕ). get_or xs a.k 0) (held_items a.words.now c.told-words a.i c.requires at.result at.ensures)
