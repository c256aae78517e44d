-- `slot_at` meets its contract: the list at its place is the record's by that name.
use mathlib.Core.Path.{ap, ◌∙◌}
use mathlib.Core.List.{List}
use Prim.Native.Nat.{ℕ}
use lib.ListN.{get_or}
use Rattle.queues.proofs.QueueLaws.{place_fits, out_items_lem}
use Rattle.queues.proofs.outgoing.slot_at.Goals as goal

pub slot_at-requires : goal.slot_at-requires
slot_at-requires c =
    place_fits c.args.list c.place_of.result _ c.place_of.ensures c.told-words

pub returns : goal.returns
returns c =
    let a = c.args in
    c.slot_at.ensures ∙ ap (λ (xs : List ℕ). get_or xs a.k 0) (out_items_lem a.list c.place_of.result c.place_of.ensures a.words.now)
