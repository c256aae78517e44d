-- Each cell is read from its place.
use mathlib.Core.Path.{◌≡◌, sym, ◌∙◌}
use Prim.Native.Nat.{◌+◌}
use lib.ListN.{get_or, drop}
use borrow.Author.Rules.{rules}
use Rattle.lists.specs.Rows.{low}
use Rattle.lists.proofs.Mapped.{map-take}
use Rattle.copies.proofs.Filling.{from_fn_front}
use Rattle.copies.proofs.ListLaws.{cells_from, cell_is, cells_long}
use Rattle.copies.proofs.reading.cells.Goals as goal

pub returns : goal.returns
returns g c =
    let at = c.args.at in
    let ws = c.args.words.now in
    from_fn_front _ _ _ (cells_from ws at) 0
    (λ k y q h.
    let e : y ≡ low (get_or ws (at + k) 0) = search rules in
    (search rules, e ∙ cell_is ws at k))
    g.row.N c.from_fn.ensures.items (cells_long ws at g.row.N c.requires)
    ∙ sym (map-take low g.row.N (drop at ws))
