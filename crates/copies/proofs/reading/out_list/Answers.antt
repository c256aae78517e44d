-- The list's length and cells, from their places.
use Rattle.copies.proofs.ListLaws.{out_made}
use Rattle.copies.proofs.reading.out_list.Goals as goal

pub returns : goal.returns
returns c =
    out_made c.args.words.now c.args.at c.low16.result c.cells.result c.low16.ensures c.requires c.cells.ensures
