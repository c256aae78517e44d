-- The cells, then the length before them.
use Rattle.copies.proofs.ListLaws.{list_laid, list_narrow}
use Rattle.copies.proofs.writing.put_list.Goals as goal

pub returns : goal.returns
returns c = let a = c.args in record { is = list_laid a.words.now c.put_cells.new.words a.slots.now a.at a.len c.wide16-n.result c.requires c.put_cells.ensures.is c.wide16-n.ensures.is; low = list_narrow a.slots.now a.len c.wide16-n.ensures.low c.put_cells.ensures.low }
