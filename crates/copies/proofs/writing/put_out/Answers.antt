-- The list's length and cells, to their places.
use mathlib.Core.Path.{◌≡◌}
use lib.ListN.{length}
use Rattle.copies.proofs.ListLaws.{row_long, out_back}
use borrow.Author.Rules.{rules}
use Rattle.copies.proofs.writing.put_out.Goals as goal

pub put_list-requires : goal.put_list-requires
put_list-requires c =
    let m : length c.args.x.slots ≡ 32 = search rules in
    search rules

pub returns : goal.returns
returns c =
    let a = c.args in
    let m : length a.x.slots ≡ 32 = search rules in
    record { is = row_long a.words.now c.put_list.new.words a.x.slots a.at a.x.len 32 m c.put_list.ensures.is; long = m; back = out_back a.x c.put_list.ensures.low }
