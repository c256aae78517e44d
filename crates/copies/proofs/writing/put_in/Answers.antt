-- The list's length and cells, to their places.
use mathlib.Core.Path.{◌≡◌}
use lib.ListN.{length}
use Rattle.copies.proofs.ListLaws.{row_long, in_back}
use borrow.Author.Rules.{rules}
use Rattle.copies.proofs.writing.put_in.Goals as goal

pub put_list-requires : goal.put_list-requires
put_list-requires c =
    let m : length c.args.x.slots ≡ 12 = search rules in
    search rules

pub returns : goal.returns
returns c =
    let a = c.args in
    let m : length a.x.slots ≡ 12 = search rules in
    record { is = row_long a.words.now c.put_list.new.words a.x.slots a.at a.x.len 12 m c.put_list.ensures.is; long = m; back = in_back a.x c.put_list.ensures.low }
