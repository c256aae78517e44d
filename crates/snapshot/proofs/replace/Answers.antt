-- `replace` meets its contract: both stores are cleared, the bytes laid into them, the record becomes the other.
use lib.ListN.{drop}
use Rattle.snapshot.proofs.RestoreLaws.{replace_is}
use Rattle.snapshot.proofs.replace.Goals as goal

pub returns : goal.returns
returns c =
    let a = c.args in
    replace_is a.fresh.now (drop a.at a.bytes.now) _ _ _ _ _ _ c.requires.store_len.0 c.requires.store_len.1 c.clear.ensures c.clear-2.ensures c.lay.ensures
