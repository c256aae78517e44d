-- `reset` asks for the settings alone; the numbers are cleared, then the reset record of what was kept is made of them.
use mathlib.Core.Path.{◌≡◌, ◌∙◌}
use lib.ListN.{length}
use borrow.Author.Rules.{rules}
use Rattle.pool.proofs.Copies.{cleared}
use Rattle.lifecycle.proofs.reset.Goals as goal

pub refresh-requires : goal.refresh-requires
refresh-requires c =
    let l : length c.args.words.now ≡ 1236 = search rules in
    c.clear.ensures ∙ cleared c.args.words.now 1236 l
