-- `names` meets its contract: the list's cells up to its length are its slots.
use Rattle.std.proofs.Common.{rules, tests, ◌∙◌, ◌+◌}
use lib.Dec.{eqb}
use Rattle.lists.specs.Rows.{low}
use Rattle.std.specs.List.{between}
use Rattle.std.proofs.lemmas.Iterator.{YieldsList-from_slice}
use Rattle.std.proofs.lemmas.Iterator.Search.{any_from_yields_List}
use Rattle.order.proofs.UsedLaws.{names_any}
use Rattle.order.proofs.used.names.Goals as goal

pub returns : goal.returns
returns c =
    let a = c.args in
    any_from_yields_List (λ x. eqb (low x) a.s) _ _ _ c.any.ensures.ran (YieldsList-from_slice (between (a.at + 1) (a.at + 1 + c.count-n.result) a.words.now) c.iter.ensures.rest) (λ x b q k. search (rules, tests))
    ∙ names_any a.words.now a.at a.size c.count-n.result a.s c.requires c.count-n.ensures
