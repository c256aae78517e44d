-- `contains` meets its contract: the search finds just what the list has (`found_has`).
use Rattle.std.specs.Prelude.{is_some}
use mathlib.Core.Path.{ap, ◌∙◌}
use Rattle.cells.proofs.ListLaws.{found_has}
use Rattle.record.specs.Lists.{in_items}
use Rattle.record.proofs.incoming.InList.contains.Goals as goal

pub returns : goal.returns
returns c =
    let a = c.args in
    c.is_some.ensures ∙ ap is_some c.find.ensures ∙ found_has (in_items a.self) 0 a.s
