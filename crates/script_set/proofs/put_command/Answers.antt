-- `put_command` meets its contract: sixteen numbers, and the kind behind them.
use mathlib.Core.Path.{◌≡◌, ◌∙◌}
use lib.ListN.{length}
use borrow.Author.Rules.{rules}
use Rattle.command.specs.Bytes.{pad}
use Rattle.command.specs.Rows.{row_of}
use Rattle.script_set.proofs.Laws.{one_behind}
use Rattle.script_set.proofs.put_command.Goals as goal

pub returns : goal.returns
returns c =
    let a = c.args in
    let o = c.of-row in
    let row : length o.result ≡ 16 = search rules in
    rw c.put_all.ensures (one_behind a.words.now o.result (pad 16 (row_of a.c)) a.i _ _ row o.ensures (c.from.ensures ∙ c.kind_of.ensures))
