-- `command` tells the command's row: cut where its kind has no number more, the row with zeros at its end is the row.
use mathlib.Core.Path.{sym}
use Rattle.script_record.proofs.Widths.{row_whole}
use Rattle.script_record.proofs.command.Goals as goal

pub returns-clause-value : goal.returns-clause-value
returns-clause-value g c =
    let a = c.args in
    let k = c.kind_of in
    let r = c.of in
    rw (sym (row_whole a.c k.result r.result k.ensures r.ensures)) c.fitted.ensures.value
