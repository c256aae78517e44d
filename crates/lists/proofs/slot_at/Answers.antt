-- `slot_at` meets its contract: past the end there is 0; else place k is a cell, read.
use mathlib.Core.Path.{sym, ◌∙◌}
use native.Mathlib.Omega.{arith}
use lib.ListN.{get_or-eq_default}
use Rattle.lists.specs.Rows.{row_at, items_of}
use Rattle.lists.proofs.Placed.{item_at}
use Rattle.lists.proofs.slot_at.Goals as goal

pub returns-then-count-k : goal.returns-then-count-k
returns-then-count-k c =
    let a = c.args in
    sym (get_or-eq_default (items_of (row_at a.at a.size a.words.now)) 0 (omega (arith, c.count.ensures, c.if-count-k.true)))

pub returns : goal.returns
returns c =
    let a = c.args in
    c.low16.ensures ∙ item_at a.words.now a.at a.size c.requires a.k (omega (arith, c.count.ensures, c.if-count-k.false))
