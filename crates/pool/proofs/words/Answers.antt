-- Each number at its place, the row and the kind behind them; and the slot has its types' widths.
use mathlib.Core.Path.{ap, ◌∙◌}
use Rattle.pool.specs.Slots.{slot_from}
use Rattle.pool.proofs.Decoding.{slot_back, words_made}
use Rattle.pool.proofs.Typed.{widths}
use Rattle.pool.proofs.words.Goals as goal

pub returns : goal.returns
returns c =
    let o = c.args.slot in
    let e = words_made o c.flag_of.result c.kind_of.result c.of-row.result c.copy.new.to c.copy-2.new.to c.flag_of.ensures c.kind_of.ensures c.of-row.ensures c.copy.ensures c.copy-2.ensures in
    (e, ap slot_from e ∙ slot_back o (widths o c.struct_known-1.given))
