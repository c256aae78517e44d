-- `used_slot` meets its contract: its two cases are those of the choice.
use mathlib.Core.Path.{ap, sym, ◌∙◌}
use mathlib.Core.Bool.{Bool}
use lib.ListN.{get_or}
use Rattle.numbers.specs.Pick.{pick}
use Rattle.record.specs.Fresh.{no_incoming}
use Rattle.places.specs.Whole.{whole}
use Rattle.snapshot_parts.proofs.stored.used_slot.Goals as goal

pub returns : goal.returns
unfolding no_incoming
returns c =
    let a = c.args in
    let slot = get_or (whole a.words.now).incoming a.s no_incoming in
    ap (λ (b : Bool). pick b slot no_incoming) (sym c.if-incoming.false ∙ c.incoming.ensures)
