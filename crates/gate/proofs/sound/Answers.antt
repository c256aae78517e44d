-- The ranges, the outgoing half, the incoming half: the first that is not well says no.
use mathlib.Core.Path.{sym, ◌∙◌}
use lib.ListN.{get_or}
use borrow.Author.Tests.{not-true, not-false}
use Rattle.record.specs.Damage.{ranged}
use Rattle.peer.specs.Damage.{sound}
use Rattle.places.specs.Whole.{whole}
use Rattle.gate.specs.CodeHalves.{out_side, in_side}
use Rattle.gate.proofs.Stops.{first_no, second_no, third_says}
use Rattle.gate.proofs.Order.{sound_at, count_low}
use Rattle.gate.proofs.sound.Goals as goal

pub returns-then-not-ranged : goal.returns-then-not-ranged
returns-then-not-ranged c =
    let ws = c.args.words.now in
    first_no (ranged (get_or ws 39 0) (get_or ws 6 0)) (out_side (get_or ws 6 0) (whole ws)) (in_side (get_or ws 6 0) (whole ws)) (sound (whole ws)) (sound_at ws) (sym c.ranged.ensures ∙ not-true _ c.if-not-ranged.true-raw)

pub returns-then-not-out_side : goal.returns-then-not-out_side
returns-then-not-out_side c =
    let ws = c.args.words.now in
    second_no (ranged (get_or ws 39 0) (get_or ws 6 0)) (out_side (get_or ws 6 0) (whole ws)) (in_side (get_or ws 6 0) (whole ws)) (sound (whole ws)) (sound_at ws) (sym c.ranged.ensures ∙ not-false _ c.if-not-ranged.false-raw) (sym c.out_side.ensures ∙ not-true _ c.if-not-out_side.true-raw)

pub in_side-requires : goal.in_side-requires
in_side-requires c =
    let ws = c.args.words.now in
    count_low (get_or ws 39 0) (get_or ws 6 0) (sym c.ranged.ensures ∙ not-false _ c.if-not-ranged.false-raw)

pub returns : goal.returns
returns c =
    let ws = c.args.words.now in
    c.in_side.ensures ∙ third_says (ranged (get_or ws 39 0) (get_or ws 6 0)) (out_side (get_or ws 6 0) (whole ws)) (in_side (get_or ws 6 0) (whole ws)) (sound (whole ws)) (sound_at ws) (sym c.ranged.ensures ∙ not-false _ c.if-not-ranged.false-raw) (sym c.out_side.ensures ∙ not-false _ c.if-not-out_side.false-raw)
