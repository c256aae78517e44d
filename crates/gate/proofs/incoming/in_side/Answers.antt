-- The dispatched list says no, or the channels' lists say what is left of the rule.
use mathlib.Core.Path.{refl}
use mathlib.Core.Bool.{true, false}
use native.Mathlib.Omega.{arith}
use borrow.Author.Rules.{rules}
use Rattle.lists.specs.Rows.{row_at}
use Rattle.places.specs.Whole.{whole}
use Rattle.gate.proofs.Groups.{dispatched_is}
use Rattle.gate.proofs.Held.{dispatched_no, rest_says}
use Rattle.gate.proofs.incoming.in_side.Goals as goal

pub returns-in_default : goal.returns-in_default
returns-in_default c =
    let ws = c.args.words.now in
    dispatched_no c.args.count (whole ws) (row_at 142 12 ws) (dispatched_is ws) false c.list_sound.new.marks c.in_default.ensures.walks refl

pub held_sound-requires : goal.held_sound-requires
held_sound-requires c =
    let w = c.in-Some.ensures in
    record { count_le_channels = c.requires; marks_len = search rules; total_le_list_bytes = omega (arith, w.sums.low); blocks_le_incoming = omega (arith, w.counts.low) }

pub returns : goal.returns
returns c =
    let ws = c.args.words.now in
    let w = c.in-Some in
    rest_says c.args.count (whole ws) (row_at 142 12 ws) (dispatched_is ws) true c.list_sound.new.marks w.ensures.walks refl w.first.total w.first.blocks w.ensures.sums w.ensures.counts c.held_sound.result c.held_sound.ensures
