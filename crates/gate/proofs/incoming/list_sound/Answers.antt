-- A turn of the walk at a time, as of an outgoing list, with the lengths summed and the blocks counted on the way.
use mathlib.Core.Path.{refl, sym, ◌∙◌}
use native.Mathlib.Omega.{arith}
use lib.ListN.{get_or, length-set}
use borrow.Author.Rules.{rules}
use Rattle.record.specs.Fresh.{no_incoming}
use Rattle.record.specs.Blocks.{is_block}
use Rattle.places.specs.Whole.{whole}
use Rattle.gate.specs.CodeHalves.{slot_passes}
use Rattle.gate.proofs.Turns.{Listed, left_all, long, end, turn_at, past, twice, unfit, turn, summed, summed_end, counted, counted_end}
use Rattle.gate.proofs.Sums.{short, at_most_one}
use Rattle.gate.proofs.incoming.list_sound.Goals as goal

pub returns-then-n-gt-INCOMING : goal.returns-then-n-gt-INCOMING
returns-then-n-gt-INCOMING c =
    let a = c.args in
    let ws = a.words.now in
    let v = c.narrow-n in
    let f = slot_passes (whole ws).marks (whole ws).incoming a.count a.own in
    let i : Listed ws a.at 12 v.result = record { room = omega (arith, c.told-words, c.requires.at_bound); is = v.ensures } in
    record { walks = long f ws a.at 12 v.result i a.marks.now a.marks.now c.if-n-gt-INCOMING.true; sums = tt; counts = tt }

pub loop-cell-init : goal.loop-cell-init
loop-cell-init c = (search rules, left_all _ _ _, refl, search rules, refl, search rules)

pub returns-then-s-ge-INCOMING : goal.returns-then-s-ge-INCOMING
returns-then-s-ge-INCOMING c =
    let a = c.args in
    let p = whole a.words.now in
    let l = c.loop-cell in
    let t =
    turn_at (slot_passes p.marks p.incoming a.count a.own) a.words.now a.at 12 c.narrow-n.result a.marks.now l.marks l.cell-index c.narrow-s.result
    (omega (arith, c.told-words, c.requires.at_bound)) c.narrow-n.ensures (omega arith) l.invariant.1 (omega arith) c.narrow-s.ensures
    in
    record { walks = past t (omega arith); sums = tt; counts = tt }

pub returns-then-marks-s-eq1 : goal.returns-then-marks-s-eq1
returns-then-marks-s-eq1 c =
    let a = c.args in
    let p = whole a.words.now in
    let l = c.loop-cell in
    let t =
    turn_at (slot_passes p.marks p.incoming a.count a.own) a.words.now a.at 12 c.narrow-n.result a.marks.now l.marks l.cell-index c.narrow-s.result
    (omega (arith, c.told-words, c.requires.at_bound)) c.narrow-n.ensures (omega arith) l.invariant.1 (omega arith) c.narrow-s.ensures
    in
    record { walks = twice t (omega arith) c.if-marks-s-eq1.true; sums = tt; counts = tt }

pub returns-then-not-slot_passes : goal.returns-then-not-slot_passes
returns-then-not-slot_passes c =
    let a = c.args in
    let p = whole a.words.now in
    let l = c.loop-cell in
    let t =
    turn_at (slot_passes p.marks p.incoming a.count a.own) a.words.now a.at 12 c.narrow-n.result a.marks.now l.marks l.cell-index c.narrow-s.result
    (omega (arith, c.told-words, c.requires.at_bound)) c.narrow-n.ensures (omega arith) l.invariant.1 (omega arith) c.narrow-s.ensures
    in
    record { walks = unfit t (omega arith) c.if-marks-s-eq1.false (sym c.slot_passes.ensures ∙ c.if-not-slot_passes.true); sums = tt; counts = tt }

pub overflow_add-walk : goal.overflow_add-walk
overflow_add-walk c =
    let a = c.args in
    let p = whole a.words.now in
    let passed = sym c.slot_passes.ensures ∙ c.if-not-slot_passes.false in
    omega (arith, c.length_at.ensures, short p.marks p.incoming a.count a.own c.narrow-s.result passed)

pub loop-cell-preserved : goal.loop-cell-preserved
loop-cell-preserved c =
    let a = c.args in
    let p = whole a.words.now in
    let l = c.loop-cell in
    let t =
    turn_at (slot_passes p.marks p.incoming a.count a.own) a.words.now a.at 12 c.narrow-n.result a.marks.now l.marks l.cell-index c.narrow-s.result
    (omega (arith, c.told-words, c.requires.at_bound)) c.narrow-n.ensures (omega arith) l.invariant.1 (omega arith) c.narrow-s.ensures
    in
    let passed = sym c.slot_passes.ensures ∙ c.if-not-slot_passes.false in
    let low = short p.marks p.incoming a.count a.own c.narrow-s.result passed in
    let sum = summed t p.incoming in
    let count = counted t p.incoming in
    let few = at_most_one (is_block (get_or p.incoming c.narrow-s.result no_incoming)) in
    let block_is = c.block_at.ensures in
    let length_is = c.length_at.ensures in (
      simp length-set l.invariant.0,
      turn t (omega arith) c.if-marks-s-eq1.false passed,
      omega arith,
      omega arith,
      omega arith,
      omega arith,
    )

pub returns : goal.returns
returns c =
    let a = c.args in
    let ws = a.words.now in
    let v = c.narrow-n in
    let slots = (whole ws).incoming in
    let f = slot_passes (whole ws).marks slots a.count a.own in
    let i : Listed ws a.at 12 v.result = record { room = omega (arith, c.told-words, c.requires.at_bound); is = v.ensures } in
    let l = c.loop-cell in
    let sum = summed_end f ws a.at 12 v.result i (omega arith) a.marks.now l.marks l.cell-index l.invariant.1 slots (omega arith) in
    let count = counted_end f ws a.at 12 v.result i (omega arith) a.marks.now l.marks l.cell-index l.invariant.1 slots (omega arith) in record {
      walks = end f ws a.at 12 v.result i (omega arith) a.marks.now l.marks l.cell-index l.invariant.1 (omega arith);
      sums = record { is = omega arith; low = omega arith };
      counts = record { is = omega arith; low = omega arith };
    }
