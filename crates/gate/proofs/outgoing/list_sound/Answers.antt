-- A turn of the walk at a time: each return is where the list, the cell or the slot says so.
use Prim.Native.Nat.{ℕ}
use mathlib.Core.Path.{sym, ap, ◌∙◌}
use mathlib.Core.List.{List, map}
use native.Mathlib.Omega.{arith}
use lib.ListN.{length-set}
use Rattle.damage.specs.CodeOutWalks.{slot_grade, grade_passes, enough}
use Rattle.record.specs.declared.groups.Outgoing.{Outgoing}
use Rattle.places.specs.Whole.{whole}
use Rattle.gate.proofs.Turns.{Listed, long, end, turn_at, past, twice, unfit, turn}
use Rattle.places.proofs.PoolLaws.{pool_is}
use Rattle.gate.proofs.outgoing.list_sound.Goals as goal

pub returns-then-n-gt-OUTGOING : goal.returns-then-n-gt-OUTGOING
returns-then-n-gt-OUTGOING c =
    let a = c.args in
    let ws = a.words.now in
    let v = c.narrow-n in
    let f = grade_passes (map (slot_grade a.count) (whole ws).outgoing) a.sent in
    let i : Listed ws a.at 32 v.result = record { room = omega (arith, c.told-words, c.requires.at_bound); is = v.ensures } in
    long f ws a.at 32 v.result i a.marks.now a.marks.now c.if-n-gt-OUTGOING.true

pub returns-then-s-ge-OUTGOING : goal.returns-then-s-ge-OUTGOING
returns-then-s-ge-OUTGOING c =
    let a = c.args in
    let l = c.loop-cell in
    let t =
    turn_at (grade_passes (map (slot_grade a.count) (whole a.words.now).outgoing) a.sent) a.words.now a.at 32 c.narrow-n.result a.marks.now l.marks l.cell-index c.narrow-s.result
    (omega (arith, c.told-words, c.requires.at_bound)) c.narrow-n.ensures (omega arith) l.invariant.1 (omega arith) c.narrow-s.ensures
    in
    past t (omega arith)

pub returns-then-marks-s-eq1 : goal.returns-then-marks-s-eq1
returns-then-marks-s-eq1 c =
    let a = c.args in
    let l = c.loop-cell in
    let t =
    turn_at (grade_passes (map (slot_grade a.count) (whole a.words.now).outgoing) a.sent) a.words.now a.at 32 c.narrow-n.result a.marks.now l.marks l.cell-index c.narrow-s.result
    (omega (arith, c.told-words, c.requires.at_bound)) c.narrow-n.ensures (omega arith) l.invariant.1 (omega arith) c.narrow-s.ensures
    in
    twice t (omega arith) c.if-marks-s-eq1.true

pub returns-then-not-enough : goal.returns-then-not-enough
returns-then-not-enough c =
    let a = c.args in
    let l = c.loop-cell in
    let t =
    turn_at (grade_passes (map (slot_grade a.count) (whole a.words.now).outgoing) a.sent) a.words.now a.at 32 c.narrow-n.result a.marks.now l.marks l.cell-index c.narrow-s.result
    (omega (arith, c.told-words, c.requires.at_bound)) c.narrow-n.ensures (omega arith) l.invariant.1 (omega arith) c.narrow-s.ensures
    in
    let good =
    ap (λ (o : List Outgoing). grade_passes (map (slot_grade a.count) o) a.sent c.narrow-s.result) (pool_is a.words.now)
    ∙ ap (λ (w : ℕ). enough w a.sent) (sym c.grade_at-grade.ensures)
    ∙ sym c.enough.ensures
    in
    unfit t (omega arith) c.if-marks-s-eq1.false (good ∙ c.if-not-enough.true)

pub loop-cell-preserved : goal.loop-cell-preserved
loop-cell-preserved c =
    let a = c.args in
    let l = c.loop-cell in
    let t =
    turn_at (grade_passes (map (slot_grade a.count) (whole a.words.now).outgoing) a.sent) a.words.now a.at 32 c.narrow-n.result a.marks.now l.marks l.cell-index c.narrow-s.result
    (omega (arith, c.told-words, c.requires.at_bound)) c.narrow-n.ensures (omega arith) l.invariant.1 (omega arith) c.narrow-s.ensures
    in
    let good =
    ap (λ (o : List Outgoing). grade_passes (map (slot_grade a.count) o) a.sent c.narrow-s.result) (pool_is a.words.now)
    ∙ ap (λ (w : ℕ). enough w a.sent) (sym c.grade_at-grade.ensures)
    ∙ sym c.enough.ensures
    in
    (simp length-set l.invariant.0, turn t (omega arith) c.if-marks-s-eq1.false (good ∙ c.if-not-enough.false))

pub returns : goal.returns
returns c =
    let a = c.args in
    let ws = a.words.now in
    let v = c.narrow-n in
    let l = c.loop-cell in
    let f = grade_passes (map (slot_grade a.count) (whole ws).outgoing) a.sent in
    let i : Listed ws a.at 32 v.result = record { room = omega (arith, c.told-words, c.requires.at_bound); is = v.ensures } in
    end f ws a.at 32 v.result i (omega arith) a.marks.now l.marks l.cell-index l.invariant.1 (omega arith)
