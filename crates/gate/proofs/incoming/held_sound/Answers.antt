-- The lists of all the channels below the count are those that are left, from the marks, the sum and the count so far, a channel at a time.
use Prim.Native.Nat.{◌+◌, ◌*◌}
use mathlib.Core.Path.{◌≡◌, refl, ap, ◌∙◌}
use mathlib.Core.Bool.{true, false}
use native.Mathlib.Omega.{arith}
use lib.ListN.{take}
use borrow.Author.Rules.{rules}
use borrow.Author.Tests.{eq-eqb, ne_eqb}
use Rattle.lists.specs.Rows.{row_at}
use Rattle.record.specs.Damage.{held, lengths, blocks, one_block}
use Rattle.record.specs.declared.groups.Marks.{Marks}
use Rattle.damage.proofs.HeldLaws.{held_sum_end, held_blocks_end}
use Rattle.places.specs.Whole.{whole}
use Rattle.places.proofs.ChannelLaws.{held_is}
use Rattle.gate.proofs.Groups.{total_is}
use Rattle.places.proofs.Sized.{sized}
use Rattle.gate.proofs.Held.{HeldTurn, held_stop, held_turn, held_sums, held_counts, held_end}
use Rattle.gate.proofs.incoming.held_sound.Goals as goal

pub loop-k-init : goal.loop-k-init
loop-k-init c = (search rules, refl, refl, search rules, refl, search rules)

pub returns-in_default : goal.returns-in_default
returns-in_default c =
    let a = c.args in
    let ws = a.words.now in
    let p = whole ws in
    let m = c.loop-k in
    let t : HeldTurn p.marks p.incoming a.count p.channels a.count m.k (row_at (194 + m.k * 17 + 4) 12 ws) m.marks false c.list_sound.new.marks =
    record {
      long = omega (arith, (sized ws).channels, c.requires.count_le_channels);
      here = omega arith;
      is = held_is ws m.k (omega (arith, c.requires.count_le_channels)) c.told-words;
      walk = c.in_default.ensures.walks;
    }
    in
    rw (m.invariant.1, held_stop t refl)

pub loop-k-preserved : goal.loop-k-preserved
loop-k-preserved c =
    let a = c.args in
    let ws = a.words.now in
    let p = whole ws in
    let m = c.loop-k in
    let w = c.in-Some in
    let t : HeldTurn p.marks p.incoming a.count p.channels a.count m.k (row_at (194 + m.k * 17 + 4) 12 ws) m.marks true c.list_sound.new.marks =
    record {
      long = omega (arith, (sized ws).channels, c.requires.count_le_channels);
      here = omega arith;
      is = held_is ws m.k (omega (arith, c.requires.count_le_channels)) c.told-words;
      walk = w.ensures.walks;
    }
    in (
      search rules,
      m.invariant.1 ∙ held_turn t refl,
      m.invariant.2 ∙ held_sums t m.walk.total w.next.total w.ensures.sums,
      omega (arith, w.ensures.sums.low),
      m.invariant.4 ∙ held_counts t m.walk.blocks w.next.blocks w.ensures.counts,
      omega (arith, w.ensures.counts.low),
    )

pub returns-then-words-walk : goal.returns-then-words-walk
returns-then-words-walk c =
    let a = c.args in
    let ws = a.words.now in
    let slots = (whole ws).incoming in
    let cs = (whole ws).channels in
    let m = c.loop-k in
    let end = held_sum_end slots cs a.count m.k (omega arith) in
    let sum : a.before.total + lengths slots (held (take a.count cs)) ≡ m.walk.total = omega arith in
    rw (m.invariant.1, held_end (whole ws).marks slots a.count cs a.count m.k m.marks (omega arith), sum, total_is ws, ne_eqb _ _ c.if-words-walk.true)

pub returns : goal.returns
returns c =
    let a = c.args in
    let ws = a.words.now in
    let slots = (whole ws).incoming in
    let cs = (whole ws).channels in
    let m = c.loop-k in
    let end = held_sum_end slots cs a.count m.k (omega arith) in
    let last = held_blocks_end slots cs a.count m.k (omega arith) in
    let sum : a.before.total + lengths slots (held (take a.count cs)) ≡ m.walk.total = omega arith in
    let count : a.before.blocks + blocks slots (held (take a.count cs)) ≡ m.walk.blocks = omega arith in
    rw (m.invariant.1, held_end (whole ws).marks slots a.count cs a.count m.k m.marks (omega arith), sum, count, total_is ws, eq-eqb _ _ c.if-words-walk.false)
    (c.one_block.ensures ∙ ap (λ (x : Marks). one_block x m.walk.blocks) c.marks.ensures)
