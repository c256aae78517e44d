-- Whether the whole list names a block is whether what is left of it does, a turn at a time.
use Prim.Native.Nat.{ℕ, ◌≤◌}
use mathlib.Core.Path.{ap, sym, ◌∙◌}
use mathlib.Core.Bool.{not}
use mathlib.Core.List.{List}
use native.Mathlib.Omega.{arith}
use lib.Dec.{eqb}
use lib.ListN.{length}
use lib.Seq.{take_all}
use Rattle.lists.specs.Rows.{row_at, items_of}
use Rattle.record.specs.Damage.{blocks}
use Rattle.places.specs.Whole.{whole}
use Rattle.arrive_fragment.proofs.SearchLaws.{block_hit, block_miss, block_end}
use Rattle.arrive_fragment.proofs.searching.block_in.Goals as goal

pub returns-then-is_block : goal.returns-then-is_block
returns-then-is_block c =
    let u = c.is_block in
    let n = c.count-k-end in
    let a = c.args in
    let p = whole a.words.now in
    let xs = items_of (row_at a.at 12 a.words.now) in
    let low : n.result ≤ length xs = omega (arith, n.ensures) in
    let all = take_all n.result xs (omega (arith, n.ensures)) in
    let hit = block_hit p.incoming xs n.result c.loop-k.k low c.loop-k-test.true c.slot_at-s.result c.slot_at-s.ensures c.incoming_at-slot.result c.incoming_at-slot.ensures (sym u.ensures ∙ c.if-is_block.true) in
    sym (ap (λ (x : ℕ). not (eqb x 0)) c.loop-k.invariant ∙ hit) ∙ ap (λ (ys : List ℕ). not (eqb (blocks p.incoming ys) 0)) all

pub loop-k-preserved : goal.loop-k-preserved
loop-k-preserved c =
    let u = c.is_block in
    let n = c.count-k-end in
    let a = c.args in
    let p = whole a.words.now in
    let xs = items_of (row_at a.at 12 a.words.now) in
    let h = c.loop-k-test.true in
    let low : n.result ≤ length xs = omega (arith, n.ensures) in
    let miss = block_miss p.incoming xs n.result c.loop-k.k low h c.slot_at-s.result c.slot_at-s.ensures c.incoming_at-slot.result c.incoming_at-slot.ensures (sym u.ensures ∙ c.if-is_block.false) in
    c.loop-k.invariant ∙ miss

pub returns : goal.returns
returns c =
    let n = c.count-k-end in
    let a = c.args in
    let p = whole a.words.now in
    let xs = items_of (row_at a.at 12 a.words.now) in
    let all = take_all n.result xs (omega (arith, n.ensures)) in
    let end = block_end p.incoming xs n.result c.loop-k.k (omega (arith, c.loop-k-test.false)) in
    sym (ap (λ (x : ℕ). not (eqb x 0)) (c.loop-k.invariant ∙ end)) ∙ ap (λ (ys : List ℕ). not (eqb (blocks p.incoming ys) 0)) all
