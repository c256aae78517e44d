-- Whether the channels below the count hold a block is whether those that are left do, a channel at a time.
use Prim.Native.Nat.{ℕ, ◌+◌, ◌*◌, ◌<◌, ◌≤◌}
use mathlib.Core.Path.{◌≡◌, ap, sym, ◌∙◌}
use mathlib.Core.Bool.{not}
use native.Mathlib.Omega.{arith}
use lib.Dec.{eqb}
use lib.ListN.{length, take, drop, length-take, drop_of_length-le}
use Rattle.lists.specs.Rows.{row_at, items_of}
use Rattle.record.specs.Lists.{in_items}
use Rattle.record.specs.declared.incoming.InList.{InList}
use Rattle.places.specs.Whole.{whole}
use Rattle.places.proofs.Sized.{sized}
use Rattle.places.proofs.ChannelLaws.{held_is}
use Rattle.arrive_fragment.proofs.SearchLaws.{channel_hit, channel_miss, channels_end}
use Rattle.arrive_fragment.proofs.searching.block_held.Goals as goal

pub returns-then-block_in : goal.returns-then-block_in
returns-then-block_in c =
    let b = c.block_in in
    let a = c.args in
    let ws = a.words.now in
    let cs = (whole ws).channels in
    let k = c.loop-k.k in
    let size : length cs ≡ 8 = (sized ws).channels in
    let h : k < a.count = omega arith in
    let low : k < length cs = omega arith in
    let is = ap (λ (l : InList). in_items l) (held_is ws k (omega arith) c.told-words) in
    let hit = channel_hit (whole ws).incoming cs a.count k (items_of (row_at (194 + k * 17 + 4) 12 ws)) is h low (sym b.ensures ∙ c.if-block_in.true) in
    sym (ap (λ (x : ℕ). not (eqb x 0)) c.loop-k.invariant ∙ hit)

pub loop-k-preserved : goal.loop-k-preserved
loop-k-preserved c =
    let b = c.block_in in
    let a = c.args in
    let ws = a.words.now in
    let cs = (whole ws).channels in
    let k = c.loop-k.k in
    let size : length cs ≡ 8 = (sized ws).channels in
    let h : k < a.count = omega arith in
    let low : k < length cs = omega arith in
    let is = ap (λ (l : InList). in_items l) (held_is ws k (omega arith) c.told-words) in
    let miss = channel_miss (whole ws).incoming cs a.count k (items_of (row_at (194 + k * 17 + 4) 12 ws)) is h low (sym b.ensures ∙ c.if-block_in.false) in
    c.loop-k.invariant ∙ miss

pub returns : goal.returns
returns c =
    let a = c.args in
    let cs = (whole a.words.now).channels in
    let size : length cs ≡ 8 = (sized a.words.now).channels in
    let over : length (take a.count cs) ≤ c.loop-k.k = simp length-take (omega arith) in
    let rest = drop_of_length-le (take a.count cs) {i = c.loop-k.k} over in
    sym (ap (λ (x : ℕ). not (eqb x 0)) (c.loop-k.invariant ∙ channels_end (whole a.words.now).incoming (drop c.loop-k.k (take a.count cs)) rest))
