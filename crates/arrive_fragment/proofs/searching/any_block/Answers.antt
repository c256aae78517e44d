-- A block in dispatched, or in a channel's list: what is named is the one list and then the others.
use mathlib.Core.Path.{ap, sym, ◌∙◌}
use mathlib.Core.Bool.{not}
use mathlib.Core.List.{◌++◌}
use lib.Dec.{eqb}
use Rattle.lists.specs.Rows.{row_at, items_of}
use Rattle.record.specs.Lists.{in_items}
use Rattle.record.specs.Damage.{below, held, blocks}
use Rattle.record.specs.declared.incoming.InList.{InList}
use Rattle.record.specs.declared.groups.Standing.{Standing}
use Rattle.places.specs.Whole.{whole}
use Rattle.gate.proofs.Groups.{dispatched_is}
use Rattle.arrive_fragment.proofs.SearchLaws.{in_either, in_second}
use Rattle.arrive_fragment.proofs.searching.any_block.Goals as goal

pub returns-then-block_in : goal.returns-then-block_in
returns-then-block_in c =
    let b = c.block_in in
    let ws = c.args.words.now in
    let p = whole ws in
    let rest = held (below p.channels p.standing.channels) in
    in_either p.incoming (items_of (row_at 142 12 ws)) rest (sym b.ensures ∙ c.if-block_in.true)
    ∙ sym (ap (λ (l : InList). not (eqb (blocks p.incoming (in_items l ++ rest)) 0)) (dispatched_is ws))

pub returns : goal.returns
returns c =
    let b = c.block_in in
    let ws = c.args.words.now in
    let p = whole ws in
    let rest = held (below p.channels p.standing.channels) in
    let e = c.block_held.ensures ∙ ap (λ (s : Standing). not (eqb (blocks p.incoming (held (below p.channels s.channels))) 0)) c.standing-standing.ensures in
    in_second p.incoming (items_of (row_at 142 12 ws)) rest (sym b.ensures ∙ c.if-block_in.false) c.block_held.result e
    ∙ sym (ap (λ (l : InList). not (eqb (blocks p.incoming (in_items l ++ rest)) 0)) (dispatched_is ws))
