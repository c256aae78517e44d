-- Past the end nothing changes; else the slot's numbers are pasted over its part of the pool.
use mathlib.Core.Path.{◌≡◌, sym, ap, ◌∙◌}
use lib.ListN.{length, set}
use Rattle.pool.specs.Slots.{slot_from, slots_of}
use Rattle.pool.proofs.Rows.{rows_out}
use Rattle.pool.proofs.Slots.{slots_put}
use Rattle.pool.proofs.Decoding.{words_length}
use Rattle.pool.proofs.put.Goals as goal

pub returns-then-i-ge-OUTGOING : goal.returns-then-i-ge-OUTGOING
returns-then-i-ge-OUTGOING c =
    let a = c.args in
    sym (rows_out slot_from 26 32 a.pool.now a.i a.slot c.if-i-ge-OUTGOING.true)

pub returns : goal.returns
returns c =
    let a = c.args in
    let part = c.words-part.result in
    let l : length part ≡ 26 = ap length c.words-part.ensures.0 ∙ words_length a.slot in
    ap slots_of c.copy.ensures
    ∙ slots_put a.pool.now a.i part c.if-i-ge-OUTGOING.false c.requires l
    ∙ ap (set (slots_of a.pool.now) a.i) c.words-part.ensures.1
