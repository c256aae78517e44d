-- `incoming` meets its contract: each number cut to the bits of its place, written where the slot is used.
use mathlib.Core.Path.{◌∙◌}
use native.Mathlib.Omega.{arith}
use Rattle.order.proofs.PartLaws.{in_slot_place, in_slot_narrow, in_slot_wide}
use Rattle.order.proofs.parts.incoming.Goals as goal

pub returns-then-j-lt2 : goal.returns-then-j-lt2
returns-then-j-lt2 c =
    let a = c.args in
    c.written_if.ensures ∙ rw (c.byte.ensures, ← c.incoming-is_written.ensures) (in_slot_place a.words.now c.incoming-is_written.result a.s a.j 8 (omega arith) (omega arith) (in_slot_narrow a.j (omega arith)))

pub returns-then-j-eq2 : goal.returns-then-j-eq2
returns-then-j-eq2 c =
    let a = c.args in
    c.written_if-then-j-eq2.ensures ∙ rw (c.short.ensures, ← c.incoming-is_written.ensures) (in_slot_place a.words.now c.incoming-is_written.result a.s a.j 16 (omega arith) (omega arith) (rw c.if-j-eq2.true))

pub returns : goal.returns
returns c =
    let a = c.args in
    c.written_if-2.ensures ∙ rw (c.long.ensures, ← c.incoming-is_written.ensures) (in_slot_place a.words.now c.incoming-is_written.result a.s a.j 32 (omega arith) (omega arith) (in_slot_wide a.j (omega arith) (omega arith)))
