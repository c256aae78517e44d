-- `outgoing` meets its contract: its numbers, its command's and its kind, the first two written where the slot is used.
use Prim.Native.Nat.{◌+◌, ◌*◌, ◌%◌}
use mathlib.Core.Path.{◌∙◌}
use native.Mathlib.Omega.{arith}
use lib.ListN.{get_or}
use Rattle.order.proofs.SlotLaws.{slot_number_place, slot_kind_place, slot_command_place}
use Rattle.order.proofs.parts.outgoing.Goals as goal

pub returns-then-j-lt-OWN : goal.returns-then-j-lt-OWN
returns-then-j-lt-OWN c =
    let a = c.args in
    c.written_if.ensures ∙ rw (c.slot_number.ensures, ← c.outgoing-is_used.ensures) (slot_number_place a.words.now a.s (omega arith) c.outgoing-is_used.result a.j (omega arith))

pub returns-then-j-eq-KIND : goal.returns-then-j-eq-KIND
returns-then-j-eq-KIND c =
    let a = c.args in
    c.written_if-then-j-eq-KIND.ensures ∙ rw (c.byte.ensures, ← c.outgoing-is_used.ensures) (slot_kind_place a.words.now a.s (omega arith) c.outgoing-is_used.result a.j (get_or a.words.now (330 + a.s * 26 + a.j) 0 % 256) c.if-j-eq-KIND.true)

pub returns : goal.returns
returns c =
    let a = c.args in
    c.written_if-2.ensures ∙ rw (c.command.ensures, ← c.outgoing-is_used.ensures) (slot_command_place a.words.now a.s (omega arith) c.outgoing-is_used.result a.j (omega arith) (omega arith))
