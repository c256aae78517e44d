-- `outgoing_slot` tells the nine numbers, the last of them a truth value, then the command: one row after the other.
use Prim.Native.Nat.{ℕ}
use mathlib.Core.Path.{◌≡◌, refl, ap, sym, ◌∙◌}
use mathlib.Core.List.{List, [], ◌∷◌}
use borrow.Author.Rules.{rules}
use mir.Val.{bool_byte}
use Rattle.numbers.specs.Pick.{pick}
use Rattle.command.specs.Rows.{row_of}
use Rattle.script.specs.Row.{told}
use Rattle.script.proofs.Laws.{told_then, grows_then}
use Rattle.script_record.proofs.Laws.{bit}
use Rattle.script_record.proofs.outgoing_slot.Goals as goal

pub returns : goal.returns
returns g c =
    let a = c.args in
    let s = a.s in
    let row : ℕ → List ℕ → List ℕ = λ x rest.
    s.reliable.0 ∷ s.unreliable.0 ∷ s.sent ∷ s.timeout ∷ s.queued ∷ s.offset ∷ s.length ∷ s.attempts ∷ x ∷ rest
    in
    let p = c.in_ok-row in
    let whole : told p.row (row_of s.command) ≡ told a.row (row (pick s.packet 1 0) (row_of s.command)) =
    told_then a.row p.row (told p.row (row_of s.command)) (row (bool_byte s.packet) []) (row_of s.command) p.ensures.value refl
    ∙ ap (λ (x : ℕ). told a.row (row x (row_of s.command))) (bit s.packet)
    in
    record { value = rw (sym whole) c.command.ensures.value; silent = search rules; front = grows_then (g.W.Write.contents a.out.now) (g.W.Write.contents c.put_all.new.out) _ p.ensures.front c.command.ensures.front }
