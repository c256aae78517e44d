-- `divide` meets its contract: where one went back the lists are divided, and else nothing is done.
use mathlib.Core.Bool.{Bool}
use mathlib.Core.Path.{ap, sym, ◌∙◌}
use Rattle.numbers.specs.Pick.{pick}
use Rattle.peer.specs.Updates.{with_lists}
use Rattle.places.specs.Whole.{whole}
use Rattle.overdue.specs.Walking.{lists_by}
use Rattle.timeouts.proofs.divide.Goals as goal

pub returns-then-back : goal.returns-then-back
returns-then-back c =
    let a = c.args in
    let p = whole a.words.now in
    c.send_back.ensures ∙ ap (λ (b : Bool). pick b (with_lists p (lists_by a.marks.now p.lists)) p) (sym c.if-back.true)

pub returns-else-back : goal.returns-else-back
returns-else-back c =
    let a = c.args in
    let p = whole a.words.now in
    ap (λ (b : Bool). pick b (with_lists p (lists_by a.marks.now p.lists)) p) (sym c.if-back.false)
