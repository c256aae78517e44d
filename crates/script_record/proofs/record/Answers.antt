-- `record` meets its contract: the row so far is that of the places before i.
use mathlib.Core.Path.{◌≡◌, ap, ◌∙◌}
use mathlib.Core.List.{[], ◌∷◌}
use native.Mathlib.Omega.{arith}
use lib.ListN.{length, get_or}
use borrow.Author.Rules.{rules}
use Rattle.numbers.specs.Pick.{pick}
use Rattle.places.specs.Whole.{whole}
use Rattle.order.specs.Table.{table, nowhere}
use Rattle.order.specs.declared.Place.{Place}
use Rattle.order.proofs.WholeLaws.{table-length}
use Rattle.script.specs.Row.{told}
use Rattle.script_record.proofs.Laws.{place_none, place_more, place_all}
use Rattle.script.proofs.Laws.{grows_none, grows_then}
use Rattle.script_record.proofs.record.Goals as goal

pub loop-i-init : goal.loop-i-init
loop-i-init g c = (place_none c.args.row, grows_none (g.W.Write.contents c.args.out.now))

pub loop-i-preserved : goal.loop-i-preserved
loop-i-preserved g c =
    let es = table (whole c.args.words.now) in
    let l = c.loop-i in
    let put = c.in_ok-after in
    let n : length es ≡ 1236 = table-length c.args.words.now (search rules) in
    let e : c.place_at.result ≡ get_or es l.i nowhere = c.place_at.ensures in (
      place_more c.args.row l.after put.after es l.i (omega arith) l.invariant.0 (put.ensures.value ∙ ap (λ (q : Place). pick q.is_written (told l.after (q.number ∷ [])) l.after) e),
      grows_then (g.W.Write.contents c.args.out.now) (g.W.Write.contents l.out) _ l.invariant.1 put.ensures.front,
    )

pub returns-clause-value : goal.returns-clause-value
returns-clause-value g c =
    let es = table (whole c.args.words.now) in
    let n : length es ≡ 1236 = table-length c.args.words.now (search rules) in
    place_all c.args.row c.loop-i.after es c.loop-i.i (omega arith) c.loop-i.invariant.0

pub returns-in_err-after-clause-front : goal.returns-in_err-after-clause-front
returns-in_err-after-clause-front g c =
    grows_then (g.W.Write.contents c.args.out.now) (g.W.Write.contents c.loop-i.out) _ c.loop-i.invariant.1 c.in_err-after.ensures.front
