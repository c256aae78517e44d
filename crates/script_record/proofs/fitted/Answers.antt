-- `fitted` meets its contract: the row so far is the first numbers told, and the kind has one at each of their places.
use Prim.Native.Nat.{◌<◌, ◌≤◌}
use mathlib.Core.Path.{◌≡◌, sym}
use native.Mathlib.Omega.{arith}
use lib.ListN.{length}
use borrow.Author.Rules.{rules}
use Rattle.command.specs.Layout.{layout}
use Rattle.command.proofs.LayoutLaws.{layout-length}
use Rattle.script.proofs.Laws.{told_more, told_none, grows_none, grows_then}
use Rattle.script_record.proofs.Widths.{has_number, has_none}
use Rattle.script_record.proofs.fitted.Goals as goal

pub loop-j-init : goal.loop-j-init
loop-j-init g c = (search rules, sym (told_none c.args.row), grows_none (g.W.Write.contents c.args.out.now))

pub loop-j-preserved : goal.loop-j-preserved
loop-j-preserved g c =
    let a = c.args in
    let l = c.loop-j in
    let put = c.in_ok-after in
    let w = c.width_of in
    let more : l.j < length (layout a.kind) = has_number a.kind l.j w.result w.ensures (omega arith) in (
      omega arith,
      told_more a.row l.after put.after a.numbers l.j (omega arith) l.invariant.1 put.ensures.value,
      grows_then (g.W.Write.contents a.out.now) (g.W.Write.contents l.out) _ l.invariant.2 put.ensures.front,
    )

pub returns-then-width_of-eq0-clause-value : goal.returns-then-width_of-eq0-clause-value
returns-then-width_of-eq0-clause-value g c =
    let a = c.args in
    let l = c.loop-j in
    let w = c.width_of in
    let none : length (layout a.kind) ≤ l.j = has_none a.kind l.j w.result w.ensures (omega arith) in
    let n : l.j ≡ length (layout a.kind) = omega arith in
    rw (← n) l.invariant.1

pub returns-clause-value : goal.returns-clause-value
returns-clause-value g c =
    let a = c.args in
    let l = c.loop-j in
    let n : l.j ≡ length (layout a.kind) = omega (arith, layout-length a.kind) in
    rw (← n) l.invariant.1

pub returns-in_err-after-clause-front : goal.returns-in_err-after-clause-front
returns-in_err-after-clause-front g c =
    grows_then (g.W.Write.contents c.args.out.now) (g.W.Write.contents c.loop-j.out) _ c.loop-j.invariant.2 c.in_err-after.ensures.front
