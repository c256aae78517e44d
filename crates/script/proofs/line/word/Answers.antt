-- `word` meets its contract: what the writer took so far, and then what it took of the rest; an error leaves what was taken before it.
use Rattle.std.proofs.Common.{◌≡◌, ℕ, ◌+◌, ◌-◌, ◌≤◌, List, ◌++◌, length, take, drop, ap, sym, subst, ◌∙◌, arith, length-drop, take_all}
use Rattle.std.proofs.Math.Seq.{take-add}
use Rattle.std.specs.Io.KnownBytes.{Appends}
use Rattle.script.proofs.Laws.{grows_then, grows_by, appends_then}
use Rattle.script.proofs.line.word.Goals as goal

pub returns-in_err-at-clause-front : goal.returns-in_err-at-clause-front
returns-in_err-at-clause-front g c =
    grows_then (g.W.Write.contents c.args.out.now) (g.W.Write.contents c.loop.out) (g.W.Write.contents c.some.new.out)
    (grows_by _ _ (take c.loop.at c.args.s.now) c.loop.invariant.1) c.in_err-at.ensures.kept

pub loop-preserved : goal.loop-preserved
loop-preserved g c =
    let at = c.loop.at in
    let s = c.args.s.now in
    let n = c.in_ok-at.field-0 in
    let i = c.loop.invariant.0 in
    let left : length (drop at s) ≤ length s - at = simp length-drop (omega arith) in
    let rest : take (length s - at) (drop at s) ≡ drop at s = take_all (length s - at) (drop at s) left in
    let few : n ≤ length (drop at s) = rw rest at c.in_ok-at.ensures.few in
    let taken : take at s ++ take n (take (length s - at) (drop at s)) ≡ take (at + n) s = ap (λ (r : List ℕ). take at s ++ take n r) rest ∙ sym (take-add at n s) in
    let both = appends_then (g.W.Write.contents c.args.out.now) (g.W.Write.contents c.loop.out) (g.W.Write.contents c.some.new.out) _ _ c.loop.invariant.1 c.in_ok-at.ensures.text in
    let room = simp length-drop at few in
    (omega arith, subst (λ (bs : List ℕ). Appends (g.W.Write.contents c.args.out.now) (g.W.Write.contents c.some.new.out) bs) taken both)
