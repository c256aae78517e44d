-- `write_words` puts a word a turn: putting the words that are left always leads to the same bytes.
use mathlib.Core.Path.{ap, sym, ◌∙◌}
use mathlib.Core.List.{List}
use Prim.Native.Nat.{ℕ, ◌+◌}
use native.Mathlib.Omega.{arith}
use Rattle.exports.proofs.Words.{rest, put_step, put_done}
use Rattle.exports.proofs.write_words.Goals as goal

pub loop-i-preserved : goal.loop-i-preserved
loop-i-preserved c =
    let l = c.loop-i in
    let at = c.args.at in
    let words = c.args.words.now in
    ap (λ (s : List ℕ). rest at words s (l.i + 1)) c.put_word.ensures ∙ put_step at words l.out l.i (omega arith) ∙ l.invariant

pub returns : goal.returns
returns c = sym (put_done c.args.at c.args.words.now c.loop-i.out c.loop-i.i (omega arith)) ∙ c.loop-i.invariant
