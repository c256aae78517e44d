-- `none_from` answers whether no piece from k on is marked: a word shifted by k is 0 exactly when it has no bit from k on.
use Rattle.std.proofs.Common.{sym, ◌∙◌, arith, rules, eq-eqb, ne_eqb}
use Rattle.blocks.proofs.Counting.{none_low, none_high, none_past}
use Rattle.blocks.proofs.none_from.Goals as goal

pub returns-then-m-ne0 : goal.returns-then-m-ne0
returns-then-m-ne0 c =
    let a = c.args in
    sym (none_low a.m (search rules) (search rules) a.k (omega arith) ∙ simp (ne_eqb _ _ c.if-m-ne0.true))

pub returns-then-k-lt-WORD : goal.returns-then-k-lt-WORD
returns-then-k-lt-WORD c =
    let a = c.args in
    sym (none_low a.m (search rules) (search rules) a.k (omega arith) ∙ simp (eq-eqb _ _ c.if-m-ne0.false))

pub returns-then-k-lt-PIECES : goal.returns-then-k-lt-PIECES
returns-then-k-lt-PIECES c =
    let a = c.args in
    sym (none_high a.m (search rules) (search rules) a.k (omega arith) (omega arith))

pub returns : goal.returns
returns c =
    let a = c.args in
    sym (eq-eqb _ _ (none_past a.m a.k c.if-k-lt-PIECES.false))
