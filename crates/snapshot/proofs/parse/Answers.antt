-- `parse` meets its contract: edition, numbers and stored bytes are read one behind the other, each by the rule's case.
use Prim.Native.Nat.{ℕ}
use mathlib.Core.Path.{ap, ◌∙◌}
use mathlib.Core.List.{List}
use native.Mathlib.Omega.{arith}
use lib.ListN.{drop}
use Rattle.std.specs.Prelude.{Option}
use Rattle.snapshot_parts.specs.Row.{numbers_from, result_of}
use Rattle.snapshot.proofs.RestoreLaws.{edition_none, numbers_none, bytes_other, bytes_all}
use Rattle.snapshot.proofs.parse.Goals as goal

pub returns-in_err-at-clause-snapshot : goal.returns-in_err-at-clause-snapshot
returns-in_err-at-clause-snapshot c =
    let a = c.args in
    ap (λ (r : Option ℕ). result_of r a.words.now a.bytes.now) c.from_residual.ensures ∙ edition_none a.bytes.now c.in_err-at.ensures.edition

pub returns-in_err-end-clause-snapshot : goal.returns-in_err-end-clause-snapshot
returns-in_err-end-clause-snapshot c =
    let bs = c.args.bytes.now in
    let at = c.in_ok-at.at in
    ap (λ (r : Option ℕ). result_of r c.read.new.words bs) c.from_residual-in_err-end.ensures
    ∙ numbers_none bs at c.in_ok-at.ensures.edition
    (c.in_err-end.ensures.numbers ∙ ap (λ (ws : List ℕ). numbers_from 1236 0 ws (drop at bs)) c.requires)

pub returns-then-bytes-end-clause-snapshot : goal.returns-then-bytes-end-clause-snapshot
returns-then-bytes-end-clause-snapshot c =
    let bs = c.args.bytes.now in
    let at = c.in_ok-at.at in
    bytes_other bs at c.in_ok-at.ensures.edition c.read.new.words c.in_ok-end.end
    (c.in_ok-end.ensures.numbers ∙ ap (λ (ws : List ℕ). numbers_from 1236 0 ws (drop at bs)) c.requires)
    (λ h. omega (arith, c.if-bytes-end.true, c.size.ensures))

pub returns-clause-snapshot : goal.returns-clause-snapshot
returns-clause-snapshot c =
    let bs = c.args.bytes.now in
    let at = c.in_ok-at.at in
    bytes_all bs at c.in_ok-at.ensures.edition c.read.new.words c.in_ok-end.end
    (c.in_ok-end.ensures.numbers ∙ ap (λ (ws : List ℕ). numbers_from 1236 0 ws (drop at bs)) c.requires)
    (omega (arith, c.if-bytes-end.false, c.size.ensures))
