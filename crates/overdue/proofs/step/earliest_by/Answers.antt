-- `earliest_by` meets its contract: at each return the tests that led there pick the rule's case; the difference is the plain one.
use Rattle.std.proofs.Common.{◌≡◌, rules, eq-eqb, ne_eqb, le-leb}
use borrow.Author.Tests.{lt-leb}
use Rattle.numbers.specs.Modulo.{minus}
use Rattle.numbers.proofs.ModuloLaws.{minus_of}
use Rattle.overdue.proofs.step.earliest_by.Goals as goal

pub returns-then-earliest-eq0 : goal.returns-then-earliest-eq0
returns-then-earliest-eq0 c = rw (eq-eqb _ _ c.if-earliest-eq0.true)

pub returns-then-past-ge-OVERFLOW : goal.returns-then-past-ge-OVERFLOW
returns-then-past-ge-OVERFLOW c =
    let a = c.args in
    let plain : c.wrapping_sub_u32-past.result ≡ minus 32 a.sent a.earliest =
    minus_of a.sent a.earliest _ (search rules) (search rules) (search rules) c.wrapping_sub_u32-past.ensures.value in
    rw (ne_eqb _ _ c.if-earliest-eq0.false, ← plain, le-leb _ _ c.if-past-ge-OVERFLOW.true)

pub returns : goal.returns
returns c =
    let a = c.args in
    let plain : c.wrapping_sub_u32-past.result ≡ minus 32 a.sent a.earliest =
    minus_of a.sent a.earliest _ (search rules) (search rules) (search rules) c.wrapping_sub_u32-past.ensures.value in
    rw (ne_eqb _ _ c.if-earliest-eq0.false, ← plain, lt-leb _ _ c.if-past-ge-OVERFLOW.false)
